-- `symbol_sets::symbol_types` meets its contract. Assumes nothing.
use Rattle.datatype.specs.SymbolSets.{keeps_symbols}
use Rattle.symbol_sets.proofs.Turns.{number_inside}
use Rattle.symbol_sets.proofs.symbol_types.Goals as goal

pub returns-then-is_number : goal.returns-then-is_number
returns-then-is_number c = number_inside _ _ _ _ _ _ c.row_word.ensures c.kind_at-kind.ensures c.is_number.ensures c.if-is_number.true

pub returns : goal.returns
returns c = c.inner_types.ensures keeps_symbols

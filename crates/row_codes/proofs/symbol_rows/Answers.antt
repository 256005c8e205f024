-- `row_codes::symbol_rows` meets its contract: by the type's class. Assumes nothing.
use Rattle.plans.proofs.LeafSteps.{symbols_some, symbols_none}
use Rattle.row_codes.proofs.symbol_rows.Goals as goal

pub returns-then-type_word-eq-ENUM : goal.returns-then-type_word-eq-ENUM
returns-then-type_word-eq-ENUM c = symbols_some _ _ c.type_word.ensures c.if-type_word-eq-ENUM.true c.type_word-then-type_word-eq-ENUM.ensures

pub returns-else-type_word-eq-ENUM : goal.returns-else-type_word-eq-ENUM
returns-else-type_word-eq-ENUM c = symbols_none _ _ c.type_word.ensures c.if-type_word-eq-ENUM.false

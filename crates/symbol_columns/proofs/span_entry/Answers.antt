-- `symbol_columns::span_entry` meets its contract. Assumes nothing.
use Rattle.symbol_columns.proofs.Finding.{entry_at}
use Rattle.symbol_columns.proofs.span_entry.Goals as goal

pub returns : goal.returns
returns c = entry_at c.args.table.now c.args.raw c.args.low c.args.entries c.requires.3 c.requires.4 c.span_place.ensures.0

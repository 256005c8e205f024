-- `symbol_slots::table_at` meets its contract. Assumes nothing.
use Rattle.symbol_slots.proofs.table_at.Goals as goal

pub returns : goal.returns
returns c = let found = c.find.ensures in (found.0, found.1, λ has. found.2 has.0 has.1 has.2)

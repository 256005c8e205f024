-- `symbol_columns::step_to` meets its contract. Assumes nothing.
use Rattle.std.proofs.Common.{rules}
use Rattle.symbol_columns.proofs.Finding.{not_above, is_above}
use Rattle.symbol_columns.proofs.step_to.Goals as goal

ruleset laws = (rules, not_above, is_above)

pub returns-then-key-raw : goal.returns-then-key-raw
returns-then-key-raw c = search laws

pub returns-else-key-raw : goal.returns-else-key-raw
returns-else-key-raw c = search laws

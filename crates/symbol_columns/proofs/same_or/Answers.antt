-- `symbol_columns::same_or` meets its contract. Assumes nothing.
use Rattle.std.proofs.Common.{rules}
use Rattle.symbol_columns.proofs.Finding.{is_same, is_other}
use Rattle.symbol_columns.proofs.same_or.Goals as goal

ruleset laws = (rules, is_same, is_other)

pub returns-then-key-raw : goal.returns-then-key-raw
returns-then-key-raw c = search laws

pub returns-else-key-raw : goal.returns-else-key-raw
returns-else-key-raw c = search laws

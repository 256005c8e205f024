-- `symbol_columns::none_at` meets its contract. Assumes nothing.
use Rattle.std.proofs.Common.{arith}
use Rattle.symbol_columns.proofs.Finding.{none_among, none_past}
use Rattle.symbol_columns.proofs.none_at.Goals as goal

pub returns-then-q-keys : goal.returns-then-q-keys
returns-then-q-keys c =
    let a = c.args in
    none_among a.table.now a.keys a.q a.raw c.requires.2 c.requires.3 c.requires.4 c.if-q-keys.true c.same_or-unknown.ensures

pub returns-else-q-keys : goal.returns-else-q-keys
returns-else-q-keys c =
    let a = c.args in
    none_past a.table.now a.keys a.q a.raw c.requires.2 c.requires.3 c.requires.4 (omega (arith, c.if-q-keys.false))

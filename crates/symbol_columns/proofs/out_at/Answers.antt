-- `symbol_columns::out_at` meets its contract. Assumes nothing.
use Rattle.std.proofs.Common.{arith}
use Rattle.symbol_columns.proofs.Finding.{out_among, out_past}
use Rattle.symbol_columns.proofs.out_at.Goals as goal

pub returns-then-q-keys : goal.returns-then-q-keys
returns-then-q-keys c =
    let a = c.args in
    out_among a.table.now a.keys a.q a.raw c.requires.2 c.requires.3 c.requires.4 a.into c.if-q-keys.true c.same_or-known.ensures

pub returns-else-q-keys : goal.returns-else-q-keys
returns-else-q-keys c =
    let a = c.args in
    out_past a.table.now a.keys a.q a.raw c.requires.2 c.requires.3 c.requires.4 a.into (omega (arith, c.if-q-keys.false))

-- `wide_loads::load_turned_64` meets its contract. The loop's invariant: the first i containers are there. Assumes nothing.
use Prim.Native.Nat.{ℕ, ◌+◌, ◌*◌}
use native.Mathlib.Omega.{arith}
use Rattle.loops.proofs.Lists.{row_within}
use Rattle.column_loads.proofs.TwoBytes.{turned_turn}
use Rattle.wide_loads.proofs.load_turned_64.Goals as goal

pub loop-i-preserved : goal.loop-i-preserved
loop-i-preserved c =
    let l = c.loop-i in
    let a = c.args in
    let at : ℕ = l.i * a.record_size + a.byte in
    let turn = turned_turn a.byte a.record_size a.src.now l.i l.t c.load-c.result c.turned.result (omega arith) (omega (arith, (row_within c.args.record_size c.loop-i-test.true))) (omega (arith, c.type_inv.src at)) (omega (arith, c.type_inv.src (at + 1))) l.invariant in
    (turn c.load-c.ensures.0 c.turned.ensures)

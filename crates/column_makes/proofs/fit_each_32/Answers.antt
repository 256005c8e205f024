-- `column_makes::fit_each_32` meets its contract. The loop's invariant: the first i numbers are made, those from i on as they were, and those outside counted. Assumes nothing.
use mathlib.Core.Path.{◌≡◌}
use native.Mathlib.Omega.{arith}
use Rattle.column_steps.proofs.Making.{made_start, count_start, made_turn, count_turn, made_end, count_end}
use Rattle.column_makes.proofs.fit_each_32.Goals as goal

pub loop-i-init : goal.loop-i-init
loop-i-init c =
    let a = c.args in
    (made_start a.w a.w.low a.w.high a.t.now, count_start a.w a.w.low a.w.high a.t.now)

pub loop-i-preserved : goal.loop-i-preserved
loop-i-preserved c =
    let l = c.loop-i in
    let a = c.args in
    let b = c.bias_32-b.ensures in (
      made_turn a.w a.t.now l.t l.i b a.w.low a.w.high l.invariant.0 (omega arith) c.clamp_32.ensures c.place_32.ensures,
      count_turn a.w a.t.now l.t l.i b a.w.low a.w.high (l.invariant.0.2 l.i (omega arith)) l.invariant.1 c.outside_32-raised.ensures,
    )

pub returns : goal.returns
returns c =
    let l = c.loop-i in
    let a = c.args in
    let end : l.i ≡ a.count = omega arith in
    let raised = count_end a.w a.t.now end l.invariant.1 in
    (made_end a.w a.t.now l.t end l.invariant.0, raised.0, raised.1)

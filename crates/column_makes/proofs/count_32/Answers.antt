-- `column_makes::count_32` meets its contract. The loop's invariant: those of the first i numbers that lie outside are counted. Assumes nothing.
use mathlib.Core.Path.{◌≡◌, refl}
use native.Mathlib.Omega.{arith}
use Rattle.column_steps.proofs.Making.{count_start, count_turn, count_end, none_outside}
use Rattle.column_makes.proofs.count_32.Goals as goal

pub returns-then-w : goal.returns-then-w
returns-then-w c =
    let a = c.args in
    none_outside a.w a.t.now a.count (omega arith) (omega arith)

pub loop-i-init : goal.loop-i-init
loop-i-init c =
    let a = c.args in
    (count_start a.w a.w.low a.w.high a.t.now)

pub loop-i-preserved : goal.loop-i-preserved
loop-i-preserved c =
    let l = c.loop-i in
    let a = c.args in
    (count_turn a.w a.t.now a.t.now l.i c.bias_32.ensures a.w.low a.w.high refl l.invariant c.outside_32-raised.ensures)

pub returns : goal.returns
returns c =
    let l = c.loop-i in
    let a = c.args in
    let end : l.i ≡ a.count = omega arith in
    count_end a.w a.t.now end l.invariant

-- `column_makes::easy_each_32` meets its contract. The loop's invariant: the first i numbers are made, and those from i on as they were. Assumes nothing.
use mathlib.Core.Path.{◌≡◌}
use native.Mathlib.Omega.{arith}
use Rattle.column_steps.proofs.Making.{easy_turn, easy_end}
use Rattle.column_makes.proofs.easy_each_32.Goals as goal

pub loop-i-preserved : goal.loop-i-preserved
loop-i-preserved c =
    let l = c.loop-i in
    let a = c.args in
    (easy_turn a.w a.t.now l.t l.i c.bias_32.ensures l.invariant (omega arith) c.place_32.ensures)

pub returns : goal.returns
returns c =
    let l = c.loop-i in
    let end : l.i ≡ c.args.count = omega arith in
    easy_end c.args.w c.args.t.now l.t end c.requires.2 c.requires.3 l.invariant

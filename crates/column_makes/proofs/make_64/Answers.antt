-- `column_makes::make_64` meets its contract. Assumes nothing.
use native.Mathlib.Omega.{arith}
use Rattle.column_steps.proofs.Making.{none_outside}
use Rattle.column_makes.proofs.make_64.Goals as goal

pub returns-then-w : goal.returns-then-w
returns-then-w c =
    let a = c.args in
    let none = none_outside a.w a.t.now a.count (omega arith) (omega arith) in
    (c.easy_each_64.ensures, none.0, none.1)

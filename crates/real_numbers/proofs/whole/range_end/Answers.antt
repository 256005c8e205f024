-- `real_numbers::whole::range_end` meets its contract. Assumes nothing.
use Rattle.answer.specs.declared.Given.TheVariants.{Real}
use Rattle.reals.proofs.Ends.{high_end}
use Rattle.real_numbers.proofs.whole.range_end.Goals as goal

pub returns-in-true-false : goal.returns-in-true-false
returns-in-true-false c =
    simp (c.ones-in-true-false.ensures, c.in-true-false.is-0, c.in-true-false.is-1) (λ g. (high_end g _).0, (high_end (Real 0) _).1)

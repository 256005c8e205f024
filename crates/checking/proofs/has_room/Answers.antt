-- `checking::has_room` meets its contract. Assumes nothing.
use native.Mathlib.Omega.{arith}
use Rattle.conversion.proofs.Parts.{product_fits}
use Rattle.conversion.proofs.Checking.{place_short, place_grown, place_rest, copy_short, copy_rest}
use Rattle.checking.proofs.has_room.Goals as goal

pub overflow_mul-count : goal.overflow_mul-count
overflow_mul-count c = omega (arith, product_fits _ _ c.requires.0 c.requires.1)

pub returns-then-out-count : goal.returns-then-out-count
returns-then-out-count c = place_short _ _ _ _ _ _ c.if-in_place.true c.if-out-count.true

pub overflow_mul-count-then-in_place : goal.overflow_mul-count-then-in_place
overflow_mul-count-then-in_place c = omega (arith, product_fits _ _ c.requires.0 c.requires.2)

pub returns-then-out-count-2 : goal.returns-then-out-count-2
returns-then-out-count-2 c = place_grown _ _ _ _ _ _ c.if-in_place.true c.if-out-count-2.true

pub returns-then-in_place : goal.returns-then-in_place
returns-then-in_place c = place_rest _ _ _ _ _ _ c.if-in_place.true c.if-out-count.false c.if-out-count-2.false

pub overflow_mul-count-2 : goal.overflow_mul-count-2
overflow_mul-count-2 c = omega (arith, product_fits _ _ c.requires.0 c.requires.1)

pub returns-then-other-count : goal.returns-then-other-count
returns-then-other-count c = copy_short _ _ _ _ _ _ c.if-in_place.false c.if-other-count.true

pub overflow_mul-result-2 : goal.overflow_mul-result-2
overflow_mul-result-2 c = omega (arith, product_fits _ _ c.requires.0 c.requires.2)

pub returns : goal.returns
returns c = copy_rest _ _ _ _ _ _ c.if-in_place.false c.if-other-count.false

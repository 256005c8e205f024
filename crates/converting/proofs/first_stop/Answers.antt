-- `converting::first_stop` meets its contract. Assumes nothing.
use Rattle.conversion.proofs.Checking.{records_as}
use Rattle.converting.proofs.first_stop.Goals as goal

pub first_exception-requires : goal.first_exception-requires
first_exception-requires c =
    let h = records_as _ _ _ _ _ c.if-in_place.true c.requires.2 in
    ((c.requires.0, c.requires.1), h.0, h.1)

pub returns-then-in_place : goal.returns-then-in_place
returns-then-in_place c = λ d j. rw c.if-in_place.true (c.first_exception.ensures d j)

pub first_exception-requires-2 : goal.first_exception-requires-2
first_exception-requires-2 c =
    let h = records_as _ _ _ _ _ c.if-in_place.false c.requires.2 in
    ((c.requires.0, c.requires.1), h.0, h.1)

pub returns : goal.returns
returns c = λ d j. rw c.if-in_place.false (c.first_exception-2.ensures d j)

-- `name_marks::raise_end` meets its contract. Assumes nothing.
use mathlib.Core.Path.{refl}
use borrow.Author.Tests.{le-leb, lt-leb}
use Rattle.name_marks.specs.Marks.{end_raised}
use Rattle.name_marks.proofs.raise_end.Goals as goal

pub returns-then-end-half : goal.returns-then-end-half
unfolding end_raised
returns-then-end-half c = rw (le-leb _ _ c.if-end-half.true) refl

pub returns : goal.returns
unfolding end_raised
returns c = rw (lt-leb _ _ c.if-end-half.false) refl

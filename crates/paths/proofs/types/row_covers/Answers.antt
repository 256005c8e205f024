-- `paths::types::row_covers` meets its contract. Assumes nothing.
use mathlib.Core.Path.{refl}
use borrow.Author.Tests.{le-leb, lt-leb}
use Rattle.datatype.specs.Leaves.{within}
use Rattle.paths.proofs.types.row_covers.Goals as goal

pub returns-then-byte-offset : goal.returns-then-byte-offset
unfolding within
returns-then-byte-offset c = rw (← c.row_word-offset.ensures.is, lt-leb _ _ c.if-byte-offset.true) refl

pub returns : goal.returns
unfolding within
returns c = rw (← c.row_word-offset.ensures.is, ← c.row_word-k.ensures.is, ← c.type_word-z.ensures.is, le-leb _ _ c.if-byte-offset.false) refl

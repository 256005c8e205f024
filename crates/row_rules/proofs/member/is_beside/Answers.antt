-- `row_rules::member::is_beside` meets its contract. Assumes nothing.
use mathlib.Core.Path.{refl}
use borrow.Author.Tests.{le-leb, lt-leb}
use Rattle.sheet_steps.specs.Steps.{is_beside}
use Rattle.row_rules.proofs.member.is_beside.Goals as goal

pub returns-then-offset-width : goal.returns-then-offset-width
unfolding is_beside
returns-then-offset-width c = rw (← c.row_word-o.ensures.is, le-leb _ _ c.if-offset-width.true) refl

pub returns : goal.returns
unfolding is_beside
returns c = rw (← c.row_word-o.ensures.is, ← c.row_word-k.ensures.is, ← c.type_word-z.ensures.is, lt-leb _ _ c.if-offset-width.false) refl

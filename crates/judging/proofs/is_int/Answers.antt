-- `judging::is_int` meets its contract. Assumes nothing.
use mathlib.Core.Path.{refl}
use borrow.Author.Tests.{eq-eqb, ne_eqb}
use Rattle.sheet_steps.specs.Steps.{is_int_at}
use Rattle.judging.proofs.is_int.Goals as goal

pub returns-then-class-eq-INT : goal.returns-then-class-eq-INT
unfolding is_int_at
returns-then-class-eq-INT c = rw (← c.type_word-class.ensures.is, eq-eqb _ _ c.if-class-eq-INT.true) refl

pub returns : goal.returns
unfolding is_int_at
returns c = rw (← c.type_word-class.ensures.is, ne_eqb _ _ c.if-class-eq-INT.false) refl

-- `same_bytes::is_alike` meets its contract. Assumes nothing.
use mathlib.Core.Bool.{false≢true}
use borrow.Author.Tests.{eqb-true}
use Rattle.same_bytes.proofs.Tests.{two_reals, no_reals}
use Rattle.same_bytes.proofs.is_alike.Goals as goal

pub returns-then-to-eq-ENUM : goal.returns-then-to-eq-ENUM
returns-then-to-eq-ENUM c e = absurd (false≢true e)

pub returns-then-to-eq-REAL : goal.returns-then-to-eq-REAL
returns-then-to-eq-REAL c e = two_reals _ _ _ _ c.type_word-from.ensures c.type_word-to.ensures c.if-to-eq-ENUM.false c.if-to-eq-REAL.true (eqb-true _ _ e)

pub returns-then-from-eq-REAL : goal.returns-then-from-eq-REAL
returns-then-from-eq-REAL c e = absurd (false≢true e)

pub returns : goal.returns
returns c e = no_reals _ _ _ _ c.type_word-from.ensures c.type_word-to.ensures c.if-to-eq-ENUM.false c.if-to-eq-REAL.false c.if-from-eq-REAL.false

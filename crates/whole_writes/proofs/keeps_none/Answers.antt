-- `whole_writes::keeps_none` meets its contract. Assumes nothing.
use native.Mathlib.Omega.{arith}
use borrow.Author.Tests.{eqb-true}
use Rattle.whole_writes.proofs.keeps_none.Goals as goal

pub returns-then-pad-lt-KEEP : goal.returns-then-pad-lt-KEEP
returns-then-pad-lt-KEEP c e kept = absurd (omega (arith, kept, c.if-pad-lt-KEEP.true))

pub returns : goal.returns
returns c e kept = eqb-true _ _ e

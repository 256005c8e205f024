-- `whole_columns::is_lowest` meets its contract. Assumes nothing.
use mathlib.Core.Bool.{false≢true}
use borrow.Author.Tests.{eqb-true}
use Rattle.whole_columns.proofs.is_lowest.Goals as goal

pub returns-then-w-eq0 : goal.returns-then-w-eq0
returns-then-w-eq0 c e = (c.if-w-eq0.true, eqb-true _ _ e)

pub returns : goal.returns
returns c e = absurd (false≢true e)

-- `column_caps::is_plain` meets its contract. Assumes nothing.
use mathlib.Core.Bool.{false≢true}
use Rattle.std.proofs.Common.{eqb-true}
use Rattle.column_caps.proofs.is_plain.Goals as goal

pub returns-then-w-eq0-3 : goal.returns-then-w-eq0-3
returns-then-w-eq0-3 c e = (c.if-w-eq0.true, c.if-w-eq0-2.true, c.if-w-eq0-3.true, eqb-true _ _ e)

pub returns-else-w-eq0-3 : goal.returns-else-w-eq0-3
returns-else-w-eq0-3 c e = absurd (false≢true e)

pub returns-else-w-eq0-2 : goal.returns-else-w-eq0-2
returns-else-w-eq0-2 c e = absurd (false≢true e)

pub returns-else-w-eq0 : goal.returns-else-w-eq0
returns-else-w-eq0 c e = absurd (false≢true e)

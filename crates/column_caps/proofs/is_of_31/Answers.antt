-- `column_caps::is_of_31` meets its contract. Assumes nothing.
use mathlib.Core.Bool.{false≢true}
use Rattle.std.proofs.Common.{ltb-true}
use Rattle.column_caps.proofs.is_of_31.Goals as goal

pub returns-then-w-lt2147483648 : goal.returns-then-w-lt2147483648
returns-then-w-lt2147483648 c e = (c.if-w-lt2147483648.true, ltb-true _ _ e)

pub returns : goal.returns
returns c e = absurd (false≢true e)

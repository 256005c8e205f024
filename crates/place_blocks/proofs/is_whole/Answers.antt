-- `place_blocks::is_whole` meets its contract. Assumes nothing.
use mathlib.Core.Bool.{false≢true}
use Rattle.place_blocks.proofs.is_whole.Goals as goal

pub returns-then-count-lt-MANY : goal.returns-then-count-lt-MANY
returns-then-count-lt-MANY c e = absurd (false≢true e)

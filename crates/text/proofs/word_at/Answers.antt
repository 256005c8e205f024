-- `text::word_at` meets its contract: two lists are the same where each pair of bytes is. Assumes nothing.
use Rattle.text.proofs.Scans.{pointwise_same}
use Rattle.text.proofs.word_at.Goals as goal

pub returns : goal.returns
returns c = rw (c.eq.ensures, c.field_at.ensures) (pointwise_same _ _)

-- `text::field_at` meets its contract. Assumes nothing.
use Rattle.text.proofs.Scans.{part_is}
use Rattle.text.proofs.field_at.Goals as goal

pub returns : goal.returns
returns c = part_is _ _ _ _ c.field_end.ensures _ c.get.ensures.lookup c.unwrap_or_default.ensures

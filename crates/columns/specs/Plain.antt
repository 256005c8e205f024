-- What a column asks of its words. No meaning of document 01 stands here.
use Rattle.std.specs.Prelude.{◌≤◌}
use Rattle.column_words.specs.declared.Words.{Words}
use Rattle.column_words.specs.Words.{Fits}

-- words of two layouts, which fit numbers of 64 bits, and of 32 where both containers have at most four bytes
pub record Sized (w : Words) : Type 0 where
  pub wide : Fits 64 w
  pub narrow : w.source_size ≤ 4 → w.size ≤ 4 → Fits 32 w

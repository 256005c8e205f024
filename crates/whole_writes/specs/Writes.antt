-- Result records of which each byte is written, whatever was there. No meaning of document 01 stands here.
use Rattle.std.specs.Prelude.{◌≡◌, List, ℕ, zero, suc, ◌+◌}
use Rattle.table.specs.Table.{layout_at}
use Rattle.column_words.specs.Fill.{keep_of}
use Rattle.plans.specs.PlanWords.{to_byte, destination_type_of}

-- type k has n bytes, and a write of it keeps no bit of what was there
pub record Anew (w : List ℕ) (k n : ℕ) : Type 0 where
  pub size : (layout_at w k).size.0 ≡ n
  pub none : keep_of (layout_at w k) ≡ 0

-- the leaves of the k entries from i on adjoin, from byte `at` of the destination record up to byte d, and each is written anew
abbrev pub WritesFrom : ℕ → List ℕ → List ℕ → ℕ → ℕ → ℕ → Type 0
WritesFrom d plan wd i zero at = at ≡ d
WritesFrom d plan wd i (suc k) at = (n : ℕ) × (to_byte plan i ≡ at) × Anew wd (destination_type_of plan i) n × WritesFrom d plan wd (i + 1) k (at + n)

-- a plan's n entries write each byte of a destination record of d bytes
abbrev pub WritesEach : ℕ → List ℕ → ℕ → List ℕ → Type 0
WritesEach d plan n wd = WritesFrom d plan wd 0 n 0

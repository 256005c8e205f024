-- Leaves whose bytes stay as they are, and runs of them that adjoin in both records. No meaning of document 01 stands here.
use Rattle.std.specs.Prelude.{◌≡◌, false, List, ℕ, zero, suc, ◌+◌, ◌*◌}
use Rattle.table.specs.Table.{type_word, class_word}
use Rattle.plans.specs.PlanWords.{one_real, to_byte, from_byte, source_type_of, destination_type_of}

-- type k has n bytes, and its number has all bits of them
pub record Fills (w : List ℕ) (k n : ℕ) : Type 0 where
  pub size : type_word w k 1 ≡ n
  pub lowest : type_word w k 3 ≡ 0
  pub whole : type_word w k 4 ≡ 8 * n

-- a number is the same n bytes in source type f and in destination type g, and it is in g's range
pub record Stays (ws : List ℕ) (f : ℕ) (wd : List ℕ) (g n : ℕ) : Type 0 where
  pub source : Fills ws f n
  pub destination : Fills wd g n
  pub order : type_word ws f 2 ≡ type_word wd g 2
  pub sign : type_word ws f 7 ≡ type_word wd g 7
  pub plain : class_word wd g ≡ 2 → ⊥
  pub alike : one_real ws f wd g ≡ false

-- the leaf of entry i stays as it is, and its n bytes begin at byte `to` of the destination record and at byte `from` of the source record
pub record StaysAt (plan ws wd : List ℕ) (i to from n : ℕ) : Type 0 where
  pub writes : to_byte plan i ≡ to
  pub reads : from_byte plan i ≡ from
  pub leaf : Stays ws (source_type_of plan i) wd (destination_type_of plan i) n

-- the leaves of the k entries from i on stay as they are and adjoin, from bytes `to` and `from` on, and have so many bytes together
abbrev pub Adjoin : List ℕ → List ℕ → List ℕ → ℕ → ℕ → ℕ → ℕ → ℕ → Type 0
Adjoin plan ws wd i to from zero bytes = bytes ≡ 0
Adjoin plan ws wd i to from (suc k) bytes =
    (m : ℕ) × (n : ℕ) × Adjoin plan ws wd i to from k m × StaysAt plan ws wd (i + k) (to + m) (from + m) n × (bytes ≡ m + n)

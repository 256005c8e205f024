-- What the notes behind the records say of a sheet's rows: by them most names and offsets are judged without a look at each row.
use Rattle.std.specs.Prelude.{◌≡◌, List, ℕ, suc, ◌+◌, ◌<◌, ◌≤◌}
use Rattle.table.specs.Table.{class_word, size_word, first_word, offset_word, member_type_word, name_at}
use Rattle.name_marks.specs.Marks.{mark_word, end_word}

-- the number of each row below m is below the word at the mark of its name
abbrev pub Marked : List ℕ → List ℕ → ℕ → Type 0
Marked w t m = (j : ℕ) → j < m → j < mark_word w (name_at w t j)

-- no member in the rows from first on and below m ends behind byte e
abbrev pub Ended : List ℕ → ℕ → ℕ → ℕ → Type 0
Ended w first m e = (j : ℕ) → first ≤ j → j < m → offset_word w j + size_word w (member_type_word w j) ≤ e

-- m rows are noted, and of n types the newest, where it is a compound
pub record Noted (w t : List ℕ) (n m : ℕ) : Type 0 where
  pub names : Marked w t m
  pub ends : (i : ℕ) → n ≡ suc i → class_word w i ≡ 3 → Ended w (first_word w i) m (end_word w i)

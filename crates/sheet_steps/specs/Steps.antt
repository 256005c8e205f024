-- What the functions inside the crate promise, in the table's words. No public contract cites this file.
use Rattle.std.specs.Prelude.{◌≡◌, Bool, true, false, cond, ◌&&◌, ◌||◌, List, ℕ, zero, suc, ◌+◌, ◌-◌, ◌*◌, eqb, ltb, leb, Option, Some, None}
use Rattle.std.proofs.Math.Seq.{paste}
use Rattle.datatype.specs.Datatype.{elements}
use Rattle.table.specs.Table.{class_word, size_word, offset_word, member_type_word, up_to_zero}
use Rattle.table.specs.Records.{row_added}
use Rattle.name_marks.specs.Marks.{mark_put}
use Rattle.sheet_steps.specs.declared.Counts.{Counts}

-- the record r of type n
pub record TypeAdded (w v : List ℕ) (n m : ℕ) (r : List ℕ) (j : Option Counts) : Type 0 where
  pub result : j ≡ cond (ltb n 64) (Some (record { types = n + 1; rows = m })) None
  pub table : v ≡ cond (ltb n 64) (paste w (16 * n) r 16) w

-- the record r of row m, one more of type n - 1, whose name has the mark k
pub record RowAdded (w v : List ℕ) (k n m : ℕ) (r : List ℕ) (j : Option Counts) : Type 0 where
  pub result : j ≡ cond (ltb m 256) (Some (record { types = n; rows = m + 1 })) None
  pub table : v ≡ cond (ltb m 256) (mark_put (row_added w (n - 1) m r) k (m + 1)) w

-- type i is an int; a class above those that the table has reads as one too
unfoldable pub is_int_at : List ℕ → ℕ → Bool
is_int_at w i = eqb (class_word w i) 0 || ltb 5 (class_word w i)

-- the width bytes from offset on overlap no byte of the member in row j, nor of the members in the n rows from first on
unfoldable pub is_beside : List ℕ → ℕ → ℕ → ℕ → Bool
is_beside w j offset width = leb (offset + width) (offset_word w j) || leb (offset_word w j + size_word w (member_type_word w j)) offset

unfoldable pub apart_at : List ℕ → ℕ → ℕ → ℕ → ℕ → Bool
apart_at w first zero offset width = true
apart_at w first (suc n) offset width = is_beside w (first + n) offset width && apart_at w first n offset width

-- the bytes of an array of elements of z bytes
unfoldable pub total_of : List ℕ → ℕ → Option ℕ
total_of ds z = cond (leb (elements (up_to_zero ds) * z) 4096) (Some (elements (up_to_zero ds) * z)) None

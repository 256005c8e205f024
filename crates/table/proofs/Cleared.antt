-- A table without the records of types that are not there: it holds the same types, and the rows of every type are inside. Assumes nothing.
use mathlib.Core.Path.{◌≡◌, refl, sym, ap, ◌∙◌}
use mathlib.Core.List.{List}
use mathlib.Core.Bool.{Bool, true, false, cond}
use Prim.Native.Nat.{ℕ, ◌+◌, ◌-◌, ◌*◌, ◌<◌, ◌≤◌}
use native.Mathlib.Nat.{lt_of_not-le}
use native.Mathlib.Decide.{dec_le}
use native.Mathlib.Omega.{arith}
use borrow.Author.Tests.{ltb-true}
use lib.Dec.{ltb}
use lib.ListN.{get_or, length, replicate, length-replicate, get_or-replicate}
use lib.Seq.{length-paste}
use Rattle.table.specs.Table.{type_word, row_word, types_at, Holds}
use Rattle.table.specs.Records.{types_cleared, RowsInside}
use Rattle.table.proofs.Stores.{paste_before, paste_at, paste_behind}
use Rattle.table.proofs.Frames.{Agree, low_frame, types_frame}

module _ (w : List ℕ) (n : ℕ) (few : n ≤ 64) (words : length w ≡ 4096) where
  zeros : List ℕ
  zeros = replicate (1024 - 16 * n) 0

  enough : 1024 - 16 * n ≤ length zeros
  unfolding zeros
  enough = rw (length-replicate {A = ℕ} (1024 - 16 * n) 0) (omega arith)

  pub cleared_length : length (types_cleared w n) ≡ 4096
  unfolding types_cleared zeros
  cleared_length = length-paste w (16 * n) zeros (1024 - 16 * n) (omega arith) enough ∙ words

  same_type : (i q : ℕ) → i < n → q < 16 → type_word w i q ≡ type_word (types_cleared w n) i q
  unfolding types_cleared type_word zeros
  same_type i q h g =
      ap (λ (y : ℕ). cond (ltb i 64) y 0) (sym (paste_before w (16 * n) zeros (1024 - 16 * n) (omega arith) enough (16 * i + q) (omega arith)))

  same_row : (j q : ℕ) → row_word w j q ≡ row_word (types_cleared w n) j q
  unfolding types_cleared row_word zeros
  same_row j q =
      ap (λ (y : ℕ). cond (ltb j 256) y 0) (sym (paste_behind w (16 * n) zeros (1024 - 16 * n) (omega arith) enough (1024 + 8 * j + q) (omega arith)))

  -- a type that is not there has words of 0 only
  none : (i q : ℕ) → n ≤ i → q < 16 → type_word (types_cleared w n) i q ≡ 0
  unfolding types_cleared type_word zeros
  none i q h g = go (ltb i 64) refl
    where
      go : (t : Bool) → ltb i 64 ≡ t → cond t (get_or (types_cleared w n) (16 * i + q) 0) 0 ≡ 0
      go true e =
          let low : i < 64 = ltb-true i 64 e in
          let k : ℕ = 16 * i + q - 16 * n in
          let at : 16 * i + q ≡ 16 * n + k = omega arith in
          ap (λ (x : ℕ). get_or (types_cleared w n) x 0) at
          ∙ paste_at w (16 * n) zeros (1024 - 16 * n) (omega arith) enough k (omega arith)
          ∙ get_or-replicate (1024 - 16 * n) k 0 0 (omega arith)
      go false e = refl

  module _ (m : ℕ) (h : Holds w n m) where
    agree : Agree w (types_cleared w n) n m
    agree = record { types = same_type; rows = λ j q x y. same_row j q }

    pub cleared_holds : Holds (types_cleared w n) n m
    cleared_holds =
        record {
          words = cleared_length;
          types = h.types;
          rows = h.rows;
          low = λ i x. low_frame w (types_cleared w n) w agree m i (omega arith) x (h.low i x);
          newest = λ i e. rw (← (same_type i 9 (omega arith) (omega arith)), ← (same_type i 10 (omega arith) (omega arith))) (h.newest i e);
        }

    pub cleared_types : (t : List ℕ) → types_at (types_cleared w n) t n ≡ types_at w t n
    cleared_types t = sym (types_frame w (types_cleared w n) t agree h.low n (omega arith))

    pub rows_inside : RowsInside (types_cleared w n)
    rows_inside i =
        elim (dec_le n i) [
          | yes x ↦ rw (none i 9 x (omega arith), none i 10 x (omega arith)) (omega arith)
          | no f ↦
              let x : i < n = lt_of_not-le f in
              rw (← (same_type i 9 x (omega arith)), ← (same_type i 10 x (omega arith))) (omega (arith, (h.low i x).room, h.rows))
        ]

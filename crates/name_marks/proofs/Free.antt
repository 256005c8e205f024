-- The words behind the records: no type and no row is read from there, so a table says the same whatever they hold. Assumes nothing.
use mathlib.Core.Path.{◌≡◌, refl, sym, ◌∙◌}
use mathlib.Core.List.{List}
use mathlib.Core.Bool.{Bool, true, false, cond}
use Prim.Native.Nat.{ℕ, ◌+◌, ◌*◌, ◌<◌}
use native.Mathlib.Omega.{arith}
use borrow.Author.Tests.{ltb-true}
use lib.Dec.{ltb}
use lib.ListN.{get_or, length}
use Rattle.table.specs.Table.{type_word, row_word, types_at, Holds}
use Rattle.table.proofs.Frames.{Agree, low_frame, types_frame}

module _ (w v : List ℕ) (long : length w ≡ length v) (same : (k : ℕ) → k < 3072 → get_or w k 0 ≡ get_or v k 0) where
  pub free_type : (i q : ℕ) → q < 16 → type_word w i q ≡ type_word v i q
  unfolding type_word
  free_type i q g = go (ltb i 64) refl
    where
      go : (b : Bool) → ltb i 64 ≡ b → cond b (get_or w (16 * i + q) 0) 0 ≡ cond b (get_or v (16 * i + q) 0) 0
      go true e = let low : i < 64 = ltb-true i 64 e in same (16 * i + q) (omega arith)
      go false e = refl

  pub free_row : (j q : ℕ) → q < 8 → row_word w j q ≡ row_word v j q
  unfolding row_word
  free_row j q g = go (ltb j 256) refl
    where
      go : (b : Bool) → ltb j 256 ≡ b → cond b (get_or w (1024 + 8 * j + q) 0) 0 ≡ cond b (get_or v (1024 + 8 * j + q) 0) 0
      go true e = let low : j < 256 = ltb-true j 256 e in same (1024 + 8 * j + q) (omega arith)
      go false e = refl

  module _ (n m : ℕ) (h : Holds w n m) where
    agree : Agree w v n m
    agree = record { types = λ i q x y. free_type i q y; rows = λ j q x y. free_row j q y }

    pub free_holds : Holds v n m
    free_holds =
        record {
          words = sym long ∙ h.words;
          types = h.types;
          rows = h.rows;
          low = λ i x. low_frame w v w agree m i (omega arith) x (h.low i x);
          newest = λ i e. rw (← (free_type i 9 (omega arith)), ← (free_type i 10 (omega arith))) (h.newest i e);
        }

    pub free_types : (t : List ℕ) → types_at v t n ≡ types_at w t n
    free_types t = sym (types_frame w v t agree h.low n (omega arith))

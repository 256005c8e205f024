-- What a table that holds types and rows decodes to, and what one record more keeps. Assumes nothing.
use mathlib.Core.Path.{◌≡◌, refl, sym, ap₂, ◌∙◌, subst}
use mathlib.Core.Logic.{⊎_elim}
use mathlib.Core.List.{List, ◌∷◌}
use Prim.Native.Nat.{ℕ, suc, ◌+◌, ◌*◌, ◌<◌, ◌≤◌}
use native.Mathlib.Nat.{not-suc-le-zero, eq-or-lt_of_le, le_of_suc-le-suc, suc_inj, suc-ne-zero}
use native.Mathlib.Numerals.{add-one}
use native.Mathlib.Omega.{arith}
use lib.Dec.{lit<}
use lib.ListN.{get_or, length}
use lib.Seq.{paste, length-paste}
use Rattle.datatype.specs.Datatype.{Datatype}
use Rattle.table.specs.Table.{type_word, class_word, first_word, rows_word, member_type_word, node, type_at, types_at, Low, Holds}
use Rattle.table.specs.Records.{row_added}
use Rattle.table.proofs.Frames.{Agree, node_cong, type_node, low_frame, decode_frame, types_frame}
use Rattle.table.proofs.Stores.{type_made, type_before, type_rows, row_length, row_made, row_before, row_types, row_counted}

-- an empty table
pub holds_none : (w : List ℕ) → length w ≡ 4096 → Holds w 0 0
holds_none w h =
    record {
      words = h;
      types = omega arith;
      rows = omega arith;
      low = λ i x. absurd (not-suc-le-zero x);
      newest = λ i e. absurd (suc-ne-zero i (sym e));
    }

-- each type is made of the table's types
pub type_is : {w : List ℕ} {n m : ℕ} (t : List ℕ) → Holds w n m → (i : ℕ) → i < n → type_at w t i ≡ node (type_at w t) w t i
type_is {w} {n} {m} t h i x = type_node w t n m h.low h.types i x

-- ---- a new or another record for type n, the newest

-- the table v has the types of w below n and type n, and m rows
pub record Grown (w v t : List ℕ) (n m : ℕ) : Type 0 where
  pub holds : Holds v (n + 1) m
  pub types : types_at v t (n + 1) ≡ node (type_at w t) v t n ∷ types_at w t n

module _ (w v t : List ℕ) (n m m' : ℕ) (lows : (i : ℕ) → i < n → Low w m i) (ag : Agree w v n m) (words : length v ≡ 4096)
    (room : n < 64) (rows : m' ≤ 256) (le : m ≤ m') (low : Low v m' n) (newest : first_word v n + rows_word v n ≡ m') where
  kept : (i : ℕ) → i < suc n → Low v m' i
  kept i h =
      ⊎_elim (λ e. subst (Low v m') (sym e) low) (λ x. low_frame w v t ag m' i le x (lows i x)) (eq-or-lt_of_le (le_of_suc-le-suc h))

  held : Holds v (suc n) m'
  held =
      record {
        words = words;
        types = room;
        rows = rows;
        low = kept;
        newest = λ i e. rw (← (suc_inj e)) newest;
      }

  grown : Grown w v t n m'
  unfolding types_at
  grown =
      record {
        holds = rw add-one held;
        types =
            rw add-one
            (ap₂ (λ (T : Datatype) (ts : List Datatype). T ∷ ts)
            (type_node v t (suc n) m' kept room n (omega arith)
            ∙ node_cong v t (type_at v t) (type_at w t) low (λ k x. sym (decode_frame w v t ag lows 64 k x)))
            (sym (types_frame w v t ag lows n (omega arith))));
      }

-- "A type line gets the next type number": the record r of type n, without rows
pub add_type_lem : {w : List ℕ} {n m : ℕ} (v t r : List ℕ) → Holds w n m → v ≡ paste w (16 * n) r 16 → length r ≡ 16 → n < 64
    → (get_or r 0 0 ≡ 4 → get_or r 8 0 < n) → get_or r 9 0 ≡ m → get_or r 10 0 ≡ 0 → Grown w v t n m
add_type_lem {w} {n} {m} v t r h e whole room base first none = rw e (grown w u t n m m h.low ag words room h.rows (omega arith) low newest)
  where
    u : List ℕ
    u = paste w (16 * n) r 16

    made : (q : ℕ) → q < 16 → type_word u n q ≡ get_or r q 0
    made = type_made w r n room h.words whole

    ag : Agree w u n m
    ag = record { types = λ i q a b. type_before w r n room h.words whole i q a b; rows = λ j q a b. type_rows w r n room h.words whole j q }

    words : length u ≡ 4096
    words = length-paste w (16 * n) r 16 (omega (arith, h.words)) (omega arith) ∙ h.words

    newest : first_word u n + rows_word u n ≡ m
    newest = rw (made 9 (lit< tt), made 10 (lit< tt)) (omega arith)

    low : Low u m n
    low =
        record {
          base = λ x. rw (made 8 (lit< tt)) (base (sym (made 0 (lit< tt)) ∙ x));
          room = omega (arith, newest);
          inner = λ x j a b. omega (arith, made 10 (lit< tt));
        }

-- `value` and `member` lines go to the newest type: the record r of row m, one more of type n
pub add_row_lem : {w : List ℕ} {n m : ℕ} (v t r : List ℕ) → Holds w (suc n) m → v ≡ row_added w n m r → length r ≡ 8 → m < 256
    → (class_word w n ≡ 3 → get_or r 3 0 < n) → Grown w v t n (m + 1)
add_row_lem {w} {n} {m} v t r h e whole room inner = rw e (grown w u t n m (m + 1) (λ i x. h.low i (omega arith)) ag (row_length w r n m n64 room h.words whole) n64 (omega arith) (omega arith) low newest)
  where
    u : List ℕ
    u = row_added w n m r

    n64 : n < 64
    n64 = h.types

    same : (q : ℕ) → q < 16 → (q ≡ 10 → ⊥) → type_word w n q ≡ type_word u n q
    same q x ne = row_types w r n m n64 room h.words whole n q n64 x (λ z. ne (omega arith))

    ag : Agree w u n m
    ag =
        record {
          types = λ i q a b. row_types w r n m n64 room h.words whole i q (omega (arith, n64)) b (λ z. omega arith);
          rows = λ j q a b. row_before w r n m n64 room h.words whole j q a b;
        }

    counted : rows_word u n ≡ rows_word w n + 1
    counted = row_counted w r n m n64 room h.words whole

    newest : first_word u n + rows_word u n ≡ m + 1
    newest = rw (← (same 9 (lit< tt) (λ z. omega arith)), counted) (omega (arith, h.newest n refl))

    low : Low u (m + 1) n
    low =
        record {
          base = λ x. rw (← (same 8 (lit< tt) (λ z. omega arith))) ((h.low n (omega arith)).base (same 0 (lit< tt) (λ z. omega arith) ∙ x));
          room = omega (arith, newest);
          inner = λ x j a b.
              let c : class_word w n ≡ 3 = same 0 (lit< tt) (λ z. omega arith) ∙ x in
              let f : first_word w n ≡ first_word u n = same 9 (lit< tt) (λ z. omega arith) in
              let last : j ≤ m = omega (arith, newest) in
              let made : member_type_word u m < n = rw (row_made w r n m n64 room h.words whole 3 (lit< tt)) (inner c) in
              ⊎_elim
              (λ y. subst (λ (k : ℕ). member_type_word u k < n) (sym y) made)
              (λ y. rw (← (row_before w r n m n64 room h.words whole j 3 y (lit< tt))) ((h.low n (omega arith)).inner c j (omega arith) (omega (arith, h.newest n refl))))
              (eq-or-lt_of_le last);
        }

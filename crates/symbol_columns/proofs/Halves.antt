-- Halves of keys that are in order find the key that the bits are, if they are one. Assumes nothing.
use Rattle.std.proofs.Common.{◌≡◌, ℕ, zero, suc, ◌+◌, ◌^◌, ◌<◌, ◌≤◌, Bool, true, false, cond, ◌&&◌, eqb, ltb, leb, List, get_or, refl, ap, ⊎_elim, le_of_suc-le-suc, eq-or-lt_of_le, add-one, arith, ltb-false, ltb-true, lt-ltb, eq-eqb, eqb-true, leb-false, leb-true}
use native.Mathlib.Nat.{two-pow-succ}
use Rattle.symbol_columns.specs.Tables.{step_up, key_below, key_for, is_key}

-- ---- bits that are found are a key

both_true : (s t : Bool) → (s && t) ≡ true → (s ≡ true) × (t ≡ true)
both_true true t e = (refl, e)
both_true false true e = (e, refl)
both_true false false e = (e, e)

pub found : (table : List ℕ) (raw : ℕ) → is_key table raw ≡ true → (key_for table raw < get_or table 3 0) × (get_or table (16 + key_for table raw) 0 ≡ raw)
found table raw e =
    let both = both_true (ltb (key_for table raw) (get_or table 3 0)) (eqb (get_or table (16 + key_for table raw) 0) raw) e in
    (ltb-true (key_for table raw) (get_or table 3 0) both.0, eqb-true (get_or table (16 + key_for table raw) 0) raw both.1)

-- ---- a key is found

-- each key is above the one before
abbrev pub Rising : List ℕ → Type 0
Rising table = (i : ℕ) → i + 1 < get_or table 3 0 → get_or table (16 + i) 0 < get_or table (16 + (i + 1)) 0

module _ (table : List ℕ) (rising : Rising table) where
  above : (i j : ℕ) → i < j → j < get_or table 3 0 → get_or table (16 + i) 0 < get_or table (16 + j) 0
  above i zero h l = absurd (omega arith)
  above i (suc j) h l =
      let next : get_or table (16 + j) 0 < get_or table (16 + suc j) 0 = rw add-one at (rising j (rw add-one l)) in
      ⊎_elim (λ (e : i ≡ j). rw e next) (λ (s : i < j). omega (arith, above i j s (omega arith), next)) (eq-or-lt_of_le (le_of_suc-le-suc h))

  -- places are in the order of their keys
  up_to : (i j : ℕ) → j < get_or table 3 0 → get_or table (16 + j) 0 ≤ get_or table (16 + i) 0 → j ≤ i
  up_to i j l h = go (ltb i j) refl
    where
      go : (t : Bool) → ltb i j ≡ t → j ≤ i
      go true e = absurd (omega (arith, above i j (ltb-true i j e) l))
      go false e = ltb-false i j e

  below : (i j : ℕ) → i < get_or table 3 0 → get_or table (16 + i) 0 < get_or table (16 + j) 0 → i < j
  below i j l h = go (leb j i) refl
    where
      go : (t : Bool) → leb j i ≡ t → i < j
      go true e =
          ⊎_elim (λ (q : j ≡ i). absurd (no q)) (λ (q : j < i). absurd (omega (arith, above j i q l))) (eq-or-lt_of_le (leb-true j i e))
        where
          no : j ≡ i → ⊥
          no q = let same : get_or table (16 + j) 0 ≡ get_or table (16 + i) 0 = ap (λ (x : ℕ). get_or table (16 + x) 0) q in omega arith
      go false e = leb-false j i e

  module _ (q : ℕ) (few : q < get_or table 3 0) where
    -- with key q among the next 2 * p from `at` on, a step of p leaves it among the next p
    step_holds : (p at : ℕ) → at ≤ q → q < at + (p + p)
        → (step_up table (get_or table (16 + q) 0) p at ≤ q) × (q < step_up table (get_or table (16 + q) 0) p at + p)
    step_holds p at low high = first (ltb (at + p) (get_or table 3 0)) refl
      where
        raw : ℕ
        raw = get_or table (16 + q) 0

        second : (t : Bool) → leb (get_or table (16 + (at + p)) 0) raw ≡ t → at + p < get_or table 3 0 → (cond t (at + p) at ≤ q) × (q < cond t (at + p) at + p)
        second true e l = (up_to q (at + p) l (leb-true (get_or table (16 + (at + p)) 0) raw e), omega arith)
        second false e l = (low, below q (at + p) few (leb-false (get_or table (16 + (at + p)) 0) raw e))

        first : (t : Bool) → ltb (at + p) (get_or table 3 0) ≡ t
            → (cond (t && leb (get_or table (16 + (at + p)) 0) raw) (at + p) at ≤ q) × (q < cond (t && leb (get_or table (16 + (at + p)) 0) raw) (at + p) at + p)
        first true e = second (leb (get_or table (16 + (at + p)) 0) raw) refl (ltb-true (at + p) (get_or table 3 0) e)
        first false e = (low, omega (arith, ltb-false (at + p) (get_or table 3 0) e))

    steps_find : (k at : ℕ) → at ≤ q → q < at + 2 ^ k → key_below table (get_or table (16 + q) 0) k at ≡ q
    unfolding key_below
    steps_find zero at low high = omega arith
    steps_find (suc k) at low high =
        let twice : 2 ^ suc k ≡ 2 ^ k + 2 ^ k = two-pow-succ k in
        let s = step_holds (2 ^ k) at low (omega arith) in
        steps_find k (step_up table (get_or table (16 + q) 0) (2 ^ k) at) s.0 s.1

    module _ (most : get_or table 3 0 ≤ 256) (raw : ℕ) (is : get_or table (16 + q) 0 ≡ raw) where
      pub key_found : key_for table raw ≡ q
      key_found = rw (← is) (steps_find 8 0 (omega arith) (omega arith))

      pub is_found : is_key table raw ≡ true
      is_found = rw (key_found, lt-ltb q (get_or table 3 0) few, eq-eqb (get_or table (16 + q) 0) raw is)

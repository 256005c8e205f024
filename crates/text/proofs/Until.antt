-- The bytes before the first one that stops. Assumes nothing.
use mathlib.Core.Path.{◌≡◌, refl, ap}
use mathlib.Core.Bool.{Bool, true, false, cond}
use mathlib.Core.List.{List, [], ◌∷◌}
use Prim.Native.Nat.{ℕ, zero, suc, ◌+◌, ◌<◌, ◌≤◌, zero-le, suc-le-suc}
use native.Mathlib.Nat.{not-suc-le-zero, le_of_suc-le-suc}
use native.Mathlib.Numerals.{add-one}
use native.Mathlib.Omega.{arith}
use borrow.Author.Tests.{ltb-true, ltb-false}
use lib.Dec.{ltb}
use lib.ListN.{length, get_or, take, drop, drop_of_length-le}
use lib.Seq.{drop-cons}
use Rattle.text.specs.Place.{until}

-- the bytes from i on: byte i, and those from i + 1 on
pub drop_next : (s : List ℕ) (i : ℕ) → i < length s → drop i s ≡ get_or s i 0 ∷ drop (i + 1) s
drop_next s i h = rw (add-one, drop-cons s i 0)

module _ (stop : ℕ → Bool) where
  pub within : (t : List ℕ) → length (until stop t) ≤ length t
  unfolding until
  within [] = zero-le
  within (b ∷ bs) =
      elim (stop b) as (λ x. length (cond x [] (b ∷ until stop bs)) ≤ suc (length bs)) [ true ↦ zero-le | false ↦ suc-le-suc (within bs) ]

  -- they are the front of the text
  pub front : (t : List ℕ) → until stop t ≡ take (length (until stop t)) t
  unfolding until
  front [] = refl
  front (b ∷ bs) =
      elim (stop b) as (λ x. cond x [] (b ∷ until stop bs) ≡ take (length (cond x [] (b ∷ until stop bs))) (b ∷ bs))
      [ true ↦ refl | false ↦ ap (λ (l : List ℕ). b ∷ l) (front bs) ]

  -- none of them stops
  clean_step : (b : ℕ) (u : List ℕ) (x : Bool) → stop b ≡ x → ((k : ℕ) → k < length u → stop (get_or u k 0) ≡ false)
      → (k : ℕ) → k < length (cond x [] (b ∷ u)) → stop (get_or (cond x [] (b ∷ u)) k 0) ≡ false
  clean_step b u true e h k l = absurd (not-suc-le-zero l)
  clean_step b u false e h zero l = e
  clean_step b u false e h (suc k) l = h k (le_of_suc-le-suc l)

  pub clean : (t : List ℕ) (k : ℕ) → k < length (until stop t) → stop (get_or (until stop t) k 0) ≡ false
  unfolding until
  clean [] k l = absurd (not-suc-le-zero l)
  clean (b ∷ bs) k l = clean_step b (until stop bs) (stop b) refl (clean bs) k l

  -- the byte behind them, if there is one, stops
  stops_step : (b : ℕ) (bs u : List ℕ) (x : Bool) → stop b ≡ x → (length u < length bs → stop (get_or bs (length u) 0) ≡ true)
      → length (cond x [] (b ∷ u)) < suc (length bs) → stop (get_or (b ∷ bs) (length (cond x [] (b ∷ u))) 0) ≡ true
  stops_step b bs u true e h l = e
  stops_step b bs u false e h l = h (le_of_suc-le-suc l)

  pub stops : (t : List ℕ) → length (until stop t) < length t → stop (get_or t (length (until stop t)) 0) ≡ true
  unfolding until
  stops [] l = absurd (not-suc-le-zero l)
  stops (b ∷ bs) l = stops_step b bs (until stop bs) (stop b) refl (stops bs) l

  -- ---- from a place on

  module _ (s : List ℕ) (i : ℕ) where
    pub past : length s ≤ i → until stop (drop i s) ≡ []
    unfolding until
    past h = simp (drop_of_length-le s h)

    pub halts : i < length s → stop (get_or s i 0) ≡ true → until stop (drop i s) ≡ []
    unfolding until
    halts h e = simp (drop_next s i h, e)

    pub more : i < length s → stop (get_or s i 0) ≡ false → until stop (drop i s) ≡ get_or s i 0 ∷ until stop (drop (i + 1) s)
    unfolding until
    more h e = simp (drop_next s i h, e)

    inside_byte : (x : Bool) → stop (get_or s i 0) ≡ x → i < length s → 0 < length (until stop (drop i s))
        → (i < length s) × (until stop (drop i s) ≡ get_or s i 0 ∷ until stop (drop (i + 1) s))
    inside_byte true e h l = absurd (omega (arith, ap length (halts h e)))
    inside_byte false e h l = (h, more h e)

    inside_text : (x : Bool) → ltb i (length s) ≡ x → 0 < length (until stop (drop i s))
        → (i < length s) × (until stop (drop i s) ≡ get_or s i 0 ∷ until stop (drop (i + 1) s))
    inside_text true e l = inside_byte (stop (get_or s i 0)) refl (ltb-true i (length s) e) l
    inside_text false e l = absurd (omega (arith, ap length (past (ltb-false i (length s) e))))

    pub inside : 0 < length (until stop (drop i s)) → (i < length s) × (until stop (drop i s) ≡ get_or s i 0 ∷ until stop (drop (i + 1) s))
    inside l = inside_text (ltb i (length s)) refl l

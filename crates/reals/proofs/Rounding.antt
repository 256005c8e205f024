-- `rounded a d` is the whole number nearest to a / d: no multiple of d lies nearer to a than its own, and where another is as near it is even. Assumes nothing.
use mathlib.Core.Path.{◌≡◌, refl, sym, ◌∙◌}
use mathlib.Core.Logic.{◌⊎◌, inl, inr, ⊎_elim}
use mathlib.Core.Bool.{Bool, true, false, cond}
use Prim.Native.Nat.{ℕ, suc, ◌+◌, ◌-◌, ◌*◌, ◌/◌, ◌%◌, ◌≤◌, ◌<◌, compare, Ordering}
use native.Mathlib.Nat.{zero-lt-suc, mul-div_cancel, mul-mod_left, le-div_iff_mul-le, div-lt_iff_lt-mul, div-add-mod', mod-lt, mul-le-mul_right, suc-mul}
use native.Mathlib.Nat.{lt_of_not-le}
use native.Mathlib.Decide.{dec_le}
use native.Mathlib.Omega.{arith}
use lib.Dec.{leb, eqb, is_le, compare_is_eq}
use lib.Ieee as Ieee
use lib.Ieee.Nearest.{closest, closest_same}
use borrow.Author.Tests.{leb-true, leb-false, eqb-true, eqb-false}
use Rattle.reals.specs.Nearest.{rounded}

-- how far two numbers are apart
abbrev pub gap : ℕ → ℕ → ℕ
gap a b = (a - b) + (b - a)

pub over_or_within : (m n : ℕ) → (m < n) ⊎ (n ≤ m)
over_or_within m n = elim (dec_le n m) [ yes h ↦ inr h | no f ↦ inl (lt_of_not-le f) ]

-- the whole number y is a / d rounded: by what is left over of d
pub data Rounds (a d : ℕ) : ℕ → Type 0 where
  down : a % d * 2 < d → Rounds a d (a / d)
  up : d < a % d * 2 → Rounds a d (suc (a / d))
  tie : a % d * 2 ≡ d → Rounds a d (a / d + a / d % 2)

pub rounded_is : (a d : ℕ) → Rounds a d (rounded a d)
rounded_is a d = go (eqb (a % d * 2) d) (leb (a % d * 2) d) refl refl
  where
    go : (s t : Bool) → eqb (a % d * 2) d ≡ s → leb (a % d * 2) d ≡ t
        → Rounds a d (cond s (a / d + a / d % 2) (cond t (a / d) (suc (a / d))))
    go true t e f = tie (eqb-true _ _ e)
    go false true e f =
        let l : a % d * 2 ≤ d = leb-true _ _ f in
        let n : (a % d * 2 ≡ d → ⊥) = eqb-false _ _ e in
        down (⊎_elim (λ h. h) (λ h. absurd (n (omega arith))) (over_or_within (a % d * 2) d))
    go false false e f = up (leb-false _ _ f)

-- ---- no multiple is nearer. q and r are quotient and remainder, y is q or one more.
module _ (a d q r j : ℕ) (is : q * d + r ≡ a) (small : r < d) where
  pub lower : j ≤ q → gap (j * d) a ≡ (q * d - j * d) + r
  lower h =
      let m : j * d ≤ q * d = mul-le-mul_right d h in
      omega arith

  pub higher : q < j → gap (j * d) a ≡ (j * d - (q * d + d)) + (d - r)
  higher h =
      let m : suc q * d ≤ j * d = mul-le-mul_right d h in
      let s : suc q * d ≡ q * d + d = suc-mul q d in
      omega arith

  least : r ≤ gap (j * d) a ⊎ d - r ≤ gap (j * d) a
  least = ⊎_elim (λ h. inr (rw (higher h) (omega arith))) (λ h. inl (rw (lower h) (omega arith))) (over_or_within q j)

parity : (q : ℕ) → (q % 2 ≡ 0) ⊎ (q % 2 ≡ 1)
parity q =
    let m : q % 2 < 2 = mod-lt q (zero-lt-suc 1) in
    ⊎_elim (λ h. inl (omega arith)) (λ h. inr (omega arith)) (over_or_within (q % 2) 1)

even_is : (q : ℕ) → q % 2 ≡ 0 → q + q % 2 ≡ q
even_is q h = omega arith

odd_is : (q : ℕ) → q % 2 ≡ 1 → q + q % 2 ≡ suc q
odd_is q h = omega arith

-- "nearest": a / d rounded, times d, is as near to a as any multiple of d
pub rounds_near : (a d y j : ℕ) → 0 < d → Rounds a d y → gap (y * d) a ≤ gap (j * d) a
rounds_near a d y j p (down h) =
    let s : a / d * d + a % d ≡ a = div-add-mod' a d in
    let m : a % d < d = mod-lt a p in
    ⊎_elim (λ l. omega arith) (λ l. omega arith) (least a d (a / d) (a % d) j s m)
rounds_near a d y j p (up h) =
    let s : a / d * d + a % d ≡ a = div-add-mod' a d in
    let m : a % d < d = mod-lt a p in
    let w : suc (a / d) * d ≡ a / d * d + d = suc-mul (a / d) d in
    ⊎_elim (λ l. omega arith) (λ l. omega arith) (least a d (a / d) (a % d) j s m)
rounds_near a d y j p (tie h) =
    let s : a / d * d + a % d ≡ a = div-add-mod' a d in
    let m : a % d < d = mod-lt a p in
    let w : suc (a / d) * d ≡ a / d * d + d = suc-mul (a / d) d in
    ⊎_elim (λ l. rw (even_is (a / d) l) (⊎_elim (λ k. omega arith) (λ k. omega arith) (least a d (a / d) (a % d) j s m)))
    (λ l. rw (odd_is (a / d) l) (⊎_elim (λ k. omega arith) (λ k. omega arith) (least a d (a / d) (a % d) j s m)))
    (parity (a / d))

-- how far the two multiples beside a are from it
pub own_down : (a d q r : ℕ) → q * d + r ≡ a → gap (q * d) a ≡ r
own_down a d q r h = omega arith

pub own_up : (a d q r : ℕ) → q * d + r ≡ a → r < d → gap (suc q * d) a ≡ d - r
own_up a d q r h m =
    let u : suc q * d ≡ q * d + d = suc-mul q d in
    omega arith

not_equal : (x d r : ℕ) → x + (d - r) ≡ r → r * 2 < d → ⊥
not_equal x d r e h = omega arith

not_equal_up : (x d r : ℕ) → x + r ≡ d - r → r < d → d < r * 2 → ⊥
not_equal_up x d r e m h = omega arith

-- another multiple of d is as near only where half of d is left over
pub rounds_other : (a d y j : ℕ) → 0 < d → Rounds a d y → gap (j * d) a ≡ gap (y * d) a → (j ≡ y → ⊥) → (a % d * 2 ≡ d) × (y ≡ a / d + a / d % 2)
rounds_other a d y j p (down h) e n =
    let q = a / d in
    let r = a % d in
    let s : q * d + r ≡ a = div-add-mod' a d in
    let m : r < d = mod-lt a p in
    ⊎_elim (λ l. absurd (not_equal (j * d - (q * d + d)) d r (sym (higher a d q r j s m l) ∙ e ∙ own_down a d q r s) h))
    (λ l. ⊎_elim (λ o. absurd (far l o (sym (lower a d q r j s m l) ∙ e ∙ own_down a d q r s))) (λ o. absurd (n (omega arith))) (over_or_within j q))
    (over_or_within q j)
  where
    far : j ≤ a / d → j < a / d → (a / d * d - j * d) + a % d ≡ a % d → ⊥
    far l o e =
        let w : suc j * d ≤ a / d * d = mul-le-mul_right d o in
        let v : suc j * d ≡ j * d + d = suc-mul j d in
        omega arith
rounds_other a d y j p (up h) e n =
    let q = a / d in
    let r = a % d in
    let s : q * d + r ≡ a = div-add-mod' a d in
    let m : r < d = mod-lt a p in
    ⊎_elim (λ l. ⊎_elim (λ o. absurd (far m o (sym (higher a d q r j s m l) ∙ e ∙ own_up a d q r s m))) (λ o. absurd (n (omega arith)))
    (over_or_within (suc q) j))
    (λ l. absurd (not_equal_up (q * d - j * d) d r (sym (lower a d q r j s m l) ∙ e ∙ own_up a d q r s m) m h))
    (over_or_within q j)
  where
    far : a % d < d → suc (a / d) < j → (j * d - (a / d * d + d)) + (d - a % d) ≡ d - a % d → ⊥
    far m o e =
        let u : suc (a / d) * d ≡ a / d * d + d = suc-mul (a / d) d in
        let w : suc (suc (a / d)) * d ≤ j * d = mul-le-mul_right d o in
        let v : suc (suc (a / d)) * d ≡ suc (a / d) * d + d = suc-mul (suc (a / d)) d in
        omega arith
rounds_other a d y j p (tie h) e n = (h, refl)

-- "ties to even": then y is even
pub rounds_even : (a d y j : ℕ) → 0 < d → Rounds a d y → gap (j * d) a ≡ gap (y * d) a → (j ≡ y → ⊥) → y % 2 ≡ 0
rounds_even a d y j p r e n =
    let t = (rounds_other a d y j p r e n).1 in
    omega arith

-- a whole number of times d
pub rounds_whole : (c d y : ℕ) → 0 < d → Rounds (c * d) d y → y ≡ c
rounds_whole c d y p (down h) = mul-div_cancel c p
rounds_whole c d y p (up h) =
    let z : c * d % d ≡ 0 = mul-mod_left c d in
    absurd (omega arith)
rounds_whole c d y p (tie h) =
    let z : c * d % d ≡ 0 = mul-mod_left c d in
    absurd (omega arith)

pub rounds_low : (a d y c : ℕ) → 0 < d → Rounds a d y → c * d ≤ a → c ≤ y
rounds_low a d y c p (down h) l = (le-div_iff_mul-le p).1 l
rounds_low a d y c p (up h) l =
    let m : c ≤ a / d = (le-div_iff_mul-le p).1 l in
    omega arith
rounds_low a d y c p (tie h) l =
    let m : c ≤ a / d = (le-div_iff_mul-le p).1 l in
    omega arith

pub rounds_high : (a d y c : ℕ) → 0 < d → Rounds a d y → a < c * d → y ≤ c
rounds_high a d y c p (down h) l =
    let m : a / d < c = (div-lt_iff_lt-mul p).1 l in
    omega arith
rounds_high a d y c p (up h) l = (div-lt_iff_lt-mul p).1 l
rounds_high a d y c p (tie h) l =
    let m : a / d < c = (div-lt_iff_lt-mul p).1 l in
    omega arith

-- equal fractions round alike, as the kit's own rounding does
pub rounded_closest : (a d : ℕ) → rounded a d ≡ closest a d
rounded_closest a d = go (a / d) (compare (a % d * 2) d)
  where
    go : (q : ℕ) (o : Ordering) → cond (compare_is_eq o) (q + q % 2) (cond (is_le o) q (suc q)) ≡ Ieee.nearest q o
    go q Ordering.lt = refl
    go q Ordering.eq = refl
    go q Ordering.gt = refl

pub rounded_same : (a d c f : ℕ) → 0 < d → 0 < f → a * f ≡ c * d → rounded a d ≡ rounded c f
rounded_same a d c f p q e = rounded_closest a d ∙ closest_same a d c f p q e ∙ sym (rounded_closest c f)

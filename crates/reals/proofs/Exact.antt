-- When the nearest double is the number: where the bits that no double of its size has are zero. Assumes nothing.
use mathlib.Core.Path.{◌≡◌, refl, sym, ap, ◌∙◌, subst}
use mathlib.Core.Logic.{⊎_elim}
use mathlib.Core.Bool.{Bool, true, false}
use Prim.Native.Nat.{ℕ, zero, suc, ◌+◌, ◌-◌, ◌*◌, ◌/◌, ◌%◌, ◌^◌, ◌≤◌, ◌<◌}
use native.Mathlib.Nat.{zero-lt-suc, mod-one, mul_assoc, mul-mod_left}
use native.Mathlib.Omega.{arith}
use lib.Dec.{eqb}
use lib.IntN.{ℤ, pos, negsuc}
use lib.Pow.{pow-add, pow_pos}
use borrow.Author.Tests.{eqb-true, eqb-false, eq-eqb, ne_eqb}
use Rattle.reals.specs.Worth.{quanta_per_one, Worth, worth}
use Rattle.reals.specs.Nearest.{highest, rounded, nearest, magnitude_bits}
use Rattle.reals.specs.Compare.{below0, magnitude, is_worth, equals}
use Rattle.reals.proofs.Tests.{and_true, or_same}
use Rattle.reals.proofs.Scale.{mod_scale, zero_scale, whole_quotient}
use Rattle.reals.proofs.Rounding.{over_or_within, Rounds, rounds_whole}
use Rattle.reals.proofs.Nearly.{nearly, nearly_landed, landed_worth}
use Rattle.reals.proofs.Nearness.{nearest_is}

-- a rounded quotient times the divisor is the dividend where nothing is left over
rounds_exact : (a d y : ℕ) → 0 < d → Rounds a d y → eqb (y * d) a ≡ eqb (a % d) 0
rounds_exact a d y p r = go (eqb (a % d) 0) refl
  where
    go : (t : Bool) → eqb (a % d) 0 ≡ t → eqb (y * d) a ≡ t
    go true e =
        let w : a / d * d ≡ a = whole_quotient a d (eqb-true _ _ e) in
        let q : y ≡ a / d = rounds_whole (a / d) d y p (subst (λ (x : ℕ). Rounds x d y) (sym w) r) in
        eq-eqb (y * d) a (ap (λ (x : ℕ). x * d) q ∙ w)
    go false e = ne_eqb (y * d) a (λ (f : y * d ≡ a). eqb-false _ _ e (ap (λ (x : ℕ). x % d) (sym f) ∙ mul-mod_left y d))

-- the remainder of n × 2^U by 2^(L + e) is that of n by the part of 2^e that passes 2^U
spare_bits : (n U L p e : ℕ) → p + L ≡ U → eqb (n * 2 ^ U % 2 ^ (L + e)) 0 ≡ eqb (n % 2 ^ (e - p)) 0
spare_bits n U L p e s = ⊎_elim below above (over_or_within e p)
  where
    below : e < p → eqb (n * 2 ^ U % 2 ^ (L + e)) 0 ≡ eqb (n % 2 ^ (e - p)) 0
    below h =
        let i : U ≡ U - (L + e) + (L + e) = omega arith in
        let j : e - p ≡ 0 = omega arith in
        let m : n * 2 ^ U ≡ n * 2 ^ (U - (L + e)) * 2 ^ (L + e) =
        ap (λ (x : ℕ). n * 2 ^ x) i ∙ ap (λ (x : ℕ). n * x) (pow-add 2 (U - (L + e)) (L + e)) ∙ sym (mul_assoc n _ _) in
        eq-eqb (n * 2 ^ U % 2 ^ (L + e)) 0 (ap (λ (x : ℕ). x % 2 ^ (L + e)) m ∙ mul-mod_left (n * 2 ^ (U - (L + e))) (2 ^ (L + e)))
        ∙ sym (rw j (eq-eqb (n % 1) 0 (mod-one n)))

    above : p ≤ e → eqb (n * 2 ^ U % 2 ^ (L + e)) 0 ≡ eqb (n % 2 ^ (e - p)) 0
    above h =
        let i : L + e ≡ e - p + U = omega arith in
        ap (λ (x : ℕ). eqb (n * 2 ^ U % 2 ^ x) 0) i ∙ ap (λ (x : ℕ). eqb (n * 2 ^ U % x) 0) (pow-add 2 (e - p) U)
        ∙ ap (λ (x : ℕ). eqb x 0) (mod_scale n (2 ^ (e - p)) (2 ^ U) (pow_pos (e - p)) (pow_pos U)) ∙ zero_scale (n % 2 ^ (e - p)) (2 ^ U) (pow_pos U)

-- how many of the lowest bits of a number as long as n no double has
abbrev pub spare : ℕ → ℕ
spare n = highest 63 n - 52

exact_some : (z : ℤ) (n : ℕ) → magnitude z ≡ suc n → magnitude z < 2 ^ 64 → equals (nearest z) z ≡ eqb (magnitude z % 2 ^ spare (magnitude z)) 0
exact_some z n e l =
    let m = magnitude z in
    let r = nearly m l (rw e (zero-lt-suc n)) in
    let k = 1022 + highest 63 m in
    let y = rounded (m * 2 ^ 52) (2 ^ highest 63 m) in
    ap (λ (w : Worth). is_worth w z) (ap worth (nearest_is z) ∙ landed_worth (nearly_landed r) (below0 z))
    ∙ and_true (eqb (y * 2 ^ k) (m * quanta_per_one)) _ (or_same (eqb (y * 2 ^ k) 0) (below0 z))
    ∙ rounds_exact (m * quanta_per_one) (2 ^ k) y (pow_pos k) r.rounds ∙ spare_bits m 1074 1022 52 (highest 63 m) refl

exact_zero : equals (nearest (pos 0)) (pos 0) ≡ eqb (0 % 2 ^ spare 0) 0
unfolding worth magnitude_bits highest
exact_zero = refl

-- "exactness tested over whole numbers"
pub exact_test : (z : ℤ) → magnitude z < 2 ^ 64 → equals (nearest z) z ≡ eqb (magnitude z % 2 ^ spare (magnitude z)) 0
exact_test (pos zero) l = exact_zero
exact_test (pos (suc n)) l = exact_some (pos (suc n)) n refl l
exact_test (negsuc n) l = exact_some (negsuc n) n refl l

-- Each case of a real without its fraction, under the tests that pick it: the significand, shifted. Assumes nothing.
use mathlib.Core.Path.{◌≡◌, sym, ap, ◌∙◌}
use mathlib.Core.Bool.{Bool, true, false, not}
use Prim.Native.Nat.{ℕ, zero, suc, ◌+◌, ◌-◌, ◌*◌, ◌/◌, ◌%◌, ◌^◌, ◌≤◌, ◌<◌}
use native.Mathlib.Nat.{le_refl, mod-lt, mod-eq_of_lt, div-eq_of_lt, mul_assoc, mul-div_cancel, mul-mod_left, mul-div-mul_right, lt_of_lt_of_le, mul-le-mul}
use native.Mathlib.Nat.{le-div_iff_mul-le, div-lt_iff_lt-mul}
use native.Mathlib.Omega.{arith}
use lib.Dec.{eqb, lit≤}
use lib.Pow.{pow-add, pow_pos, pow_mono, shl_lt}
use borrow.Author.Tests.{eq-eqb, ne_eqb, lt-ltb, le-ltb}
use Rattle.real_numbers.specs.declared.cut.Cut.TheVariants.{NotANumber, Beyond, Whole}
use Rattle.reals.specs.Worth.{quanta_per_one, negative, exponent, fraction, quanta_of, worth}
use Rattle.reals.specs.Worth.Worth.{finite}
use Rattle.reals.proofs.Scale.{mod_scale, zero_scale}
use Rattle.real_numbers.specs.Left.{cut_of}

-- ---- the three ranges of the exponent, with u = 2^1074 as 2^U
module _ (g U : ℕ) where
  right_whole : (x : ℕ) → x ≤ U → g * 2 ^ x / 2 ^ U ≡ g / 2 ^ (U - x)
  right_whole x l =
      let e : U - x + x ≡ U = omega arith in
      ap (λ (k : ℕ). g * 2 ^ x / 2 ^ k) (sym e) ∙ ap (λ (k : ℕ). g * 2 ^ x / k) (pow-add 2 (U - x) x) ∙ mul-div-mul_right g (2 ^ (U - x)) (pow_pos x)

  right_lost : (x : ℕ) → x ≤ U → eqb (g * 2 ^ x % 2 ^ U) 0 ≡ eqb (g % 2 ^ (U - x)) 0
  right_lost x l =
      let e : U - x + x ≡ U = omega arith in
      ap (λ (k : ℕ). eqb (g * 2 ^ x % 2 ^ k) 0) (sym e) ∙ ap (λ (k : ℕ). eqb (g * 2 ^ x % k) 0) (pow-add 2 (U - x) x)
      ∙ ap (λ (k : ℕ). eqb k 0) (mod_scale g (2 ^ (U - x)) (2 ^ x) (pow_pos (U - x)) (pow_pos x)) ∙ zero_scale (g % 2 ^ (U - x)) (2 ^ x) (pow_pos x)

  left : (x : ℕ) → U ≤ x → g * 2 ^ x ≡ g * 2 ^ (x - U) * 2 ^ U
  left x l =
      let e : x ≡ x - U + U = omega arith in
      ap (λ (k : ℕ). g * 2 ^ k) e ∙ ap (λ (k : ℕ). g * k) (pow-add 2 (x - U) U) ∙ sym (mul_assoc g (2 ^ (x - U)) (2 ^ U))

-- ---- what is cut of a worth
cut_within : (s : Bool) (m n : ℕ) (f : Bool) → m / quanta_per_one ≡ n → n < 2 ^ 64 → eqb (m % quanta_per_one) 0 ≡ f → cut_of (finite s m) ≡ Whole s n (not f)
cut_within s m n f e l z = rw (e, z, lt-ltb n (2 ^ 64) l)

cut_beyond : (s : Bool) (m : ℕ) → 2 ^ 64 ≤ m / quanta_per_one → cut_of (finite s m) ≡ Beyond s
cut_beyond s m l = simp (le-ltb (m / quanta_per_one) (2 ^ 64) l)

quantaOf_small : (x t : ℕ) → x < 1023 → t < 2 ^ 52 → quanta_of x t < quanta_per_one
quantaOf_small zero t l h = lt_of_lt_of_le h (pow_mono {i = 52} {j = 1074} (lit≤ tt))
quantaOf_small (suc x) t l h = lt_of_lt_of_le (shl_lt {a = 2 ^ 52 + t} 53 x (omega arith)) (pow_mono {i = 53 + x} {j = 1074} (omega arith))

quantaOf_zero : (x t : ℕ) → eqb (quanta_of x t) 0 ≡ eqb (x + t) 0
quantaOf_zero zero t =
    let e : 0 + t ≡ t = omega arith in
    rw e
quantaOf_zero (suc x) t = zero_scale (2 ^ 52 + t) (2 ^ x) (pow_pos x) ∙ ne_eqb (2 ^ 52 + t) 0 (λ e. omega arith) ∙ sym (ne_eqb (suc x + t) 0 (λ e. omega arith))

-- with the number's own fields in hand
module _ (s : Bool) (x t : ℕ) (h : t < 2 ^ 52) where
  cut_small : x < 1023 → cut_of (finite s (quanta_of x t)) ≡ Whole s 0 (not (eqb (x + t) 0))
  cut_small l =
      let b = quantaOf_small x t l h in
      cut_within s (quanta_of x t) 0 (eqb (x + t) 0) (div-eq_of_lt b) (pow_pos 64) (ap (λ (m : ℕ). eqb m 0) (mod-eq_of_lt b) ∙ quantaOf_zero x t)

cut_right : (s : Bool) (x t : ℕ) → t < 2 ^ 52 → 1 ≤ x → x ≤ 1075
    → cut_of (finite s (quanta_of x t)) ≡ Whole s ((2 ^ 52 + t) / 2 ^ (1075 - x)) (not (eqb ((2 ^ 52 + t) % 2 ^ (1075 - x)) 0))
cut_right s zero t h n l = absurd (omega arith)
cut_right s (suc x) t h n l =
    let e : 1075 - suc x ≡ 1074 - x = omega arith in
    let g = 2 ^ 52 + t in
    let o : 2 ^ 64 * 1 ≤ 2 ^ 64 * 2 ^ (1074 - x) = mul-le-mul {n₁ = 2 ^ 64} (le_refl (2 ^ 64)) (pow_pos (1074 - x)) in
    let b : g / 2 ^ (1074 - x) < 2 ^ 64 = (div-lt_iff_lt-mul (pow_pos (1074 - x))).1 (lt_of_lt_of_le (omega arith) o) in
    rw e (cut_within s (quanta_of (suc x) t) (g / 2 ^ (1074 - x)) _ (right_whole g 1074 x (omega arith)) b (right_lost g 1074 x (omega arith)))

cut_left : (s : Bool) (x t : ℕ) → t < 2 ^ 52 → 1075 < x → x ≤ 1086
    → (cut_of (finite s (quanta_of x t)) ≡ Whole s ((2 ^ 52 + t) * 2 ^ (x - 1075)) false) × ((2 ^ 52 + t) * 2 ^ (x - 1075) < 2 ^ 64)
cut_left s zero t h n l = absurd (omega arith)
cut_left s (suc x) t h n l =
    let e : suc x - 1075 ≡ x - 1074 = omega arith in
    let g = 2 ^ 52 + t in
    let k = g * 2 ^ (x - 1074) in
    let m : g * 2 ^ x ≡ k * quanta_per_one = left g 1074 x (omega arith) in
    let b : k < 2 ^ 64 = lt_of_lt_of_le (shl_lt {a = g} 53 (x - 1074) (omega arith)) (pow_mono {i = 53 + (x - 1074)} {j = 64} (omega arith)) in
    let q : g * 2 ^ x / quanta_per_one ≡ k = ap (λ (i : ℕ). i / quanta_per_one) m ∙ mul-div_cancel k (pow_pos 1074) in
    let r : eqb (g * 2 ^ x % quanta_per_one) 0 ≡ true = ap (λ (i : ℕ). eqb (i % quanta_per_one) 0) m ∙ ap (λ (i : ℕ). eqb i 0) (mul-mod_left k quanta_per_one) in
    rw e (cut_within s (quanta_of (suc x) t) k true q b r, b)

cut_over : (s : Bool) (x t : ℕ) → 1086 < x → cut_of (finite s (quanta_of x t)) ≡ Beyond s
cut_over s zero t n = absurd (omega arith)
cut_over s (suc x) t n =
    cut_beyond s ((2 ^ 52 + t) * 2 ^ x)
    ((le-div_iff_mul-le (pow_pos 1074)).1 (mul-le-mul {n₁ = 2 ^ 52} {m₁ = 2 ^ 1086} (omega arith) (pow_mono {i = 1086} {j = x} (omega arith))))

-- ---- from the bits
finite_when : (b : ℕ) → (exponent b ≡ 2047 → ⊥) → worth b ≡ finite (negative b) (quanta_of (exponent b) (fraction b))
unfolding worth
finite_when b n = rw (ne_eqb (exponent b) 2047 n)

module _ (b : ℕ) where
  pub infinite_cut : exponent b ≡ 2047 → fraction b ≡ 0 → Beyond (negative b) ≡ cut_of (worth b)
  unfolding worth
  infinite_cut e f = sym (rw (eq-eqb (exponent b) 2047 e, eq-eqb (fraction b) 0 f))

  pub nan_cut : exponent b ≡ 2047 → (fraction b ≡ 0 → ⊥) → NotANumber ≡ cut_of (worth b)
  unfolding worth
  nan_cut e f = sym (rw (eq-eqb (exponent b) 2047 e, ne_eqb (fraction b) 0 f))

  pub small_cut : exponent b < 1023 → Whole (negative b) 0 (not (eqb (exponent b + fraction b) 0)) ≡ cut_of (worth b)
  small_cut l = sym (ap cut_of (finite_when b (λ e. omega arith)) ∙ cut_small (negative b) (exponent b) (fraction b) (mod-lt b (pow_pos 52)) l)

  pub over_cut : (exponent b ≡ 2047 → ⊥) → 1086 < exponent b → Beyond (negative b) ≡ cut_of (worth b)
  over_cut n l = sym (ap cut_of (finite_when b n) ∙ cut_over (negative b) (exponent b) (fraction b) l)

  pub right_cut : 1023 ≤ exponent b → exponent b ≤ 1075
      → Whole (negative b) ((2 ^ 52 + fraction b) / 2 ^ (1075 - exponent b)) (not (eqb ((2 ^ 52 + fraction b) % 2 ^ (1075 - exponent b)) 0)) ≡ cut_of (worth b)
  right_cut n l = sym (ap cut_of (finite_when b (λ e. omega arith)) ∙ cut_right (negative b) (exponent b) (fraction b) (mod-lt b (pow_pos 52)) (omega arith) l)

  pub left_cut : 1075 < exponent b → exponent b ≤ 1086 → Whole (negative b) ((2 ^ 52 + fraction b) * 2 ^ (exponent b - 1075) % 2 ^ 64) false ≡ cut_of (worth b)
  left_cut n l =
      let c = cut_left (negative b) (exponent b) (fraction b) (mod-lt b (pow_pos 52)) n l in
      sym (ap cut_of (finite_when b (λ e. omega arith)) ∙ c.0 ∙ ap (λ (k : ℕ). Whole (negative b) k false) (sym (mod-eq_of_lt c.1)))

-- A real compared with a whole number, from what is left without the fraction. Assumes nothing.
use mathlib.Core.Path.{◌≡◌, refl, sym, ap, ◌∙◌, subst}
use mathlib.Core.Bool.{Bool, true, false, not, ◌&&◌, ◌||◌, beq, true≢false}
use Prim.Native.Nat.{ℕ, ◌*◌, ◌/◌, ◌%◌, ◌^◌, ◌≤◌, ◌<◌}
use native.Mathlib.Nat.{not-le_of_lt, mul-div_cancel, mul-mod_left, eq_of_mul-eq-mul_right}
use lib.Dec.{eqb}
use lib.IntN.{ℤ}
use lib.Pow.{pow_pos}
use borrow.Author.Tests.{eqb-true, eqb-false, eq-eqb, ne_eqb, not-false}
use Rattle.number.specs.Parts.{signed_by}
use Rattle.real_numbers.specs.declared.cut.Cut.{Cut}
use Rattle.real_numbers.specs.declared.cut.Cut.TheVariants.{NotANumber, Beyond, Whole}
use Rattle.real_numbers.specs.Left.{cut_of}
use Rattle.real_numbers.proofs.Converted.{View, viewed}
use Rattle.real_numbers.proofs.Converted.View.{nan, inf, far, near}
use Rattle.reals.specs.Worth.{quanta_per_one, Worth, worth}
use Rattle.reals.specs.Compare.{below0, magnitude, is_worth, equals}
use Rattle.reals.proofs.Scale.{zero_scale, whole_quotient}

-- ---- two numbers by sign and magnitude

abbrev same_signed : Bool → ℕ → Bool → ℕ → Bool
same_signed s n t k = eqb n k && (eqb n 0 || beq s t)

module _ (s : Bool) (n : ℕ) (t : Bool) (k : ℕ) where
  pub other_magnitude : (n ≡ k → ⊥) → false ≡ same_signed s n t k
  other_magnitude h = rw (ne_eqb n k h) refl

  module _ (e : n ≡ k) where
    pub both_zero : n ≡ 0 → true ≡ same_signed s n t k
    both_zero z = rw (eq-eqb n k e, eq-eqb n 0 z) refl

    module _ (z : n ≡ 0 → ⊥) where
      pub negative_same : s ≡ true → t ≡ same_signed s n t k
      negative_same f = rw (eq-eqb n k e, ne_eqb n 0 z, f) (go t)
        where
          go : (t : Bool) → t ≡ beq true t
          go true = refl
          go false = refl

      pub positive_same : s ≡ false → not t ≡ same_signed s n t k
      positive_same f = rw (eq-eqb n k e, ne_eqb n 0 z, f) (go t)
        where
          go : (t : Bool) → not t ≡ beq false t
          go true = refl
          go false = refl

-- ---- m quanta are k ones

not_scaled : (m k : ℕ) → (m ≡ k * quanta_per_one → ⊥) → (s t : Bool) → (eqb m (k * quanta_per_one) && (eqb m 0 || beq s t)) ≡ false
not_scaled m k n s t = simp (ne_eqb m (k * quanta_per_one) n)

scaled_eqb : (n k u : ℕ) → 0 < u → eqb (n * u) (k * u) ≡ eqb n k
scaled_eqb n k u p = go (eqb n k) refl
  where
    go : (t : Bool) → eqb n k ≡ t → eqb (n * u) (k * u) ≡ t
    go true e = eq-eqb (n * u) (k * u) (ap (λ (x : ℕ). x * u) (eqb-true _ _ e))
    go false e = ne_eqb (n * u) (k * u) (λ (f : n * u ≡ k * u). eqb-false _ _ e (eq_of_mul-eq-mul_right u p n k f))

-- ---- against what is left without the fraction

nan_equal : (w : Worth) (z : ℤ) → View w NotANumber → false ≡ is_worth w z
nan_equal w z nan = refl

beyond_equal : (w : Worth) (t : Bool) (z : ℤ) → magnitude z < 2 ^ 64 → View w (Beyond t) → false ≡ is_worth w z
beyond_equal w t z l inf = refl
beyond_equal w t z l (far {m = m} h) = sym (not_scaled m (magnitude z) no t (below0 z))
  where
    no : m ≡ magnitude z * quanta_per_one → ⊥
    no e =
        let q : m / quanta_per_one ≡ magnitude z = ap (λ (x : ℕ). x / quanta_per_one) e ∙ mul-div_cancel (magnitude z) (pow_pos 1074) in
        not-le_of_lt l (subst (λ (x : ℕ). 2 ^ 64 ≤ x) q h)

fraction_equal : (w : Worth) (t : Bool) (n : ℕ) (f : Bool) (z : ℤ) → f ≡ true → View w (Whole t n f) → false ≡ is_worth w z
fraction_equal w t n f z g (near {m = m} h) = sym (not_scaled m (magnitude z) no t (below0 z))
  where
    no : m ≡ magnitude z * quanta_per_one → ⊥
    no e =
        let q : m % quanta_per_one ≡ 0 = ap (λ (x : ℕ). x % quanta_per_one) e ∙ mul-mod_left (magnitude z) quanta_per_one in
        true≢false (sym g ∙ ap not (eq-eqb (m % quanta_per_one) 0 q))

whole_equal : (w : Worth) (t : Bool) (n : ℕ) (f : Bool) (z : ℤ) → f ≡ false → View w (Whole t n f) → same_signed t n (below0 z) (magnitude z) ≡ is_worth w z
whole_equal w t n f z g (near {m = m} h) =
    let q : m % quanta_per_one ≡ 0 = eqb-true _ _ (not-false (eqb (m % quanta_per_one) 0) g) in
    let e : m / quanta_per_one * quanta_per_one ≡ m = whole_quotient m quanta_per_one q in
    sym
    (ap (λ (r : ℕ). eqb r (magnitude z * quanta_per_one) && (eqb r 0 || beq t (below0 z))) (sym e)
    ∙ rw (scaled_eqb (m / quanta_per_one) (magnitude z) quanta_per_one (pow_pos 1074), zero_scale (m / quanta_per_one) quanta_per_one (pow_pos 1074)))

below_parts : (s : Bool) (d : ℕ) → below0 (signed_by s d) ≡ s
below_parts false d = refl
below_parts true d = refl

module _ (b : ℕ) (s : Bool) (d : ℕ) {c : Cut} (e : c ≡ cut_of (worth b)) where
  pub nan_differs : c ≡ NotANumber → false ≡ equals b (signed_by s d)
  nan_differs f = nan_equal (worth b) (signed_by s d) (viewed (worth b) NotANumber (sym f ∙ e))

  module _ {k : ℕ} (m : (k ≡ magnitude (signed_by s d)) × (k < 2 ^ 64)) where
    pub beyond_differs : {t : Bool} → c ≡ Beyond t → false ≡ equals b (signed_by s d)
    beyond_differs {t} f = beyond_equal (worth b) t (signed_by s d) (rw (← m.0) m.1) (viewed (worth b) (Beyond t) (sym f ∙ e))

    module _ {t : Bool} {n : ℕ} {g : Bool} (f : c ≡ Whole t n g) where
      pub fraction_differs : g ≡ true → false ≡ equals b (signed_by s d)
      fraction_differs h = fraction_equal (worth b) t n g (signed_by s d) h (viewed (worth b) (Whole t n g) (sym f ∙ e))

      pub whole_compares : {r : Bool} → g ≡ false → r ≡ same_signed t n s k → r ≡ equals b (signed_by s d)
      whole_compares h i =
          i
          ∙ rw m.0 (ap (λ (u : Bool). same_signed t n u (magnitude (signed_by s d))) (sym (below_parts s d)))
          ∙ whole_equal (worth b) t n g (signed_by s d) h (viewed (worth b) (Whole t n g) (sym f ∙ e))

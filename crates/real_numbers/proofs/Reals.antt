-- A number's bits as a real and the kind of exception, from the sign, the magnitude's bits and the test of exactness. Assumes nothing.
use mathlib.Core.Path.{◌≡◌, refl, sym, ap, ◌∙◌}
use mathlib.Core.Bool.{Bool, true, false, cond}
use Prim.Native.Nat.{ℕ, ◌+◌, ◌%◌, ◌^◌, ◌<◌}
use native.Mathlib.Nat.{zero-add}
use lib.Dec.{eqb}
use Rattle.answer.specs.declared.Given.TheVariants.{Whole}
use Rattle.number.specs.Number.{number_given}
use Rattle.number.specs.Parts.{signed_by}
use Rattle.reals.specs.Nearest.{nearest, magnitude_bits}
use Rattle.reals.specs.Compare.{magnitude, equals}
use Rattle.reals.specs.Convert.{int_to_real}
use Rattle.reals.proofs.Nearness.{nearest_lt}
use Rattle.reals.proofs.Exact.{spare, exact_test}

nearest_by_sign : (s : Bool) (d : ℕ) → nearest (signed_by s d) ≡ cond s (2 ^ 63) 0 + magnitude_bits (magnitude (signed_by s d))
nearest_by_sign false d = sym (zero-add (magnitude_bits d))
nearest_by_sign true d = refl

given_by_sign : (s : Bool) (d : ℕ) → number_given (signed_by s d) ≡ Whole s (magnitude (signed_by s d))
given_by_sign false d = refl
given_by_sign true d = refl

module _ (s : Bool) (d n m raw : ℕ) (t : Bool) (e : (n ≡ magnitude (signed_by s d)) × (n < 2 ^ 64)) (f : m ≡ magnitude_bits n) (g : raw ≡ cond s (2 ^ 63) 0 + m)
    (h : t ≡ eqb (n % 2 ^ spare n) 0) where
  small : magnitude (signed_by s d) < 2 ^ 64
  small = rw e.0 at e.1

  bits : nearest (signed_by s d) ≡ raw
  bits = nearest_by_sign s d ∙ sym (g ∙ ap (λ (x : ℕ). cond s (2 ^ 63) 0 + x) (f ∙ ap magnitude_bits e.0))

  exact : equals (nearest (signed_by s d)) (signed_by s d) ≡ t
  exact = exact_test (signed_by s d) small ∙ ap (λ (x : ℕ). eqb (x % 2 ^ spare x) 0) (sym e.0) ∙ sym h

  given : number_given (signed_by s d) ≡ Whole s n
  given = given_by_sign s d ∙ ap (Whole s) (sym e.0)

  to_real_is : record { raw = raw; kind = cond t 0 6; given = Whole s n } ≡ int_to_real (signed_by s d)
  unfolding int_to_real
  to_real_is = sym (rw (exact, bits, given))

  pub raw_lt : raw < 2 ^ 64
  raw_lt = rw bits at (nearest_lt (signed_by s d) small)

  pub real_exact : t ≡ true → record { raw = raw; kind = 0; given = Whole s n } ≡ int_to_real (signed_by s d)
  real_exact y = rw y at to_real_is

  pub real_inexact : t ≡ false → record { raw = raw; kind = 6; given = Whole s n } ≡ int_to_real (signed_by s d)
  real_inexact y = rw y at to_real_is

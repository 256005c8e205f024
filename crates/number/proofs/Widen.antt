-- A number of p bits in q bits: the sign carried up by a product with the top bit. Assumes nothing.
use mathlib.Core.Path.{◌≡◌, sym, ap, ◌∙◌}
use mathlib.Core.Logic.{⊎_elim}
use mathlib.Core.Bool.{true}
use Prim.Native.Nat.{ℕ, suc, ◌+◌, ◌-◌, ◌*◌, ◌/◌, ◌^◌, ◌≤◌, ◌<◌}
use native.Mathlib.Nat.{div-eq_of_lt, eq-zero-or-pos}
use native.Mathlib.Omega.{arith}
use lib.Pow.{pow_mono, pow_pos, high}
use Rattle.number.specs.Number.{valued, number_given, fitted_to}
use Rattle.number.proofs.Range.{twice_half, valued_low, valued_high, signed_inside, signed_negative}

abbrev pub widen : ℕ → ℕ → ℕ → ℕ
widen p q r = r + ((2 ^ q - 1) - (2 ^ p - 1)) * (r / 2 ^ (p - 1))

module _ (p q r : ℕ) (some : 1 ≤ p) (more : p ≤ q) (small : r < 2 ^ p) where
  low_case : r < 2 ^ (p - 1) → widen p q r ≡ r
  low_case h = rw (div-eq_of_lt h) (omega arith)

  top_bit : 2 ^ (p - 1) ≤ r → r / 2 ^ (p - 1) ≡ 1
  top_bit h =
      let t = twice_half p some in
      let l : r - 2 ^ (p - 1) < 2 ^ (p - 1) = omega arith in
      let e : r ≡ 1 * 2 ^ (p - 1) + (r - 2 ^ (p - 1)) = omega arith in
      ap (λ (x : ℕ). x / 2 ^ (p - 1)) e ∙ high 1 (p - 1) l

  high_case : 2 ^ (p - 1) ≤ r → widen p q r ≡ 2 ^ q - suc (2 ^ p - suc r)
  high_case h =
      let m : 2 ^ p ≤ 2 ^ q = pow_mono more in
      let z = pow_pos p in
      rw (top_bit h) (omega arith)

  pub widen_lt : widen p q r < 2 ^ q
  widen_lt =
      let m : 2 ^ p ≤ 2 ^ q = pow_mono more in
      ⊎_elim (λ e. rw (high_case (omega arith)) (omega arith)) (λ l. rw (low_case (omega arith)) (omega arith)) (eq-zero-or-pos (2 ^ (p - 1) - r))

  pub widen_signed : record { raw = widen p q r; kind = 0; given = number_given (valued true p r) } ≡ fitted_to true q (valued true p r)
  widen_signed =
      let m : 2 ^ (p - 1) ≤ 2 ^ (q - 1) = pow_mono (omega arith) in
      let t = twice_half p some in
      ⊎_elim
      (λ e. rw (high_case (omega arith), valued_high p r (omega arith)) (sym (signed_negative q (2 ^ p - suc r) (omega arith))))
      (λ l. rw (low_case (omega arith), valued_low p r (omega arith)) (sym (signed_inside q r (omega arith))))
      (eq-zero-or-pos (2 ^ (p - 1) - r))

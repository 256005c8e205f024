-- The number of p bits in two's complement by its sign and magnitude, which products with the top bit, and with what it lacks to 1, pick. Assumes nothing.
use mathlib.Core.Path.{◌≡◌, ap, ◌∙◌}
use mathlib.Core.Logic.{⊎_elim}
use mathlib.Core.Bool.{true, false}
use Prim.Native.Nat.{ℕ, suc, ◌+◌, ◌-◌, ◌*◌, ◌/◌, ◌^◌, ◌≤◌, ◌<◌}
use native.Mathlib.Nat.{div-eq_of_lt, eq-zero-or-pos}
use native.Mathlib.Omega.{arith}
use lib.Dec.{eqb}
use lib.Pow.{high}
use Rattle.answer.specs.declared.Given.TheVariants.{Whole}
use Rattle.number.specs.Number.{valued, number_given}
use Rattle.number.proofs.Range.{twice_half, valued_low, valued_high}

-- the magnitude that the top bit t of r picks
abbrev pub picked : ℕ → ℕ → ℕ → ℕ
picked p r t = r * (1 - t) + (2 ^ p - 1 - r + t) * t

module _ (p r : ℕ) (some : 1 ≤ p) (small : r < 2 ^ p) where
  clear : r < 2 ^ (p - 1) → r / 2 ^ (p - 1) ≡ 0
  clear h = div-eq_of_lt h

  set : 2 ^ (p - 1) ≤ r → r / 2 ^ (p - 1) ≡ 1
  set h =
      let t = twice_half p some in
      let l : r - 2 ^ (p - 1) < 2 ^ (p - 1) = omega arith in
      let e : r ≡ 1 * 2 ^ (p - 1) + (r - 2 ^ (p - 1)) = omega arith in
      ap (λ (x : ℕ). x / 2 ^ (p - 1)) e ∙ high 1 (p - 1) l

  pub given_picked : Whole (eqb (r / 2 ^ (p - 1)) 1) (picked p r (r / 2 ^ (p - 1))) ≡ number_given (valued true p r)
  given_picked =
      ⊎_elim
      (λ e. let m : picked p r 1 ≡ suc (2 ^ p - suc r) = omega arith in
      rw (set (omega arith), valued_high p r (omega arith)) (ap (Whole true) m))
      (λ l. let m : picked p r 0 ≡ r = omega arith in
      rw (clear (omega arith), valued_low p r (omega arith)) (ap (Whole false) m))
      (eq-zero-or-pos (2 ^ (p - 1) - r))

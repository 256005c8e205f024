-- The machine's count of leading zeros, and the bits that no double of a number's length has. Assumes nothing.
use mathlib.Core.Path.{◌≡◌, sym, subst, refl}
use mathlib.Core.Logic.{⊎_elim}
use Prim.Native.Nat.{ℕ, zero, suc, ◌+◌, ◌-◌, ◌^◌, ◌≤◌, ◌<◌}
use native.Mathlib.Nat.{zero-lt-suc, le_trans, lt_of_lt_of_le, lt_irrefl}
use native.Mathlib.Omega.{arith}
use lib.Pow.{pow_mono}
use lib.Count.{count_leading_zeros, leading_top, leading_of_zero}
use Rattle.reals.specs.Nearest.{highest}
use Rattle.reals.proofs.Highest.{highest_is}
use Rattle.reals.proofs.Rounding.{over_or_within}
use Rattle.reals.proofs.Exact.{spare}

-- the place of the highest set bit is one
highest_unique : (n e j : ℕ) → 2 ^ e ≤ n → n < 2 ^ suc e → 2 ^ j ≤ n → n < 2 ^ suc j → e ≡ j
highest_unique n e j a b c d =
    ⊎_elim (λ l. absurd (no e j l b c)) (λ l. ⊎_elim (λ g. absurd (no j e g d a)) (λ g. omega arith) (over_or_within j e)) (over_or_within e j)
  where
    no : (e j : ℕ) → e < j → n < 2 ^ suc e → 2 ^ j ≤ n → ⊥
    no e j l b c = lt_irrefl n (lt_of_lt_of_le b (le_trans (pow_mono {i = suc e} {j = j} l) c))

-- as the machine counts it
pub highest_zeros : (n : ℕ) → 0 < n → n < 2 ^ 64 → count_leading_zeros 64 n + suc (highest 63 n) ≡ 64
highest_zeros n p l =
    let t = leading_top 64 n p l in
    let h = highest_is 63 n p l in
    subst (λ (j : ℕ). count_leading_zeros 64 n + suc j ≡ 64) (sym (highest_unique n (highest 63 n) t.0 h.low h.high t.2 t.3)) t.1

pub highest_zero : highest 63 0 ≡ 0
unfolding highest
highest_zero = refl

pub spare_zeros : (n : ℕ) → n < 2 ^ 64 → 11 - count_leading_zeros 64 n ≡ spare n
spare_zeros zero l =
    let z : count_leading_zeros 64 0 ≡ 64 = leading_of_zero 64 in
    rw (z, highest_zero)
spare_zeros (suc n) l =
    let z = highest_zeros (suc n) (zero-lt-suc n) l in
    omega arith

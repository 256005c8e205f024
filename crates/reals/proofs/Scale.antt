-- Remainders and products with a common factor. Assumes nothing.
use mathlib.Core.Path.{◌≡◌, sym, ap, ◌∙◌}
use Prim.Native.Nat.{ℕ, zero, suc, ◌+◌, ◌*◌, ◌/◌, ◌%◌, ◌<◌}
use native.Mathlib.Nat.{zero-lt-suc, zero-mul, mul-div_cancel, mul-mod_left, mul-pos, add-zero, div-add-mod'}
use native.Mathlib.Omega.{arith}
use lib.Dec.{eqb}
use lib.Arith.{mod-mul}
use borrow.Author.Tests.{eq-eqb, ne_eqb}

-- a factor that both have stays in the remainder
pub mod_scale : (n k m : ℕ) → 0 < k → 0 < m → n * m % (k * m) ≡ n % k * m
mod_scale n k m p q =
    mod-mul (n * m) p q ∙ ap (λ (x : ℕ). x % k * m + n * m % m) (mul-div_cancel n q) ∙ ap (λ (x : ℕ). n % k * m + x) (mul-mod_left n m) ∙ add-zero (n % k * m)

-- a product is 0 exactly where its factor is
pub zero_scale : (r m : ℕ) → 0 < m → eqb (r * m) 0 ≡ eqb r 0
zero_scale zero m p = eq-eqb (zero * m) 0 (zero-mul m)
zero_scale (suc r) m p =
    let h : 0 < suc r * m = mul-pos (zero-lt-suc r) p in
    ne_eqb (suc r * m) 0 (λ e. omega arith) ∙ sym (ne_eqb (suc r) 0 (λ e. omega arith))

-- where nothing is left over, the quotient times the divisor is the dividend
pub whole_quotient : (a d : ℕ) → a % d ≡ 0 → a / d * d ≡ a
whole_quotient a d e = sym (add-zero (a / d * d)) ∙ ap (λ (x : ℕ). a / d * d + x) (sym e) ∙ div-add-mod' a d

-- The cases of `fittedTo` and of `valued`, each under the test that picks it. Assumes nothing.
use mathlib.Core.Path.{◌≡◌, refl, ap, ◌∙◌}
use mathlib.Core.Bool.{Bool, true, false, cond}
use Prim.Native.Nat.{ℕ, suc, ◌+◌, ◌-◌, ◌^◌, ◌≤◌, ◌<◌, zero-le}
use native.Mathlib.Nat.{two-pow-succ}
use native.Mathlib.Omega.{arith}
use lib.Pow.{pow_mono}
use borrow.Author.Tests.{lt-ltb, le-ltb}
use lib.IntN.{ℤ, pos, negsuc}
use lib.Signed.{lt_z}
use Rattle.layout.specs.declared.Layout.{Layout}
use Rattle.number.specs.declared.Fitted.{Fitted}
use Rattle.number.specs.Number.{valued, largest, smallest, bits_of, number_given, fitted_to, fitted}

pub valued_low : (p r : ℕ) → r < 2 ^ (p - 1) → valued true p r ≡ pos r
valued_low p r h = simp (lt-ltb r (2 ^ (p - 1)) h)

pub valued_high : (p r : ℕ) → 2 ^ (p - 1) ≤ r → valued true p r ≡ negsuc (2 ^ p - suc r)
valued_high p r h = simp (le-ltb r (2 ^ (p - 1)) h)

pub unsigned_above : (p n : ℕ) → 2 ^ p - 1 < n → fitted_to false p (pos n) ≡ record { raw = 2 ^ p - 1; kind = 1; given = number_given (pos n) }
unsigned_above p n h = simp (lt-ltb (2 ^ p - 1) n h)

pub unsigned_inside : (p n : ℕ) → n ≤ 2 ^ p - 1 → fitted_to false p (pos n) ≡ record { raw = n; kind = 0; given = number_given (pos n) }
unsigned_inside p n h = simp (le-ltb (2 ^ p - 1) n h, le-ltb n 0 zero-le)

pub signed_above : (p n : ℕ) → 2 ^ (p - 1) - 1 < n → fitted_to true p (pos n) ≡ record { raw = 2 ^ (p - 1) - 1; kind = 1; given = number_given (pos n) }
signed_above p n h = simp (lt-ltb (2 ^ (p - 1) - 1) n h)

pub signed_inside : (p n : ℕ) → n ≤ 2 ^ (p - 1) - 1 → fitted_to true p (pos n) ≡ record { raw = n; kind = 0; given = number_given (pos n) }
signed_inside p n h = simp (le-ltb (2 ^ (p - 1) - 1) n h)

pub signed_below : (p n : ℕ) → 2 ^ (p - 1) - 1 < n → fitted_to true p (negsuc n) ≡ record { raw = 2 ^ p - suc (2 ^ (p - 1) - 1); kind = 2; given = number_given (negsuc n) }
signed_below p n h = simp (lt-ltb (2 ^ (p - 1) - 1) n h)

pub signed_negative : (p n : ℕ) → n ≤ 2 ^ (p - 1) - 1 → fitted_to true p (negsuc n) ≡ record { raw = 2 ^ p - suc n; kind = 0; given = number_given (negsuc n) }
signed_negative p n h = simp (le-ltb (2 ^ (p - 1) - 1) n h)

-- the largest signed number of p bits is no more than the largest unsigned one
pub most_le : (p : ℕ) → 2 ^ (p - 1) - 1 ≤ 2 ^ p - 1
most_le p =
    let h : 2 ^ (p - 1) ≤ 2 ^ p = pow_mono (omega arith) in
    omega arith

-- the machine's complement of n in m, and the definition's
pub sub_one_sub : (m n : ℕ) → m - 1 - n ≡ m - suc n
sub_one_sub m n = omega arith

-- p bits have twice the numbers of p - 1 bits
pub twice_half : (p : ℕ) → 1 ≤ p → 2 ^ p ≡ 2 ^ (p - 1) + 2 ^ (p - 1)
twice_half p h =
    let e : p ≡ suc (p - 1) = omega arith in
    ap (λ (k : ℕ). 2 ^ k) e ∙ two-pow-succ (p - 1)

-- whatever becomes of a number, it is what was given
pub fitted_given : (l : Layout) (z : ℤ) → (fitted l z).given ≡ number_given z
fitted_given l z = go (lt_z (largest l.signed l.precision) z) (lt_z z (smallest l.signed l.precision))
  where
    go : (a b : Bool)
        → (cond {A = Fitted} a (record { raw = bits_of l.precision (largest l.signed l.precision); kind = 1; given = number_given z })
        (cond b (record { raw = bits_of l.precision (smallest l.signed l.precision); kind = 2; given = number_given z })
        (record { raw = bits_of l.precision z; kind = 0; given = number_given z }))).given ≡ number_given z
    go true b = refl
    go false true = refl
    go false false = refl

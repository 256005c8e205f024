-- The 64 bits from their three parts, and the three parts from the bits. Assumes nothing.
use mathlib.Core.Path.{◌≡◌, refl, ap, ◌∙◌}
use mathlib.Core.Bool.{Bool, true, false, cond}
use Prim.Native.Nat.{ℕ, ◌+◌, ◌*◌, ◌/◌, ◌%◌, ◌^◌, ◌≤◌, ◌<◌}
use native.Mathlib.Nat.{mod-lt}
use native.Mathlib.Omega.{arith}
use lib.Dec.{eqb}
use lib.Arith.{lt_of_le-ne}
use lib.Pow.{pow_pos, high}
use borrow.Author.Tests.{leb-true, leb-false, le-leb, lt-leb, eqb-false, ne_eqb}
use Rattle.reals.specs.Worth.{negative, exponent, fraction, quanta_of, Worth, worth}
use Rattle.reals.specs.Worth.Worth.{not_a_number, infinite, finite}

abbrev pub sign_bit : Bool → ℕ
sign_bit false = 0
sign_bit true = 2 ^ 63

abbrev pub assembled : Bool → ℕ → ℕ → ℕ
assembled s x t = sign_bit s + (x * 2 ^ 52 + t)

pub above_52 : (s : Bool) (x t : ℕ) → t < 2 ^ 52 → assembled s x t / 2 ^ 52 ≡ sign_bit s / 2 ^ 52 + x
above_52 false x t h =
    let e : 0 + (x * 2 ^ 52 + t) ≡ (0 + x) * 2 ^ 52 + t = omega arith in
    rw e (high (0 + x) 52 h)
above_52 true x t h =
    let e : 2 ^ 63 + (x * 2 ^ 52 + t) ≡ (2048 + x) * 2 ^ 52 + t = omega arith in
    rw e (high (2048 + x) 52 h)

pub exponent_of : (s : Bool) (x t : ℕ) → x < 2048 → t < 2 ^ 52 → exponent (assembled s x t) ≡ x
exponent_of false x t l h = ap (λ (q : ℕ). q % 2 ^ 11) (above_52 false x t h) ∙ omega arith
exponent_of true x t l h = ap (λ (q : ℕ). q % 2 ^ 11) (above_52 true x t h) ∙ omega arith

pub fraction_of : (s : Bool) (x t : ℕ) → t < 2 ^ 52 → fraction (assembled s x t) ≡ t
fraction_of false x t h = omega arith
fraction_of true x t h = omega arith

pub negative_of : (s : Bool) (x t : ℕ) → x < 2048 → t < 2 ^ 52 → negative (assembled s x t) ≡ s
negative_of false x t l h = lt-leb (2 ^ 63) (assembled false x t) (omega arith)
negative_of true x t l h = le-leb (2 ^ 63) (assembled true x t) (omega arith)

pub assembled_lt : (s : Bool) (x t : ℕ) → x < 2048 → t < 2 ^ 52 → assembled s x t < 2 ^ 64
assembled_lt false x t l h = omega arith
assembled_lt true x t l h = omega arith

pub worth_of : (s : Bool) (x t : ℕ) → x < 2047 → t < 2 ^ 52 → worth (assembled s x t) ≡ finite s (quanta_of x t)
unfolding worth
worth_of s x t l h =
    let l' : x < 2048 = omega arith in
    rw (exponent_of s x t l' h, fraction_of s x t h, negative_of s x t l' h, ne_eqb x 2047 (λ e. omega arith))

-- ---- from the bits: which of the three kinds of worth they are, and for a number its parts
pub data Apart (b : ℕ) : Worth → Type 0 where
  nan : Apart b not_a_number
  inf : {s : Bool} → Apart b (infinite s)
  fin : {s : Bool} {x t : ℕ} → x < 2047 → t < 2 ^ 52 → b ≡ assembled s x t → Apart b (finite s (quanta_of x t))

parts : (b : ℕ) → b < 2 ^ 64 → b ≡ assembled (negative b) (exponent b) (fraction b)
parts b l = go (negative b) refl
  where
    go : (s : Bool) → negative b ≡ s → b ≡ assembled s (exponent b) (fraction b)
    go true e =
        let h : 2 ^ 63 ≤ b = leb-true _ _ e in
        omega arith
    go false e =
        let h : b < 2 ^ 63 = leb-false _ _ e in
        omega arith

pub apart_of : (b : ℕ) → b < 2 ^ 64 → Apart b (worth b)
unfolding worth
apart_of b l = go (eqb (exponent b) 2047) refl (eqb (fraction b) 0)
  where
    go : (p : Bool) → eqb (exponent b) 2047 ≡ p → (q : Bool)
        → Apart b (cond p (cond q (infinite (negative b)) not_a_number) (finite (negative b) (quanta_of (exponent b) (fraction b))))
    go true e true = inf
    go true e false = nan
    go false e q =
        let n : (exponent b ≡ 2047 → ⊥) = eqb-false _ _ e in
        let m : exponent b < 2048 = mod-lt (b / 2 ^ 52) (pow_pos 11) in
        fin (lt_of_le-ne (omega arith) n) (mod-lt b (pow_pos 52)) (parts b l)

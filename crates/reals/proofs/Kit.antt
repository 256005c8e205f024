-- `worth` says what the kit's account of IEEE 754 says of every 64 bits (`lib.Ieee.of_bits`). Assumes nothing.
use mathlib.Core.Path.{◌≡◌, refl, subst}
use mathlib.Core.Bool.{Bool, true, false, cond}
use Prim.Native.Nat.{ℕ, zero, suc, ◌+◌, ◌^◌}
use native.Mathlib.Nat.{mul-one}
use lib.Dec.{eqb}
use lib.Pow.{field}
use lib.Ieee as Ieee
use lib.Ieee.{Float, binary64, of_fields, of_bits, odd}
use lib.Ieee.Exact.{HasValue, odd_sign}
use Rattle.reals.specs.Worth.{quanta_per_one, negative, exponent, fraction, quanta_of, Worth, worth}
use Rattle.reals.specs.Worth.Worth.{not_a_number, infinite, finite}

-- the same in both: not-a-number, an infinity of the sign, or m quanta of the sign
abbrev pub SameWorth : Worth → Float → Type 0
SameWorth not_a_number x = x ≡ Ieee.nan
SameWorth (infinite s) x = x ≡ Ieee.inf s
SameWorth (finite s m) x = HasValue x s m quanta_per_one

same_fields : (s : Bool) (x t : ℕ) → SameWorth (cond (eqb x 2047) (cond (eqb t 0) (infinite s) not_a_number) (finite s (quanta_of x t))) (of_fields binary64 s x t)
unfolding of_fields
same_fields s zero t = subst (λ (m : ℕ). HasValue (odd 53 s t 0 1074) s m quanta_per_one) (mul-one t) (odd_sign 53 s t 0 1074)
same_fields s (suc x) t = go (eqb (suc x) 2047) (eqb t 0)
  where
    go : (p q : Bool)
        → SameWorth (cond p (cond q (infinite s) not_a_number) (finite s (quanta_of (suc x) t)))
        (cond p (cond q (Ieee.inf s) Ieee.nan) (odd 53 s (2 ^ 52 + t) x 1074))
    go true true = refl
    go true false = refl
    go false q = odd_sign 53 s (2 ^ 52 + t) x 1074

pub kit_agrees : (b : ℕ) → SameWorth (worth b) (of_bits binary64 b)
unfolding worth of_bits
kit_agrees b = rw (field b 11 52) (same_fields (negative b) (exponent b) (fraction b))

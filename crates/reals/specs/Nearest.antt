-- 2026-03, "the nearest double, ties to even, 0 as +0": the computed one. That no double is nearer is a law (proofs/Nearness, over specs/Nearness).
use Rattle.std.specs.Prelude.{cond, ℕ, zero, suc, ◌+◌, ◌*◌, ◌/◌, ◌%◌, ◌^◌, eqb, leb, ℤ, pos, negsuc}

-- the place of the highest set bit of n, looked for from bit k down
unfoldable pub highest : ℕ → ℕ → ℕ
highest zero n = 0
highest (suc k) n = cond (leb (2 ^ suc k) n) (suc k) (highest k n)

-- a / d to the nearest whole number: where the remainder is half of d the even one, where it is less the lower one, else the higher one
abbrev pub rounded : ℕ → ℕ → ℕ
rounded a d = cond (eqb (a % d * 2) d) (a / d + a / d % 2) (cond (leb (a % d * 2) d) (a / d) (suc (a / d)))

-- The bits of the double nearest to n, for n from 1 to 2^64 − 1. With 2^e ≤ n < 2^(e + 1) the significand is n / 2^e × 2^52 rounded, from 2^52 to 2^53.
-- The exponent of 2^e is 1023 + e. Its last 1 is the significand's bit 52, and a significand of 2^53 carries into the next exponent, with fraction 0.
unfoldable pub magnitude_bits : ℕ → ℕ
magnitude_bits zero = 0
magnitude_bits (suc n) = let e = highest 63 (suc n) in (1022 + e) * 2 ^ 52 + rounded (suc n * 2 ^ 52) (2 ^ e)

abbrev pub nearest : ℤ → ℕ
nearest (pos n) = magnitude_bits n
nearest (negsuc n) = 2 ^ 63 + magnitude_bits (suc n)

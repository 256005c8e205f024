-- A real of less than 2^53 as an int, by its bits alone. No meaning of document 01 stands here.
use Rattle.std.specs.Prelude.{ℕ, ◌+◌, ◌-◌, ◌/◌, ◌%◌, ◌^◌, min, Bool, cond, ◌==◌, bit_and, nat_lt}
use Rattle.reals.specs.Worth.{exponent, fraction}

-- the significand, and 0 for a positive zero, and how many of its bits are a fraction's: at most 63, as many as can be shifted out
abbrev pub significand_of : ℕ → ℕ
significand_of b = cond (b == 0) 0 (2 ^ 52 + fraction b)

abbrev pub below_of : ℕ → ℕ
below_of x = min (1075 - x) 63

-- the whole number below the real, and what is left of the significand
unfoldable pub whole_near : ℕ → ℕ
whole_near b = significand_of b / 2 ^ below_of (exponent b)

unfoldable pub part_near : ℕ → ℕ
part_near b = significand_of b % 2 ^ below_of (exponent b)

abbrev pub limit_of : Bool → ℕ → ℕ → ℕ
limit_of negative most least = cond negative least most

-- a magnitude with its sign, in two's complement under the mask into
abbrev pub signed_in : Bool → ℕ → ℕ → ℕ
signed_in negative into c = cond negative (bit_and (into - c + 1) into) c

-- whether a fraction is lost, or the number lies beyond the limit
abbrev pub raised_near : ℕ → ℕ → ℕ → ℕ
raised_near part limit n = cond (part == 0) (cond (nat_lt limit n) 1 0) 1

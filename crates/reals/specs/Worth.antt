-- 2026-03, "an IEEE 754 binary64": what 64 bits are worth, in whole numbers. Bit 63 is the sign, bits 52 to 62 are the exponent, bits 0 to 51 the fraction:
-- HDF5's sign position 63, exponent position 52 and size 11, mantissa position 0 and size 52, exponent bias 1023, first mantissa bit implied.
use Rattle.std.specs.Prelude.{Bool, cond, ℕ, zero, suc, ◌+◌, ◌*◌, ◌/◌, ◌%◌, ◌^◌, eqb, leb}

abbrev pub negative : ℕ → Bool
negative b = leb (2 ^ 63) b

abbrev pub exponent : ℕ → ℕ
exponent b = b / 2 ^ 52 % 2 ^ 11

abbrev pub fraction : ℕ → ℕ
fraction b = b % 2 ^ 52

-- the exponent whose 11 bits are all one: that of the infinities, with fraction 0, and of the not-a-numbers
abbrev pub top_exponent : ℕ
top_exponent = 2047

-- Every finite double is a whole number of quanta, a quantum being the smallest double above 0, 2^−1074. So doubles are compared as whole numbers, and
-- nothing is rounded.
abbrev pub quanta_per_one : ℕ
quanta_per_one = 2 ^ 1074

-- The quanta of a double with exponent x and fraction t. At exponent 0 no leading bit is implied. From 1 on a bit above the fraction is, and each step
-- of the exponent doubles.
abbrev pub quanta_of : ℕ → ℕ → ℕ
quanta_of zero t = t
quanta_of (suc x) t = (2 ^ 52 + t) * 2 ^ x

-- What bits are worth; a finite number by its sign, true where it is negative, and its quanta. Negative zero is `finite true 0`.
pub data Worth : Type 0 where
  not_a_number : Worth
  infinite : Bool → Worth
  finite : Bool → ℕ → Worth

unfoldable pub worth : ℕ → Worth
worth b =
    cond (eqb (exponent b) top_exponent) (cond (eqb (fraction b) 0) (infinite (negative b)) not_a_number)
    (finite (negative b) (quanta_of (exponent b) (fraction b)))

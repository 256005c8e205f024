-- A number of at most 53 bits as a real, by its bits alone. No meaning of document 01 stands here.
use Rattle.std.specs.Prelude.{ℕ, ◌+◌, ◌-◌, ◌^◌, Bool, true, false, cond, nat_le}
use Rattle.reals.specs.Nearest.{magnitude_bits}

-- the p bits from which on a number is negative: where there is no sign, more than there are
abbrev pub first_below : Bool → ℕ → ℕ
first_below false p = 2 ^ p
first_below true p = 2 ^ (p - 1)

abbrev pub magnitude_in : Bool → ℕ → ℕ → ℕ
magnitude_in negative all raw = cond negative (all - raw) raw

-- the bits raw, out of all that there are, as a real's: from first on they are negative
unfoldable pub short_real : ℕ → ℕ → ℕ → ℕ
short_real first all raw = cond (nat_le first raw) (2 ^ 63) 0 + magnitude_bits (magnitude_in (nat_le first raw) all raw)

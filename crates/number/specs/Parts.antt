-- What the code's own forms of a number mean.
use Rattle.std.specs.Prelude.{Bool, true, false, ℕ, ℤ, pos, negsuc}
use Rattle.number.specs.declared.Number.{Number}
use Rattle.number.specs.declared.Number.TheVariants.{Signed, Unsigned}

abbrev pub meaning : Number → ℤ
meaning (Signed z) = z
meaning (Unsigned n) = pos n

-- a number by its sign and its distance from 0, or from -1 where it is negative
abbrev pub signed_by : Bool → ℕ → ℤ
signed_by false n = pos n
signed_by true n = negsuc n

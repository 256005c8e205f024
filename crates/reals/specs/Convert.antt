-- 2026-03: an int's number into a real, a real's 64 bits into an int, and into another real.
use Rattle.std.specs.Prelude.{Bool, true, false, cond, not, ◌&&◌, ◌||◌, ℕ, zero, suc, ◌/◌, ◌%◌, eqb, ℤ, pos, negsuc}
use Rattle.answer.specs.declared.Given.{Given}
use Rattle.answer.specs.declared.Given.TheVariants.{Real}
use Rattle.layout.specs.declared.Layout.{Layout}
use Rattle.number.specs.declared.Fitted.{Fitted}
use Rattle.number.specs.Number.{largest, smallest, bits_of, number_given, fitted_to}
use Rattle.reals.specs.Worth.{quanta_per_one, Worth, worth}
use Rattle.reals.specs.Worth.Worth.{not_a_number, infinite, finite}
use Rattle.reals.specs.Compare.{equals}
use Rattle.reals.specs.Nearest.{nearest}

-- "Int to real gives the nearest double, ties to even, 0 as +0; kind 6 exactly where that double isn't the number."
unfoldable pub int_to_real : ℤ → Fitted
int_to_real z = record { raw = nearest z; kind = cond (equals (nearest z) z) 0 6; given = number_given z }

-- ---- real to int

-- the number of a sign and a magnitude: either zero is 0
abbrev pub with_sign : Bool → ℕ → ℤ
with_sign false n = pos n
with_sign true zero = pos 0
with_sign true (suc n) = negsuc n

-- "Real to int drops the fraction toward zero"
abbrev pub toward_zero : Bool → ℕ → ℤ
toward_zero s m = with_sign s (m / quanta_per_one)

-- "a fraction or the sign of a negative zero was lost"
abbrev pub lost : Bool → ℕ → Bool
lost s m = not (eqb (m % quanta_per_one) 0) || (s && eqb m 0)

-- "In range, kind 5 if a fraction or the sign of a negative zero was lost." What was given is g.
abbrev pub noting : Given → Bool → Fitted → Fitted
noting g l f = record { raw = f.raw; kind = cond (eqb f.kind 0) (cond l 5 0) f.kind; given = g }

-- "then applies the range as before, kinds 1 and 2, with infinities as out of range." "Not-a-number gives 0, kind 4."
abbrev pub worth_to_int : Given → Bool → ℕ → Worth → Fitted
worth_to_int g signed p not_a_number = record { raw = 0; kind = 4; given = g }
worth_to_int g signed p (infinite false) = record { raw = bits_of p (largest signed p); kind = 1; given = g }
worth_to_int g signed p (infinite true) = record { raw = bits_of p (smallest signed p); kind = 2; given = g }
worth_to_int g signed p (finite s m) = noting g (lost s m) (fitted_to signed p (toward_zero s m))

unfoldable pub real_to_int_of : Bool → ℕ → ℕ → Fitted
real_to_int_of signed p b = worth_to_int (Real b) signed p (worth b)

abbrev pub real_to_int : Layout → ℕ → Fitted
real_to_int l b = real_to_int_of l.signed l.precision b

-- "Real to real copies all 64 bits."
abbrev pub real_to_real : ℕ → Fitted
real_to_real b = record { raw = b; kind = 0; given = Real b }

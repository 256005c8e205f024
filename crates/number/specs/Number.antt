-- Document 01, "Where the bits lie" and "Paths and conversion": the number that significant bits stand for, and a number brought into a range.
-- In ℤ, `pos n` is n and `negsuc n` is −(n + 1).
use Rattle.std.specs.Prelude.{Bool, true, false, cond, List, ℕ, suc, ◌-◌, ◌^◌, ltb, ℤ, pos, negsuc}
use Rattle.std.specs.Int.Signed.{lt_z}
use Rattle.answer.specs.declared.Given.{Given}
use Rattle.answer.specs.declared.Given.TheVariants.{Whole}
use Rattle.layout.specs.declared.Layout.{Layout}
use Rattle.number.specs.declared.Fitted.{Fitted}
use Rattle.number.specs.Place.{raw_at}

-- "sign `signed` (two's complement) or `unsigned`", "Sign comes from the top significant bit":
-- the number that p significant bits r stand for
abbrev pub valued : Bool → ℕ → ℕ → ℤ
valued false p r = pos r
valued true p r = cond (ltb r (2 ^ (p - 1))) (pos r) (negsuc (2 ^ p - suc r))

-- the number in l's place at byte i of s
abbrev pub number_at : Layout → ℕ → List ℕ → ℤ
number_at l i s = valued l.signed l.precision (raw_at l i s)

-- the range of p significant bits: its largest and its smallest number
abbrev pub largest : Bool → ℕ → ℤ
largest false p = pos (2 ^ p - 1)
largest true p = pos (2 ^ (p - 1) - 1)

abbrev pub smallest : Bool → ℕ → ℤ
smallest false p = pos 0
smallest true p = negsuc (2 ^ (p - 1) - 1)

-- the p significant bits of a number in range
abbrev pub bits_of : ℕ → ℤ → ℕ
bits_of p (pos n) = n
bits_of p (negsuc n) = 2 ^ p - suc n

-- document 02, 2026-05: "the number it was given as well, sign and magnitude"
abbrev pub number_given : ℤ → Given
number_given (pos n) = Whole false n
number_given (negsuc n) = Whole true (suc n)

-- "the number itself if in the destination's range. Above it: the largest, exception kind 1. Below it: the smallest, kind 2."
abbrev pub fitted_to : Bool → ℕ → ℤ → Fitted
fitted_to signed p z =
    cond (lt_z (largest signed p) z) (record { raw = bits_of p (largest signed p); kind = 1; given = number_given z })
    (cond (lt_z z (smallest signed p)) (record { raw = bits_of p (smallest signed p); kind = 2; given = number_given z })
    (record { raw = bits_of p z; kind = 0; given = number_given z }))

abbrev pub fitted : Layout → ℤ → Fitted
fitted l z = fitted_to l.signed l.precision z

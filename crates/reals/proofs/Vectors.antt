-- Worked cases, as one statement over one list, which the checker computes. The answers are those of an independent program, with the machine's own doubles.
-- Each group has the sentence of 2026-03 that it shows. Assumes nothing.
use mathlib.Core.Path.{◌≡◌, refl}
use mathlib.Core.Bool.{Bool, true, false}
use mathlib.Core.List.{List, [], ◌∷◌, map}
use Prim.Native.Nat.{ℕ, ◌+◌, ◌-◌, ◌^◌}
use lib.IntN.{ℤ, pos, negsuc}
use Rattle.answer.specs.declared.Given.TheVariants.{Real}
use Rattle.number.specs.declared.Fitted.{Fitted}
use Rattle.number.specs.Number.{number_given}
use Rattle.reals.specs.Worth.{worth}
use Rattle.reals.specs.Nearest.{highest, magnitude_bits}
use Rattle.reals.specs.Compare.{equals}
use Rattle.reals.specs.Convert.{int_to_real, real_to_int_of, real_to_real}

pub data Case : Type 0 where
  to_real : ℤ → ℕ → ℕ → Case  -- a number, the bits of its double, and the kind
  to_int : Bool → ℕ → ℕ → ℕ → ℕ → Case  -- signed, precision, a real's bits, its significant bits there, and the kind
  copied : ℕ → ℕ → Case  -- a real's bits, and its bits in another real
  compared : ℕ → ℤ → Bool → Case  -- a real's bits, a number, and whether they are worth the same

pub data Answer : Type 0 where
  fits : Fitted → Answer
  same : Bool → Answer

abbrev pub given : Case → Answer
given (to_real z b k) = fits (int_to_real z)
given (to_int s p b r k) = fits (real_to_int_of s p b)
given (copied b c) = fits (real_to_real b)
given (compared b z t) = same (equals b z)

abbrev pub wanted : Case → Answer
wanted (to_real z b k) = fits (record { raw = b; kind = k; given = number_given z })
wanted (to_int s p b r k) = fits (record { raw = r; kind = k; given = Real b })
wanted (copied b c) = fits (record { raw = c; kind = 0; given = Real b })
wanted (compared b z t) = same t

abbrev pub cases : List Case
cases =
    -- "Int to real gives the nearest double", "0 as +0"
    to_real (pos 0) 0x0 0 ∷
    to_real (pos 1) 0x3ff0000000000000 0 ∷
    to_real (negsuc 0) 0xbff0000000000000 0 ∷
    to_real (pos 4386) 0x40b1220000000000 0 ∷
    to_real (negsuc 199) 0xc069000000000000 0 ∷
    to_real (pos (2 ^ 53 - 1)) 0x433fffffffffffff 0 ∷
    to_real (pos (2 ^ 53)) 0x4340000000000000 0 ∷
    to_real (pos (2 ^ 53 + 2)) 0x4340000000000001 0 ∷
    to_real (pos (2 ^ 63)) 0x43e0000000000000 0 ∷
    to_real (negsuc (2 ^ 63 - 1)) 0xc3e0000000000000 0 ∷
    to_real (pos (2 ^ 64 - 2048)) 0x43efffffffffffff 0 ∷
    -- "ties to even": halfway between two doubles, to the lower one
    to_real (pos (2 ^ 53 + 1)) 0x4340000000000000 6 ∷
    to_real (negsuc (2 ^ 53)) 0xc340000000000000 6 ∷
    to_real (pos (2 ^ 54 + 2)) 0x4350000000000000 6 ∷
    to_real (pos (2 ^ 63 + 1024)) 0x43e0000000000000 6 ∷
    -- and to the higher one, at the end of a power of two as well
    to_real (pos (2 ^ 53 + 3)) 0x4340000000000002 6 ∷
    to_real (negsuc (2 ^ 53 + 2)) 0xc340000000000002 6 ∷
    to_real (pos (2 ^ 54 + 6)) 0x4350000000000002 6 ∷
    to_real (pos (2 ^ 63 + 3072)) 0x43e0000000000002 6 ∷
    to_real (pos (2 ^ 64 - 1024)) 0x43f0000000000000 6 ∷
    -- "kind 6 exactly where that double isn't the number": no tie
    to_real (pos (2 ^ 63 - 1)) 0x43e0000000000000 6 ∷
    to_real (pos (2 ^ 63 + 1)) 0x43e0000000000000 6 ∷
    to_real (pos (2 ^ 63 + 1025)) 0x43e0000000000001 6 ∷
    to_real (pos (2 ^ 64 - 1025)) 0x43efffffffffffff 6 ∷
    to_real (pos (2 ^ 64 - 1)) 0x43f0000000000000 6 ∷
    -- "Real to int": 1, −200, −2^63, 2^63, and the largest doubles below 2^63 and 2^64
    to_int false 8 0x3ff0000000000000 1 0 ∷
    to_int true 12 0xc069000000000000 0xf38 0 ∷
    to_int true 64 0xc3e0000000000000 0x8000000000000000 0 ∷
    to_int false 64 0x43e0000000000000 0x8000000000000000 0 ∷
    to_int true 64 0x43dfffffffffffff 0x7ffffffffffffc00 0 ∷
    to_int false 64 0x43efffffffffffff 0xfffffffffffff800 0 ∷
    -- "drops the fraction toward zero", "kind 5 if a fraction .. was lost": 1.5, −1.5, −0.5, 255.5, −128.9, and the smallest subnormals
    to_int true 12 0x3ff8000000000000 1 5 ∷
    to_int true 12 0xbff8000000000000 0xfff 5 ∷
    to_int false 8 0xbfe0000000000000 0 5 ∷
    to_int true 8 0xbfe0000000000000 0 5 ∷
    to_int false 8 0x406ff00000000000 255 5 ∷
    to_int true 8 0xc0601ccccccccccd 0x80 5 ∷
    to_int false 16 1 0 5 ∷
    to_int true 16 0x8000000000000001 0 5 ∷
    -- "or the sign of a negative zero": −0, and +0
    to_int false 8 0x8000000000000000 0 5 ∷
    to_int true 64 0x8000000000000000 0 5 ∷
    to_int false 8 0 0 0 ∷
    -- "then applies the range as before, kinds 1": 256.5, 256, 2^63, 2^64
    to_int false 8 0x4070080000000000 255 1 ∷
    to_int false 8 0x4070000000000000 255 1 ∷
    to_int true 64 0x43e0000000000000 0x7fffffffffffffff 1 ∷
    to_int false 64 0x43f0000000000000 0xffffffffffffffff 1 ∷
    -- "and 2": −1, −200, −129, the double below −2^63
    to_int false 8 0xbff0000000000000 0 2 ∷
    to_int false 12 0xc069000000000000 0 2 ∷
    to_int true 8 0xc060200000000000 0x80 2 ∷
    to_int true 64 0xc3e0000000000001 0x8000000000000000 2 ∷
    -- "with infinities as out of range"
    to_int true 64 0x7ff0000000000000 0x7fffffffffffffff 1 ∷
    to_int false 8 0x7ff0000000000000 255 1 ∷
    to_int true 64 0xfff0000000000000 0x8000000000000000 2 ∷
    to_int false 64 0xfff0000000000000 0 2 ∷
    -- "Not-a-number gives 0, kind 4": quiet and signalling, either sign
    to_int true 32 0x7ff8000000000000 0 4 ∷
    to_int false 8 0xfff8000000000000 0 4 ∷
    to_int true 64 0x7ff0000000000001 0 4 ∷
    to_int false 32 0xfff0000000000001 0 4 ∷
    -- "Real to real copies all 64 bits": −0, the smallest subnormal, an infinity, a quiet and a signalling not-a-number
    copied 0x8000000000000000 0x8000000000000000 ∷
    copied 1 1 ∷
    copied 0x7ff0000000000000 0x7ff0000000000000 ∷
    copied 0x7ff8000000000000 0x7ff8000000000000 ∷
    copied 0xfff0000000000001 0xfff0000000000001 ∷
    -- by exact worth
    compared 0x8000000000000000 (pos 0) true ∷
    compared 0x3ff0000000000000 (pos 1) true ∷
    compared 0x3ff8000000000000 (pos 1) false ∷
    compared 0x7ff8000000000000 (pos 0) false ∷
    compared 0x7ff0000000000000 (pos (2 ^ 64 - 1)) false ∷
    compared 0x43e0000000000000 (pos (2 ^ 63)) true ∷
    compared 0xc3e0000000000000 (negsuc (2 ^ 63 - 1)) true ∷
    compared 0x43efffffffffffff (pos (2 ^ 64 - 2048)) true ∷
    compared 0x43f0000000000000 (pos (2 ^ 64 - 1)) false ∷
    compared 0xc069000000000000 (negsuc 199) true ∷
    compared 0xc069000000000000 (pos 200) false ∷
    compared 1 (pos 0) false ∷
    []

pub all_cases : map given cases ≡ map wanted cases
unfolding worth highest magnitude_bits int_to_real real_to_int_of
all_cases = refl

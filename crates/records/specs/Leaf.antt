-- Document 01, "Paths and conversion": one matched leaf. The number that is read, what it becomes, and the exception that it raises.
use Rattle.std.specs.Prelude.{List, [], ℕ, ◌-◌, ◌^◌, ℤ}
use Rattle.std.proofs.Math.Option.{Option, none}
use Rattle.answer.specs.declared.Given.{Given}
use Rattle.answer.specs.declared.Given.TheVariants.{Real}
use Rattle.layout.specs.declared.Layout.{Layout}
use Rattle.number.specs.declared.Fitted.{Fitted}
use Rattle.number.specs.Number.{number_at, bits_of, number_given, fitted}
use Rattle.reals.specs.Convert.{int_to_real, real_to_int, real_to_real}
use Rattle.datatype.specs.Datatype.{Symbol, Leaf, layout_of}
use Rattle.datatype.specs.Datatype.Leaf.{atomic, enumeration, real}
use Rattle.datatype.specs.Symbols.{on_some, symbol_of, number_of}

-- the number in leaf x where it starts at byte a of the record r
abbrev pub number_in : Leaf → ℕ → List ℕ → ℤ
number_in x a r = number_at (layout_of x) a r

abbrev pub symbols : Leaf → List Symbol
symbols (atomic l) = []
symbols (enumeration l ss) = ss
symbols (real l) = []

-- "number to symbol, symbol to the destination's number"
abbrev pub translated : List Symbol → List Symbol → ℤ → Option ℤ
translated ss ts z = on_some (λ x. number_of x ts) none (symbol_of z ss)

-- document 02, 2026-03: "A real's matched number is its 64 bits"
abbrev pub real_bits : ℤ → ℕ
real_bits z = bits_of 64 z

-- document 02, 2026-05: "the number it was given .., sign and magnitude, or the 64 bits for a real", by the leaf that it comes from
abbrev pub given_of : Leaf → ℤ → Given
given_of (atomic l) z = number_given z
given_of (enumeration l ss) z = number_given z
given_of (real l) z = Real (real_bits z)

-- the number w of a symbol in the destination, where g was given
abbrev pub translated_to : Layout → Given → ℤ → Fitted
translated_to l g w = record { raw = (fitted l w).raw; kind = (fitted l w).kind; given = g }

-- "If either is missing: all significant bits one, kind 3."
abbrev pub untranslated : Layout → Given → Fitted
untranslated l g = record { raw = 2 ^ l.precision - 1; kind = 3; given = g }

-- what a number becomes in an int or bits of layout l, by the leaf that it comes from: "Real to int" where that is a real
abbrev pub into_atomic : Leaf → Layout → ℤ → Fitted
into_atomic (atomic k) l z = fitted l z
into_atomic (enumeration k ss) l z = fitted l z
into_atomic (real k) l z = real_to_int l (real_bits z)

-- and in a real: "Real to real copies all 64 bits. Int to real gives the nearest double"
abbrev pub into_real : Leaf → ℤ → Fitted
into_real (atomic k) z = int_to_real z
into_real (enumeration k ss) z = int_to_real z
into_real (real k) z = real_to_real (real_bits z)

-- what the number z of the source leaf x becomes in the destination leaf y: its significant bits, the kind of the exception, 0 for none, and what was given
abbrev pub converted : Leaf → Leaf → ℤ → Fitted
converted x (atomic l) z = into_atomic x l z
converted x (enumeration l ts) z = on_some (translated_to l (given_of x z)) (untranslated l (given_of x z)) (translated (symbols x) ts z)
converted x (real l) z = into_real x z

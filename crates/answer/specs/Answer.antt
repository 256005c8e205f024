-- Document 01, "Numbers of refusal, in the order of checks": the number of each answer, and every field beside it. Document 02, 2026-01: "10 CHANNEL",
-- "11 FULL", with no fields; 2026-07: "12 SYMBOLS", with none; 2026-05: "8 gains the field" of the number that was given.
use Rattle.std.specs.Prelude.{true, false, ℕ}
use Rattle.answer.specs.declared.Answer.{Answer}
use Rattle.answer.specs.declared.Answer.TheVariants.{Done, Handling, Table, Source, Destination, Path, Count, Room, Stop, Range, Channel, Full, Symbols}
use Rattle.answer.specs.declared.Values.{Values}
use Rattle.answer.specs.declared.Given.{Given}
use Rattle.answer.specs.declared.Given.TheVariants.{Whole, Real}

-- the column "No."
abbrev pub number_of : Answer → ℕ
number_of (Done count) = 0
number_of Handling = 1
number_of Table = 2
number_of (Source line) = 3
number_of (Destination line) = 4
number_of Path = 5
number_of Count = 6
number_of Room = 7
number_of (Stop i at kind given) = 8
number_of Range = 9
number_of Channel = 10
number_of Full = 11
number_of Symbols = 12

-- "sign and magnitude, or the 64 bits for a real": 0 for a number from 0 up, 1 for a negative one, 2 for a real
abbrev pub given_sign : Given → ℕ
given_sign (Whole false n) = 0
given_sign (Whole true n) = 1
given_sign (Real bits) = 2

abbrev pub given_magnitude : Given → ℕ
given_magnitude (Whole negative n) = n
given_magnitude (Real bits) = bits

-- "Unnamed fields are 0."
abbrev unnamed : Values
unnamed = record { count = 0; line = 0; «record» = 0; at = 0; kind = 0; given = 0; magnitude = 0 }

abbrev of_line : ℕ → Values
of_line k = record { count = 0; line = k; «record» = 0; at = 0; kind = 0; given = 0; magnitude = 0 }

-- the column "Place fields", and the exception count of a call that is done
abbrev pub values_of : Answer → Values
values_of (Done count) = record { count = count; line = 0; «record» = 0; at = 0; kind = 0; given = 0; magnitude = 0 }
values_of Handling = unnamed
values_of Table = unnamed
values_of (Source line) = of_line line
values_of (Destination line) = of_line line
values_of Path = unnamed
values_of Count = unnamed
values_of Room = unnamed
values_of (Stop i at kind given) =
    record { count = 0; line = 0; «record» = i; at = at; kind = kind; given = given_sign given; magnitude = given_magnitude given }
values_of Range = unnamed
values_of Channel = unnamed
values_of Full = unnamed
values_of Symbols = unnamed

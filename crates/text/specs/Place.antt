-- The fields and the lines of a text, by the place where each starts. Past the end of the text a field is empty.
use Rattle.std.specs.Prelude.{Bool, true, false, cond, ◌&&◌, ◌||◌, List, [], ◌∷◌, ℕ, ◌+◌, ◌^◌, length, get_or, drop, ltb, eqb, ℤ, pos, negsuc, Option, Some, None}
use Rattle.std.proofs.Math.Option as math
use Rattle.std.proofs.Math.Option.{none, some}
use Rattle.text.specs.Text.{tab, newline, split}
use Rattle.text.specs.Field.{number, enum_number, name}
use Rattle.text.specs.declared.Field.{Field}
use Rattle.text.specs.declared.Whole.{Whole}

-- ---- fields and lines

abbrev pub ends_line : ℕ → Bool
ends_line b = eqb b newline

abbrev pub ends_field : ℕ → Bool
ends_field b = eqb b tab || eqb b newline

-- the bytes before the first one that stops
unfoldable pub until : (ℕ → Bool) → List ℕ → List ℕ
until stop [] = []
until stop (b ∷ bs) = cond (stop b) [] (b ∷ until stop bs)

unfoldable pub field_at : List ℕ → ℕ → List ℕ
field_at s at = until ends_field (drop at s)

unfoldable pub line_at : List ℕ → ℕ → List ℕ
line_at s at = until ends_line (drop at s)

-- the place of the byte that ends the field or the line at a place, or the end of the text
abbrev pub field_end : List ℕ → ℕ → ℕ
field_end s at = at + length (field_at s at)

abbrev pub line_end : List ℕ → ℕ → ℕ
line_end s at = at + length (line_at s at)

-- whether the byte b, which is not 0, stands at a place: 0 stands for the byte past the end
abbrev pub byte_at : List ℕ → ℕ → ℕ → Bool
byte_at s at b = eqb (get_or s at 0) b

abbrev pub tab_at : List ℕ → ℕ → Bool
tab_at s at = byte_at s at tab

abbrev pub newline_at : List ℕ → ℕ → Bool
newline_at s at = byte_at s at newline

-- the fields of the line after one that ended at q
unfoldable pub fields_after : List ℕ → ℕ → List (List ℕ)
fields_after s q = cond (tab_at s q) (split tab (line_at s (q + 1))) []

-- the lines of the text after one that ended at q
unfoldable pub lines_after : List ℕ → ℕ → List (List ℕ)
lines_after s q = cond (ltb q (length s)) (split newline (drop (q + 1) s)) []

-- ---- what the field at a place says, with its end

-- a field that says so and ends at e, if it says anything
abbrev pub as_field : {A : Type 0} → math.Option A → ℕ → Option (Field A)
as_field (some a) e = Some (record { value = a; end = e })
as_field none e = None

unfoldable pub number_at : List ℕ → ℕ → Option (Field ℕ)
number_at s at = as_field (number (field_at s at)) (field_end s at)

-- of a name only its end
abbrev pub as_name : math.Option (List ℕ) → ℕ → Option ℕ
as_name (some t) e = Some e
as_name none e = None

unfoldable pub name_at : List ℕ → ℕ → Option ℕ
name_at s at = as_name (name (field_at s at)) (field_end s at)

-- an enum's number by its sign and its distance from 0, or from -1 where it is negative: from -2^63 up to 2^64 - 1, outside of which no base has it
abbrev pub as_whole : math.Option ℤ → ℕ → Option (Field Whole)
as_whole (some (pos n)) e = cond (ltb n (2 ^ 64)) (Some (record { value = record { negative = false; distance = n }; end = e })) None
as_whole (some (negsuc n)) e = cond (ltb n (2 ^ 63)) (Some (record { value = record { negative = true; distance = n }; end = e })) None
as_whole none e = None

unfoldable pub whole_at : List ℕ → ℕ → Option (Field Whole)
whole_at s at = as_whole (enum_number (field_at s at)) (field_end s at)

-- two texts are the same, byte by byte
unfoldable pub same_bytes : List ℕ → List ℕ → Bool
same_bytes [] [] = true
same_bytes [] (y ∷ ys) = false
same_bytes (x ∷ xs) [] = false
same_bytes (x ∷ xs) (y ∷ ys) = eqb x y && same_bytes xs ys

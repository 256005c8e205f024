-- What the reader of a line answers, beside what the definition says of the line.
use Rattle.std.specs.Prelude.{◌≡◌, Bool, true, cond, ◌&&◌, List, [], ◌∷◌, ℕ, ◌+◌, ◌-◌, length, take, drop, leb, ltb, Option, Some, None}
use Rattle.std.proofs.Math.Option as math
use Rattle.std.proofs.Math.Option.{none, some}
use Rattle.datatype.specs.Datatype.{up_to_zero}
use Rattle.number.specs.Parts.{signed_by}
use Rattle.text.specs.Text.{bytes}
use Rattle.text.specs.Field.{when, ◌>>=◌}
use Rattle.text.specs.Place.{line_at, line_end, tab_at, newline_at, fields_after}
use Rattle.line.specs.Line as said
use Rattle.line.specs.Column.{holdable}
use Rattle.line.specs.Line.{Fields, line_of, word, no_word, value_line_of, compound_line_of, member_line_of, array_line_of}
use Rattle.line.specs.Line.Line.{atomic_line, enum_line, value_line, compound_line, member_line, array_line, real_line}
use Rattle.line.specs.declared.Line.{Line}
use Rattle.line.specs.declared.Line.TheVariants.{Atomic, Enum, Value, Compound, Member, Array, Real}
use Rattle.line.specs.declared.ReadLine.{ReadLine}

-- ---- lines that an answer can hold

abbrev pub each_positive : List ℕ → Bool
each_positive [] = true
each_positive (d ∷ ds) = leb 1 d && each_positive ds

abbrev pub readable : said.Line → Bool
readable (value_line x z) = holdable z
readable (array_line base ds) = leb 1 (length ds) && leb (length ds) 4 && each_positive ds
readable (atomic_line l) = true
readable (enum_line base) = true
readable (compound_line z) = true
readable (member_line x offset k word) = true
readable (real_line z o) = true

-- ---- what an answer says

abbrev pub say_of : List ℕ → Line → List ℕ → said.Line
say_of s (Atomic l n) dims = atomic_line l
say_of s (Enum base n) dims = enum_line base
say_of s (Value a e negative d n) dims = value_line (take (e - a) (drop a s)) (signed_by negative d)
say_of s (Compound z n) dims = compound_line z
say_of s (Member a e offset k word n) dims = member_line (take (e - a) (drop a s)) offset k word
say_of s (Array base n) dims = array_line base (up_to_zero dims)
say_of s (Real z o n) dims = real_line z o

abbrev pub says : List ℕ → Option ReadLine → math.Option said.Line
says s (Some r) = some (say_of s r.line r.dims)
says s None = none

abbrev pub next_after : Line → ℕ
next_after (Atomic l n) = n
next_after (Enum base n) = n
next_after (Value a e negative d n) = n
next_after (Compound z n) = n
next_after (Member a e offset k word n) = n
next_after (Array base n) = n
next_after (Real z o n) = n

-- the place behind the line
abbrev pub next_of : Option ReadLine → ℕ
next_of (Some r) = next_after r.line
next_of None = 0

-- a line and the place behind it, or a fault
pub data Reading : Type 0 where
  reads : said.Line → ℕ → Reading
  faulty : Reading

abbrev pub as_reading : math.Option said.Line → ℕ → Reading
as_reading (some x) n = reads x n
as_reading none n = faulty

abbrev pub reading : List ℕ → Option ReadLine → Reading
reading s r = as_reading (says s r) (next_of r)

-- ---- what it has to say

-- of a line that ends at e and says o: it must have its byte 10
unfoldable pub reading_to : List ℕ → ℕ → math.Option said.Line → Reading
reading_to s e o = cond (newline_at s e) (as_reading (o >>= λ x. when (readable x) x) (e + 1)) faulty

-- of the line at a place
abbrev pub line_reading : List ℕ → ℕ → Reading
line_reading s at = reading_to s (line_end s at) (line_of (line_at s at))

-- where a line ends of which a field ended at q
abbrev pub rest_end : List ℕ → ℕ → ℕ
rest_end s q = cond (tab_at s q) (line_end s (q + 1)) q

-- of the columns behind a field that ended at q
unfoldable pub columns_reading : List ℕ → ℕ → (Fields → math.Option said.Line) → Reading
columns_reading s q columns = reading_to s (rest_end s q) (columns (fields_after s q))

-- of those columns by the kind of the line
unfoldable pub kind_reading : List ℕ → ℕ → math.Option (Fields → math.Option said.Line) → Reading
kind_reading s q (some columns) = columns_reading s q columns
kind_reading s q none = faulty

-- the kinds that `later_line` reads
unfoldable pub later_kind : List ℕ → math.Option (Fields → math.Option said.Line)
later_kind =
    word (bytes "value") value_line_of
    (word (bytes "comp") compound_line_of
    (word (bytes "member") member_line_of
    (word (bytes "array") array_line_of no_word)))

-- ---- where names lie

-- 1 to 31 bytes from a up to e, within the text
unfoldable pub name_within : List ℕ → ℕ → ℕ → Bool
name_within s a e = ltb a e && leb e (a + 31) && leb e (length s)

abbrev pub name_in : List ℕ → Line → Bool
name_in s (Value a e negative d n) = name_within s a e
name_in s (Member a e offset k word n) = name_within s a e
name_in s (Atomic l n) = true
name_in s (Enum base n) = true
name_in s (Compound z n) = true
name_in s (Array base n) = true
name_in s (Real z o n) = true

abbrev pub names_within : List ℕ → Option ReadLine → Bool
names_within s (Some r) = name_in s r.line
names_within s None = true

-- an answer that says what it has to say
pub record Reads (s : List ℕ) (r : Option ReadLine) (x : Reading) : Type 0 where
  pub tells : reading s r ≡ x
  pub within : names_within s r ≡ true

-- a line with no dimensions beside it
abbrev pub plain_line : Line → ReadLine
plain_line l = record { line = l; dims = 0 ∷ 0 ∷ 0 ∷ 0 ∷ [] }

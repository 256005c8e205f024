-- Document 01, "Layout sheets": a sheet's text to its datatypes, or to its first faulty line.
use Rattle.std.specs.Prelude.{Bool, true, false, cond, not, ◌&&◌, ◌||◌, List, [], ◌∷◌, ℕ, suc, ◌+◌, ◌*◌, length, leb, ltb, eqb, ℤ}
use Rattle.std.proofs.Math.Option.{Option, none, some}
use Rattle.layout.specs.declared.Class.{Class}
use Rattle.layout.specs.declared.Layout.{Layout}
use Rattle.layout.specs.Layout.{valid}
use Rattle.layout.specs.Setters.{is_int}
use Rattle.number.specs.Number.{fitted}
use Rattle.datatype.specs.declared.Word.{Word}
use Rattle.datatype.specs.Datatype.{Symbol, Leaf, binary64, Datatype, Members, size, elements}
use Rattle.datatype.specs.Datatype.Leaf.{atomic, enumeration, real}
use Rattle.datatype.specs.Datatype.Datatype.{leaf, compound, array}
use Rattle.datatype.specs.Datatype.Members.{empty, member}
use Rattle.datatype.specs.Symbols.{on_some, symbol_of, number_of}
use Rattle.datatype.specs.Paths.{member_named, on_found}
use Rattle.text.specs.Text.{newline, split}
use Rattle.text.specs.Field.{when, ◌>>=◌}
use Rattle.line.specs.Line.{Line, line_of}
pub use Rattle.line.specs.Read.{each_positive as each_some}
use Rattle.line.specs.Line.Line.{atomic_line, enum_line, value_line, compound_line, member_line, array_line, real_line}

-- what the lines before a line gave: the types, the newest first, and how many value and member lines there were
pub record SoFar : Type 0 where
  pub types : List Datatype
  pub rows : ℕ

-- "A type line gets the next type number, from 0." The type of the number k: the oldest of the types is number 0
unfoldable pub type_numbered : ℕ → List Datatype → Option Datatype
type_numbered k [] = none
type_numbered k (T ∷ older) = cond (eqb k (length older)) (some T) (type_numbered k older)

-- "At most 64 types"
abbrev pub add_type : SoFar → Datatype → Option SoFar
add_type s T = when (ltb (length s.types) 64) (record { types = T ∷ s.types; rows = s.rows })

-- "256 value and member lines together": one more of them makes T of the newest type
abbrev pub add_row : SoFar → List Datatype → Datatype → Option SoFar
add_row s older T = when (ltb s.rows 256) (record { types = T ∷ older; rows = s.rows + 1 })

-- ---- enums

-- "An enum's base is an int; it has zero or more values"
abbrev pub enum_of : Datatype → Option Datatype
enum_of (leaf (atomic l)) = when (is_int l.class) (leaf (enumeration l []))
enum_of (leaf (enumeration l ss)) = none
enum_of (leaf (real l)) = none
enum_of (compound z ms) = none
enum_of (array z ds T) = none

abbrev pub is_none : {A : Type 0} → Option A → Bool
is_none none = true
is_none (some a) = false

-- "names and numbers in one enum are unique; each number lies in the base's range"
abbrev pub may_list : Layout → List Symbol → List ℕ → ℤ → Bool
may_list l ss x z = is_none (number_of x ss) && is_none (symbol_of z ss) && eqb (fitted l z).kind 0

abbrev pub with_value : List ℕ → ℤ → Datatype → Option Datatype
with_value x z (leaf (atomic l)) = none
with_value x z (leaf (enumeration l ss)) = when (may_list l ss x z) (leaf (enumeration l (record { name = x; number = z } ∷ ss)))
with_value x z (leaf (real l)) = none
with_value x z (compound s ms) = none
with_value x z (array s ds T) = none

-- ---- compounds

-- the w bytes from offset on overlap no member
unfoldable pub is_apart : ℕ → ℕ → Members → Bool
is_apart offset w empty = true
is_apart offset w (member y p U word ms) = (leb (offset + w) p || leb (p + size U) offset) && is_apart offset w ms

-- "with unique names, inside the size, not overlapping"
abbrev pub may_place : ℕ → Members → List ℕ → ℕ → ℕ → Bool
may_place z ms x offset w = on_found (λ o T. false) true (member_named x ms) && leb (offset + w) z && is_apart offset w ms

abbrev pub with_member : List ℕ → ℕ → Datatype → Word → Datatype → Option Datatype
with_member x offset T word (leaf y) = none
with_member x offset T word (compound z ms) = when (may_place z ms x offset (size T)) (compound z (member x offset T word ms))
with_member x offset T word (array z ds U) = none

-- ---- arrays

-- "An array has up to four dimensions, each at least 1; its size is their product times the base's size, at most 4,096."
abbrev pub array_of : List ℕ → Datatype → Option Datatype
array_of ds T =
    when (leb 1 (length ds) && leb (length ds) 4 && each_some ds && leb (elements ds * size T) 4096) (array (elements ds * size T) ds T)

-- ---- a line after other lines

-- "`value` follows an enum or its value lines only, `member` a compound likewise": both go to the newest type
abbrev pub on_newest : (Datatype → Option Datatype) → SoFar → List Datatype → Option SoFar
on_newest change s [] = none
on_newest change s (T ∷ older) = change T >>= add_row s older

-- "A type named on a line has a lower number than the type it is used in": a member's type is older than its compound
abbrev pub older : List Datatype → List Datatype
older [] = []
older (T ∷ ts) = ts

-- "A line is judged by itself and the lines before it"
abbrev pub judged_after : SoFar → Line → Option SoFar
judged_after s (atomic_line l) = when (valid l) (leaf (atomic l)) >>= add_type s
judged_after s (enum_line k) = type_numbered k s.types >>= enum_of >>= add_type s
judged_after s (value_line x z) = on_newest (with_value x z) s s.types
judged_after s (compound_line z) = when (leb 1 z && leb z 4096) (compound z empty) >>= add_type s
judged_after s (member_line x offset k word) = type_numbered k (older s.types) >>= λ T. on_newest (with_member x offset T word) s s.types
judged_after s (array_line k ds) = type_numbered k s.types >>= array_of ds >>= add_type s
judged_after s (real_line z o) = when (eqb z 8) (leaf (real (binary64 o))) >>= add_type s

unfoldable pub judge : SoFar → List ℕ → Option SoFar
judge s text = line_of text >>= judged_after s

-- ---- whole sheets

-- all lines were accepted, or the number of the first faulty line
pub data Outcome : Type 0 where
  accepted : SoFar → Outcome
  faulty : ℕ → Outcome

abbrev pub is_nil : {A : Type 0} → List A → Bool
is_nil [] = true
is_nil (a ∷ more) = false

-- the last piece, behind the last byte 10: nothing, after at least one line. "An empty sheet is faulty at line 1, a last line without byte 10 at its own number"
abbrev pub ended : ℕ → SoFar → List ℕ → Outcome
ended k s piece = cond (is_nil piece && not (is_nil s.types)) (accepted s) (faulty k)

-- "the first faulty line is reported, from 1": line k and those after it, after the lines that gave s
unfoldable pub lines_from : ℕ → SoFar → List (List ℕ) → Outcome
lines_from k s [] = faulty k
lines_from k s (text ∷ more) =
    cond (is_nil more) (ended k s text)
    (on_some (λ t. lines_from (suc k) t more) (faulty k) (judge s text))

-- "Lines of text, each ended by byte 10"; "16,384 bytes" at most, and "a sheet over 16,384 bytes" is faulty "at line 0"
unfoldable pub outcome_of : List ℕ → Outcome
outcome_of text = cond (leb (length text) 16384) (lines_from 1 (record { types = []; rows = 0 }) (split newline text)) (faulty 0)

-- a sheet's type, or its first faulty line
pub data Sheet : Type 0 where
  of_type : Datatype → Sheet
  faulty_at : ℕ → Sheet

-- "The last type is the sheet's type." Accepted lines gave at least one.
abbrev pub newest : List Datatype → Sheet
newest [] = faulty_at 1
newest (T ∷ older) = of_type T

abbrev pub typed : Outcome → Sheet
typed (accepted s) = newest s.types
typed (faulty k) = faulty_at k

unfoldable pub sheet_of : List ℕ → Sheet
sheet_of text = typed (outcome_of text)

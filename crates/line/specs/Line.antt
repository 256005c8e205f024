-- Document 01, "Layout sheets": what each kind of line says, column by column.
use Rattle.std.specs.Prelude.{Bool, true, false, cond, List, [], ◌∷◌, ℕ, ℤ}
use Rattle.std.proofs.Math.Option.{Option, none, some}
use Rattle.bits.specs.declared.Order.{Order}
use Rattle.bits.specs.declared.Order.TheVariants.{LE, BE}
use Rattle.layout.specs.declared.Class.{Class}
use Rattle.layout.specs.declared.Class.TheVariants.{Int, Bits}
use Rattle.layout.specs.declared.Pad.{Pad}
use Rattle.layout.specs.declared.Pad.TheVariants.{Zero, One, Keep}
use Rattle.layout.specs.declared.Layout.{Layout}
use Rattle.datatype.specs.declared.Word.{Word}
use Rattle.datatype.specs.declared.Word.TheVariants.{Silent, Clamp, Stop}
use Rattle.datatype.specs.Datatype.{same}
use Rattle.text.specs.Text.{bytes, tab, split}
use Rattle.text.specs.Field.{◌>>=◌, number, enum_number, name}

-- "fields parted by one tab"
abbrev pub Fields : Type 0
Fields = List (List ℕ)

-- The next column, read as its kind, and what the rest of the line makes of it. "A field that isn't the number its column wants ends the reading of the line at once."
unfoldable pub column : {A R : Type 0} → (List ℕ → Option A) → (A → Fields → Option R) → Fields → Option R
column read rest [] = none
column read rest (f ∷ fs) = read f >>= λ a. rest a fs

-- the same of a column that the line may have; where none is left it is `absent`
unfoldable pub optional : {A R : Type 0} → (List ℕ → Option A) → A → (A → Fields → Option R) → Fields → Option R
optional read absent rest [] = rest absent []
optional read absent rest (f ∷ fs) = column read rest (f ∷ fs)

-- no column is left
abbrev pub ends : {R : Type 0} → R → Fields → Option R
ends r [] = some r
ends r (f ∷ fs) = none

-- ---- columns that hold a word

-- the word w stands for a; else what `other` says
abbrev pub word : {A : Type 0} → List ℕ → A → (List ℕ → Option A) → List ℕ → Option A
word w a other f = cond (same f w) (some a) (other f)

abbrev pub no_word : {A : Type 0} → List ℕ → Option A
no_word f = none

-- "Order is `LE` or `BE`; pads `zero`, `one` or `keep` (HDF5's background); sign `signed` (two's complement) or `unsigned`."
unfoldable pub order : List ℕ → Option Order
order = word (bytes "LE") LE (word (bytes "BE") BE no_word)

unfoldable pub pad : List ℕ → Option Pad
pad = word (bytes "zero") Zero (word (bytes "one") One (word (bytes "keep") Keep no_word))

unfoldable pub sign : List ℕ → Option Bool
sign = word (bytes "signed") true (word (bytes "unsigned") false no_word)

-- document 02, 2026-12: "a further field `clamp` or `stop`"
unfoldable pub member_word : List ℕ → Option Word
member_word = word (bytes "clamp") Clamp (word (bytes "stop") Stop no_word)

-- ---- lines

-- what a line says, before it is judged by the lines before it
pub data Line : Type 0 where
  atomic_line : Layout → Line
  enum_line : ℕ → Line  -- the base's type number
  value_line : List ℕ → ℤ → Line
  compound_line : ℕ → Line  -- the size
  member_line : List ℕ → ℕ → ℕ → Word → Line  -- the name, the byte offset, the type's number and the word
  array_line : ℕ → List ℕ → Line  -- the base's type number and the dimensions
  real_line : ℕ → Order → Line  -- the size and the order

abbrev pub layout : Class → ℕ → Order → ℕ → ℕ → Pad → Pad → Bool → Layout
layout class s o at p lsb msb signed =
    record { class = class; size = record { 0 = s }; order = o; offset = record { 0 = at }; precision = p; lsb = lsb; msb = msb; signed = signed }

-- size⇥order⇥offset⇥precision⇥lsb⇥msb, and what the rest makes of the layout that they give once it is known whether it is signed
unfoldable pub layout_columns : Class → ((Bool → Layout) → Fields → Option Line) → Fields → Option Line
layout_columns class rest =
    column number λ s. column order λ o. column number λ at. column number λ p. column pad λ lsb. column pad λ msb. rest (layout class s o at p lsb msb)

-- `int⇥size⇥order⇥offset⇥precision⇥lsb⇥msb⇥sign`
unfoldable pub int_line : Fields → Option Line
int_line = layout_columns Int λ l. column sign λ signed. ends (atomic_line (l signed))

-- `bits⇥size⇥order⇥offset⇥precision⇥lsb⇥msb`
unfoldable pub bits_line : Fields → Option Line
bits_line = layout_columns Bits λ l. ends (atomic_line (l false))

-- `enum⇥base`
unfoldable pub enum_line_of : Fields → Option Line
enum_line_of = column number λ base. ends (enum_line base)

-- `value⇥name⇥number`
unfoldable pub value_line_of : Fields → Option Line
value_line_of = column name λ x. column enum_number λ z. ends (value_line x z)

-- `comp⇥size`
unfoldable pub compound_line_of : Fields → Option Line
compound_line_of = column number λ z. ends (compound_line z)

-- `member⇥name⇥byte offset⇥type`; document 02, 2026-12: it "may end in a further field", of either sheet: "source sheets may carry it without effect"
unfoldable pub member_line_of : Fields → Option Line
member_line_of = column name λ x. column number λ offset. column number λ k. optional member_word Silent λ word. ends (member_line x offset k word)

-- every column that is left is a number
unfoldable pub numbers : Fields → Option (List ℕ)
numbers [] = some []
numbers (f ∷ fs) = number f >>= λ n. numbers fs >>= λ ns. some (n ∷ ns)

-- `array⇥base⇥d1` up to `d4`
unfoldable pub array_line_of : Fields → Option Line
array_line_of = column number λ base fs. numbers fs >>= λ ds. some (array_line base ds)

-- document 02, 2026-03: `real⇥8⇥LE` or `BE`
unfoldable pub real_line_of : Fields → Option Line
real_line_of = column number λ z. column order λ o. ends (real_line z o)

-- the kind of a line is its first word
unfoldable pub line_kind : List ℕ → Option (Fields → Option Line)
line_kind =
    word (bytes "int") int_line
    (word (bytes "bits") bits_line
    (word (bytes "real") real_line_of
    (word (bytes "enum") enum_line_of
    (word (bytes "value") value_line_of
    (word (bytes "comp") compound_line_of
    (word (bytes "member") member_line_of
    (word (bytes "array") array_line_of no_word)))))))

unfoldable pub line_of : List ℕ → Option Line
line_of text = column line_kind (λ says fs. says fs) (split tab text)

-- Demand 1 for a call that asks which bits of the source show: which number it answers, and every field beside it. The checks are 2, 3, 4, 5, 12 and 7; there are
-- no checks 1 and 6 (docs/DECISIONS.md, "Which bits of the source show").
use Rattle.std.specs.Prelude.{◌≡◌, ◌↔◌, List, [], ◌∷◌, ℕ, ◌≤◌, ◌<◌, length}
use Rattle.answer.specs.declared.Values.{Values}
use Rattle.answer.specs.Answer.{number_of, values_of}
use Rattle.datatype.specs.Datatype.{Datatype, size}
use Rattle.datatype.specs.HasPath.{HasPath}
use Rattle.datatype.specs.SymbolSets.{LostSymbol}
use Rattle.sheet.specs.FirstFault.{FirstFault}
use Rattle.runs.specs.Refusals.{OfSheets, First, no_field, only_count, only_line}
use Rattle.reaches.specs.Call.{Call, answer}

-- both sheets have a type, and of the two types this holds
abbrev pub OfTypes : Call → (Datatype → Datatype → Type 0) → Type 0
OfTypes c holds = OfSheets c.source_sheet c.destination_sheet holds

-- ---- the table

pub data Row : Type 0 where
  TABLE SOURCE DESTINATION PATH SYMBOLS ROOM : Row

abbrev pub number : Row → ℕ
number TABLE = 2
number SOURCE = 3
number DESTINATION = 4
number PATH = 5
number SYMBOLS = 12
number ROOM = 7

abbrev pub Given : Call → Row → Type 0
-- "under 8,192 words"
Given c TABLE = length c.table < 8192
-- "source (or only) sheet faulty"
Given c SOURCE = (line : ℕ) × FirstFault c.source_sheet line
-- "destination sheet faulty"
Given c DESTINATION = (line : ℕ) × FirstFault c.destination_sheet line
-- "no path"
Given c PATH = OfTypes c (λ S D. ¬ (HasPath S D))
-- document 02, 2026-07: a matched pair of enums, and a source symbol that does not stand in the destination
Given c SYMBOLS = OfTypes c LostSymbol
-- a mask buffer under one source record
Given c ROOM = OfTypes c (λ S D. length c.mask < size S)

-- the order of checks
abbrev pub order : List Row
order = TABLE ∷ SOURCE ∷ DESTINATION ∷ PATH ∷ SYMBOLS ∷ ROOM ∷ []

-- the fields beside a row's number: "the first faulty line is reported, from 1"
abbrev pub Fields : Call → Row → Values → Type 0
Fields c TABLE v = v ≡ no_field
Fields c SOURCE v = (line : ℕ) × FirstFault c.source_sheet line × (v ≡ only_line line)
Fields c DESTINATION v = (line : ℕ) × FirstFault c.destination_sheet line × (v ≡ only_line line)
Fields c PATH v = v ≡ no_field
Fields c SYMBOLS v = v ≡ no_field
Fields c ROOM v = v ≡ no_field

-- done carries the mask's length, which is the source record's size, in place of the count
abbrev pub DoneFields : Call → Values → Type 0
DoneFields c v = OfTypes c (λ S D. v ≡ only_count (size S))

-- ---- demand 1

abbrev pub answer_number : Call → ℕ
answer_number c = number_of (answer c)

abbrev pub answer_fields : Call → Values
answer_fields c = values_of (answer c)

pub record Demand1 (c : Call) : Type 0 where
  -- the answer has a number above 0 exactly when the row of that number is given and none before it is
  pub refused : (k : ℕ) → 1 ≤ k → answer_number c ≡ k ↔ ((row : Row) × (number row ≡ k) × First (Given c) row order)
  -- "0 done: none below applies"
  pub done : answer_number c ≡ 0 ↔ ((row : Row) → ¬ (Given c row))
  -- where a row is the first, the fields beside its number are those that it says, and no others
  pub fields : (row : Row) → First (Given c) row order → (v : Values) → answer_fields c ≡ v ↔ Fields c row v
  -- and beside 0 those of "0 done"
  pub done_fields : answer_number c ≡ 0 → (v : Values) → answer_fields c ≡ v ↔ DoneFields c v

-- Demand 1 for the report: which number a call answers, and every field beside it. Document 02, 2026-01: "Refusals: 10 CHANNEL (a wider int leaf in the reader's
-- sheet) after 4; 7 also for this memory; then 11 FULL (..); then 7 for the output." 2026-07: "12 SYMBOLS, between PATH and COUNT". The other rows are document
-- 01's; there is no check 1.
use Rattle.std.specs.Prelude.{◌≡◌, ◌⊎◌, ◌↔◌, List, [], ◌∷◌, ℕ, ◌≤◌, ◌<◌, length}
use Rattle.answer.specs.declared.Values.{Values}
use Rattle.answer.specs.Answer.{values_of}
use Rattle.layout.specs.declared.Layout.{Layout}
use Rattle.datatype.specs.Datatype.{Datatype, size}
use Rattle.datatype.specs.HasPath.{HasPath}
use Rattle.datatype.specs.SymbolSets.{LostSymbol}
use Rattle.sheet.specs.FirstFault.{FirstFault, Whole}
use Rattle.runs.specs.Run.Form.{in_place}
use Rattle.runs.specs.Refusals.{OfSheets, TooShort, First, no_field, only_count, only_line}
use Rattle.channels.specs.Report.{words}
use Rattle.channels.specs.EachLeaf.{IntLeaf}
use Rattle.channels.specs.Full.{Full}
use Rattle.reports.specs.Call.{Call, width, text, answer}
use Rattle.reports.specs.Parts.{answer_number}

-- ---- the words of the rows

-- the reader's sheet has a type, and of it this holds
abbrev pub OfReader : Call → (Datatype → Type 0) → Type 0
OfReader c holds = (D : Datatype) × Whole c.reader_sheet D × holds D

-- both sheets have a type, and of the two types this holds
abbrev pub OfTypes : Call → (Datatype → Datatype → Type 0) → Type 0
OfTypes c holds = OfSheets c.source_sheet c.reader_sheet holds

-- "a wider int leaf": "Int leaves have precision at most 32"
pub record WiderLeaf (D : Datatype) : Type 0 where
  pub byte : ℕ
  pub layout : Layout
  pub leaf : IntLeaf D byte layout
  pub wider : 32 < layout.precision

-- ---- the table

pub data Row : Type 0 where
  TABLE SOURCE DESTINATION CHANNEL PATH SYMBOLS COUNT ROOM FULL OUTPUT : Row

abbrev pub number : Row → ℕ
number TABLE = 2
number SOURCE = 3
number DESTINATION = 4
number CHANNEL = 10
number PATH = 5
number SYMBOLS = 12
number COUNT = 6
number ROOM = 7
number FULL = 11
number OUTPUT = 7

abbrev pub Given : Call → Row → Type 0
-- "under 8,192 words"
Given c TABLE = length c.table < 8192
-- "source (or only) sheet faulty"
Given c SOURCE = (line : ℕ) × FirstFault c.source_sheet line
-- "destination sheet faulty"
Given c DESTINATION = (line : ℕ) × FirstFault c.reader_sheet line
-- "a wider int leaf in the reader's sheet"
Given c CHANNEL = OfReader c WiderLeaf
-- "no path"
Given c PATH = OfTypes c (λ S D. ¬ (HasPath S D))
-- "on a matched pair of enums, every source symbol must stand in the destination": one does not
Given c SYMBOLS = OfTypes c LostSymbol
-- "n above 65,536"
Given c COUNT = 65536 < c.count
-- "background under nD, in-place buffer under n × max(S, D)"; "2 + 4L signed 64-bit words for L int leaves"
Given c ROOM =
    OfTypes c
    (λ S D. TooShort in_place c.count (size S) (size D) (length c.log) (length c.background) ⊎ (length c.memory < words (width D)))
-- "records would pass the limit, a count held at entry is negative, or a word held at entry passes 2^52 in magnitude"
Given c FULL = OfReader c (λ D. Full c.count (width D) c.memory)
-- "then 7 for the output"
Given c OUTPUT = OfTypes c (λ S D. length c.output < length (text c S D))

-- the order of checks
abbrev pub order : List Row
order = TABLE ∷ SOURCE ∷ DESTINATION ∷ CHANNEL ∷ PATH ∷ SYMBOLS ∷ COUNT ∷ ROOM ∷ FULL ∷ OUTPUT ∷ []

-- the fields beside a row's number: "the first faulty line is reported, from 1"
abbrev pub Fields : Call → Row → Values → Type 0
Fields c TABLE v = v ≡ no_field
Fields c SOURCE v = (line : ℕ) × FirstFault c.source_sheet line × (v ≡ only_line line)
Fields c DESTINATION v = (line : ℕ) × FirstFault c.reader_sheet line × (v ≡ only_line line)
Fields c CHANNEL v = v ≡ no_field
Fields c PATH v = v ≡ no_field
Fields c SYMBOLS v = v ≡ no_field
Fields c COUNT v = v ≡ no_field
Fields c ROOM v = v ≡ no_field
Fields c FULL v = v ≡ no_field
Fields c OUTPUT v = v ≡ no_field

-- "done carries each output's length in place of the count"
abbrev pub DoneFields : Call → Values → Type 0
DoneFields c v = OfTypes c (λ S D. v ≡ only_count (length (text c S D)))

-- ---- demand 1

abbrev pub answer_fields : Call → Values
answer_fields c = values_of (answer c)

pub record Demand1 (c : Call) : Type 0 where
  -- the answer has a number above 0 exactly when a row of that number is given and none before it is; 7 has two rows
  pub refused : (k : ℕ) → 1 ≤ k → answer_number c ≡ k ↔ ((row : Row) × (number row ≡ k) × First (Given c) row order)
  -- "0 done: none below applies"
  pub done : answer_number c ≡ 0 ↔ ((row : Row) → ¬ (Given c row))
  -- where a row is the first, the fields beside its number are those that it says, and no others
  pub fields : (row : Row) → First (Given c) row order → (v : Values) → answer_fields c ≡ v ↔ Fields c row v
  -- and beside 0 those of "0 done"
  pub done_fields : answer_number c ≡ 0 → (v : Values) → answer_fields c ≡ v ↔ DoneFields c v

-- Demand 1: which number a run answers, and every field beside it. Document 01's table "Numbers of refusal, in the order of checks", row by row in its own
-- words; document 02, 2026-07: "12 SYMBOLS, between PATH and COUNT". A plain form is a run with handling 1 (2026-10). What the table says of setters and of the leaf list is not here: no run is one.
use Rattle.std.specs.Prelude.{◌≡◌, ◌⊎◌, ◌↔◌, List, [], ◌∷◌, ℕ, ◌≤◌, ◌<◌, length}
use Rattle.answer.specs.declared.Given as answer
use Rattle.answer.specs.declared.Values.{Values}
use Rattle.datatype.specs.Datatype.{Datatype, size}
use Rattle.datatype.specs.HasPath.{HasPath}
use Rattle.datatype.specs.Handling.{clamp, stop, handling_at}
use Rattle.datatype.specs.SymbolSets.{LostSymbol}
use Rattle.sheet.specs.FirstFault.{FirstFault}
use Rattle.records.specs.Records.{readings, exceptions}
use Rattle.records.specs.Matched.{MatchedLeaf}
use Rattle.runs.specs.Run.{Run}
use Rattle.runs.specs.FirstException.{FirstException}
use Rattle.runs.specs.Refusals.{OfSheets, TooShort, First, no_field, only_count, only_line, only_place}
use Rattle.promises.specs.Runs.{answer_number, answer_fields, becomes}

-- ---- the words of the rows

-- both sheets have a type, and of the two types this holds
abbrev pub OfTypes : Run → (Datatype → Datatype → Type 0) → Type 0
OfTypes r holds = OfSheets r.source_sheet r.destination_sheet holds

-- document 02, 2026-12: "a leaf that obeys stop raises": a matched leaf of one of the records
pub record Exception (r : Run) (S D : Datatype) : Type 0 where
  pub leaf : MatchedLeaf S D r.count
  pub obeys : handling_at r.handling D leaf.to ≡ stop
  pub raises : 1 ≤ (becomes leaf r.source).kind

-- ---- the table

-- the rows below "0 done"
pub data Row : Type 0 where
  HANDLING TABLE SOURCE DESTINATION PATH SYMBOLS COUNT ROOM STOP : Row

-- the column "No."
abbrev pub number : Row → ℕ
number HANDLING = 1
number TABLE = 2
number SOURCE = 3
number DESTINATION = 4
number PATH = 5
number SYMBOLS = 12
number COUNT = 6
number ROOM = 7
number STOP = 8

-- the column "Given exactly when"
abbrev pub Given : Run → Row → Type 0
-- "not 0 or 1"
Given r HANDLING = ¬ ((r.handling ≡ clamp) ⊎ (r.handling ≡ stop))
-- "under 8,192 words"
Given r TABLE = length r.table < 8192
-- "source (or only) sheet faulty"
Given r SOURCE = (line : ℕ) × FirstFault r.source_sheet line
-- "destination sheet faulty"
Given r DESTINATION = (line : ℕ) × FirstFault r.destination_sheet line
-- "no path"
Given r PATH = OfTypes r (λ S D. ¬ (HasPath S D))
-- "on a matched pair of enums, every source symbol must stand in the destination": one does not
Given r SYMBOLS = OfTypes r LostSymbol
-- "n above 65,536"
Given r COUNT = 65536 < r.count
-- "source under nS, destination or background under nD, in-place buffer under n × max(S, D)"
Given r ROOM = OfTypes r (λ S D. TooShort r.form r.count (size S) (size D) (length r.source) (length r.background))
-- "exactly when a leaf that obeys stop raises"
Given r STOP = OfTypes r (Exception r)

-- "in the order of checks", which need not be that of the numbers
abbrev pub order : List Row
order = HANDLING ∷ TABLE ∷ SOURCE ∷ DESTINATION ∷ PATH ∷ SYMBOLS ∷ COUNT ∷ ROOM ∷ STOP ∷ []

-- the column "Place fields"
abbrev pub Fields : Run → Row → Values → Type 0
Fields r HANDLING v = v ≡ no_field
Fields r TABLE v = v ≡ no_field
-- "line": "the first faulty line is reported, from 1"
Fields r SOURCE v = (line : ℕ) × FirstFault r.source_sheet line × (v ≡ only_line line)
Fields r DESTINATION v = (line : ℕ) × FirstFault r.destination_sheet line × (v ≡ only_line line)
Fields r PATH v = v ≡ no_field
Fields r SYMBOLS v = v ≡ no_field
Fields r COUNT v = v ≡ no_field
Fields r ROOM v = v ≡ no_field
-- "record, destination byte in it, kind": "STOP names the lowest record, and in it the raising leaf whose first byte is lowest", of those that obey stop (2026-12).
-- Document 02, 2026-05: "8 gains the field" of the number that was given.
Fields r STOP v =
    OfTypes r
    (λ S D. (i : ℕ) × (b : ℕ) × (k : ℕ) × (g : answer.Given) × FirstException r.handling S D r.count (readings S D r.source) i b k g × (v ≡ only_place i b k g))

-- of "0 done", the "exception count": "how many matched leaves, over all records, raised one". As no leaf that obeys stop did, it "takes all clamped ones" (2026-12)
abbrev pub DoneFields : Run → Values → Type 0
DoneFields r v = OfTypes r (λ S D. v ≡ only_count (exceptions S D r.count (readings S D r.source)))

-- ---- demand 1

pub record Demand1 (r : Run) : Type 0 where
  -- the answer has a row's number exactly when the row is given and none before it is
  pub refused : (row : Row) → answer_number r ≡ number row ↔ First (Given r) row order
  -- "0 done: none below applies"
  pub done : answer_number r ≡ 0 ↔ ((row : Row) → ¬ (Given r row))
  -- it has no other number: a run never answers 9
  pub no_other : (answer_number r ≡ 0) ⊎ ((row : Row) × (answer_number r ≡ number row))
  -- beside a row's number stand the fields that the row says, and no others
  pub fields : (row : Row) → answer_number r ≡ number row → (v : Values) → answer_fields r ≡ v ↔ Fields r row v
  -- and beside 0 those of "0 done"
  pub done_fields : answer_number r ≡ 0 → (v : Values) → answer_fields r ≡ v ↔ DoneFields r v

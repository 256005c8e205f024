-- Demand 1 for a call that compares two logs: which number it answers, and every field beside it. Document 02, 2026-06: "Refusals: 2 to 7 as in the copying form,
-- with nS and nD for the two buffers and 7 for the list". There is no check 1.
use Rattle.std.specs.Prelude.{◌≡◌, ◌⊎◌, ◌↔◌, List, [], ◌∷◌, ℕ, ◌≤◌, ◌<◌, length}
use Rattle.answer.specs.declared.Values.{Values}
use Rattle.answer.specs.Answer.{number_of, values_of}
use Rattle.datatype.specs.Datatype.{Datatype, size}
use Rattle.datatype.specs.HasPath.{HasPath}
use Rattle.sheet.specs.FirstFault.{FirstFault}
use Rattle.runs.specs.Run.Form.{copying}
use Rattle.runs.specs.Refusals.{OfSheets, TooShort, First, no_field, only_count, only_line}
use Rattle.differences.specs.Call.{Call, text, answer}

-- both sheets have a type, and of the two types this holds
abbrev pub OfTypes : Call → (Datatype → Datatype → Type 0) → Type 0
OfTypes c holds = OfSheets c.first_sheet c.second_sheet holds

-- ---- the table

pub data Row : Type 0 where
  TABLE SOURCE DESTINATION PATH COUNT ROOM LIST : Row

abbrev pub number : Row → ℕ
number TABLE = 2
number SOURCE = 3
number DESTINATION = 4
number PATH = 5
number COUNT = 6
number ROOM = 7
number LIST = 7

abbrev pub Given : Call → Row → Type 0
-- "under 8,192 words"
Given c TABLE = length c.table < 8192
-- "source (or only) sheet faulty": the first
Given c SOURCE = (line : ℕ) × FirstFault c.first_sheet line
-- "destination sheet faulty": the second
Given c DESTINATION = (line : ℕ) × FirstFault c.second_sheet line
-- "no path"
Given c PATH = OfTypes c (λ S D. ¬ (HasPath S D))
-- "n above 65,536"
Given c COUNT = 65536 < c.count
-- "nS and nD for the two buffers"
Given c ROOM = OfTypes c (λ S D. TooShort copying c.count (size S) (size D) (length c.first) (length c.second))
-- "and 7 for the list"
Given c LIST = OfTypes c (λ S D. length c.list < length (text c S D))

-- the order of checks
abbrev pub order : List Row
order = TABLE ∷ SOURCE ∷ DESTINATION ∷ PATH ∷ COUNT ∷ ROOM ∷ LIST ∷ []

-- the fields beside a row's number: "the first faulty line is reported, from 1"
abbrev pub Fields : Call → Row → Values → Type 0
Fields c TABLE v = v ≡ no_field
Fields c SOURCE v = (line : ℕ) × FirstFault c.first_sheet line × (v ≡ only_line line)
Fields c DESTINATION v = (line : ℕ) × FirstFault c.second_sheet line × (v ≡ only_line line)
Fields c PATH v = v ≡ no_field
Fields c COUNT v = v ≡ no_field
Fields c ROOM v = v ≡ no_field
Fields c LIST v = v ≡ no_field

-- "done carries each output's length in place of the count"
abbrev pub DoneFields : Call → Values → Type 0
DoneFields c v = OfTypes c (λ S D. v ≡ only_count (length (text c S D)))

-- ---- demand 1

abbrev pub answer_number : Call → ℕ
answer_number c = number_of (answer c)

abbrev pub answer_fields : Call → Values
answer_fields c = values_of (answer c)

pub record Demand1 (c : Call) : Type 0 where
  -- the answer has a number above 0 exactly when a row of that number is given and none before it is; 7 has two rows
  pub refused : (k : ℕ) → 1 ≤ k → answer_number c ≡ k ↔ ((row : Row) × (number row ≡ k) × First (Given c) row order)
  -- "0 done: none below applies"
  pub done : answer_number c ≡ 0 ↔ ((row : Row) → ¬ (Given c row))
  -- where a row is the first, the fields beside its number are those that it says, and no others
  pub fields : (row : Row) → First (Given c) row order → (v : Values) → answer_fields c ≡ v ↔ Fields c row v
  -- and beside 0 those of "0 done"
  pub done_fields : answer_number c ≡ 0 → (v : Values) → answer_fields c ≡ v ↔ DoneFields c v

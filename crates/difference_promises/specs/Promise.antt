-- Document 02, 2026-06: what is promised of comparing two logs.
use Rattle.std.specs.Prelude.{◌≡◌, List, [], ℕ, length, ℤ}
use Rattle.datatype.specs.Datatype.{Datatype}
use Rattle.records.specs.Matched.{MatchedLeaf, Agree}
use Rattle.sheet.specs.Sheet.{sheet_of}
use Rattle.sheet.specs.Sheet.Sheet.{of_type}
use Rattle.runs.specs.Run.{Run, on_checked, after}
use Rattle.differences.specs.Differences.{differences}
use Rattle.differences.specs.Call.{Call, text, checks, answer}
use Rattle.differences.specs.Says.{second_number}

-- A log and what a run made of it have no difference. The converted bytes are at the start of the buffer that the run wrote.
abbrev pub NoDifference : Run → Datatype → Datatype → Type 0
NoDifference r S D = differences S D r.count r.source (after r) ≡ []

-- two pairs of logs have equal numbers in every matched leaf, on each side
pub record SameNumbers (S D : Datatype) (n : ℕ) (first second first' second' : List ℕ) : Type 0 where
  pub firsts : Agree S D n first first'
  pub seconds : (m : MatchedLeaf S D n) → second_number m second ≡ second_number m second'

-- ---- what a call can turn on

-- two calls with the same sheets, the same count and buffers of the same lengths
pub record SameCall (c d : Call) : Type 0 where
  pub first_sheet : c.first_sheet ≡ d.first_sheet
  pub second_sheet : c.second_sheet ≡ d.second_sheet
  pub count : c.count ≡ d.count
  pub first : length c.first ≡ length d.first
  pub second : length c.second ≡ length d.second
  pub list : length c.list ≡ length d.list
  pub table : length c.table ≡ length d.table

-- whose logs have, on each side, equal numbers in every leaf that is matched between their types
abbrev pub SameMatched : Call → Call → Type 0
SameMatched c d =
    (S D : Datatype) → sheet_of c.first_sheet ≡ of_type S → sheet_of c.second_sheet ≡ of_type D
    → SameNumbers S D c.count c.first c.second d.first d.second

-- the list that a call writes; nothing where it is refused
abbrev pub listed : Call → List ℕ
listed c = on_checked (λ S D. text c S D) (λ refusal. []) (checks c)

-- give the same answer and the same list, whatever else the buffers hold
pub record SameResult (c d : Call) : Type 0 where
  pub answers : answer c ≡ answer d
  pub lists : listed c ≡ listed d

-- What all promises of this crate speak of: the number and fields of a run's answer, when it is done, the types of its sheets, the bytes that it converted, and
-- what becomes of a matched number. A run is one call with all that it is given (crate runs). The form is a field of it, so each promise speaks of every
-- form; a plain form is a run with handling 1 (2026-10).
use Rattle.std.specs.Prelude.{◌≡◌, ◌⊎◌, List, ℕ, ◌≤◌}
use Rattle.answer.specs.declared.Values.{Values}
use Rattle.answer.specs.Answer.{number_of, values_of}
use Rattle.number.specs.declared.Fitted.{Fitted}
use Rattle.datatype.specs.Datatype.{Datatype}
use Rattle.sheet.specs.Sheet.{sheet_of}
use Rattle.sheet.specs.Sheet.Sheet.{of_type}
use Rattle.records.specs.Leaf.{converted}
use Rattle.records.specs.Matched.{MatchedLeaf, matched_number}
use Rattle.runs.specs.Run.{Run, answer, target, after}
use Rattle.runs.specs.Parts.{converted_bytes}

-- ---- a run's answer, and the types of its sheets

-- "Its answer is the number from the table with every field beside it, the exception count included"
abbrev pub answer_number : Run → ℕ
answer_number r = number_of (answer r)

abbrev pub answer_fields : Run → Values
answer_fields r = values_of (answer r)

pub record SameAnswer (r q : Run) : Type 0 where
  pub number : answer_number r ≡ answer_number q
  pub fields : answer_fields r ≡ answer_fields q

abbrev pub IsDone : Run → Type 0
IsDone r = answer_number r ≡ 0

-- "done without an exception is 0 with count 0"
pub record DoneWithoutException (r : Run) : Type 0 where
  pub done : IsDone r
  pub count : (answer_fields r).count ≡ 0

-- "a check before STOP refuses": its number is 1 to 7; document 02, 2026-07: "12 SYMBOLS, between PATH and COUNT"
abbrev pub RefusedBeforeStop : Run → Type 0
RefusedBeforeStop r = ((1 ≤ answer_number r) × (answer_number r ≤ 7)) ⊎ (answer_number r ≡ 12)

-- the source sheet is of type S, the destination sheet of type D
pub record Types (r : Run) (S D : Datatype) : Type 0 where
  pub source : sheet_of r.source_sheet ≡ of_type S
  pub destination : sheet_of r.destination_sheet ≡ of_type D

-- ---- the buffer that is written

-- the buffer that is written, before the call
abbrev pub before : Run → List ℕ
before r = target r.form r.source r.background

abbrev pub SameConverted : Datatype → Run → Run → Type 0
SameConverted D r q = converted_bytes D r.count (after r) ≡ converted_bytes D q.count (after q)

-- ---- a matched number

-- what the matched number of m in the buffer `source` becomes in its destination leaf
abbrev pub becomes : {S D : Datatype} {n : ℕ} → MatchedLeaf S D n → List ℕ → Fitted
becomes m source = converted m.source m.destination (matched_number m source)

-- What the functions inside a call of a converting form promise. No meaning of document 01 stands here: the contract of each form is `Answers` in crate runs.
use Rattle.std.specs.Prelude.{◌≡◌, Bool, true, false, Option, Some, None, Result, Ok, Err, List, ℕ, ◌*◌, ◌≤◌}
use Rattle.answer.specs.declared.Answer.{Answer}
use Rattle.answer.specs.declared.Answer.TheVariants as answer
use Rattle.datatype.specs.Datatype.{Datatype, size}
use Rattle.datatype.specs.Handling.{handling_at}
use Rattle.table.specs.Table.{type_at}
use Rattle.records.specs.Records.{readings, exceptions}
use Rattle.two_sheets.specs.declared.TypeNumbers.{TypeNumbers}
use Rattle.two_sheets.specs.TwoSheets.{first, second, Both}
use Rattle.runs.specs.Run.{Form, Checked, on_checked, handled, target, result, if_done, record_checks, type_checks, sheet_checks}
use Rattle.runs.specs.Run.Form.{copying, in_place}
use Rattle.runs.specs.Run.Checked.{refused, passed}
use Rattle.loops.specs.declared.Exception.{Exception}

-- ---- behind some checks, of which c says what is left of them

abbrev pub answered : ℕ → ℕ → List ℕ → Checked → Answer
answered handling n source c = on_checked (λ S D. handled handling S D n (readings S D source)) (λ refusal. refusal) c

abbrev pub left : Form → ℕ → ℕ → List ℕ → List ℕ → Checked → List ℕ
left form handling n source background c =
    on_checked (λ S D. if_done (handled handling S D n (readings S D source)) (result form S D n source background) (target form source background))
    (λ refusal. target form source background) c

pub record Leaves (form : Form) (handling n : ℕ) (source background : List ℕ) (c : Checked) (r : Answer) (out : List ℕ) : Type 0 where
  pub answers : r ≡ answered handling n source c
  pub leaves : out ≡ left form handling n source background c

-- ---- by the buffers: `out` is the one that is written, `other` the one that is only read

abbrev pub form_of : Bool → Form
form_of false = copying
form_of true = in_place

abbrev pub source_of : {A : Type 0} → Bool → A → A → A
source_of false out other = other
source_of true out other = out

abbrev pub background_of : {A : Type 0} → Bool → A → A → A
background_of false out other = out
background_of true out other = other

abbrev pub LeavesIn : Bool → ℕ → ℕ → List ℕ → List ℕ → Checked → Answer → List ℕ → Type 0
LeavesIn replaces handling n out other c r after = Leaves (form_of replaces) handling n (source_of replaces out other) (background_of replaces out other) c r after

-- the records were converted, and r exceptions counted
abbrev pub ConvertsIn : Bool → Datatype → Datatype → ℕ → List ℕ → List ℕ → List ℕ → ℕ → Type 0
ConvertsIn replaces S D n out other after r =
    (after ≡ result (form_of replaces) S D n (source_of replaces out other) (background_of replaces out other))
    × (r ≡ exceptions S D n (readings S D (source_of replaces out other)))

-- the answer to a call that an exception stops
abbrev pub stopped : Exception → Answer
stopped e = answer.Stop e.«record» e.byte e.kind e.given

-- the answer to a call that an exception stops; where none does, it is done, with so many exceptions
abbrev pub unless_stopped : ℕ → Option Exception → Answer
unless_stopped count (Some e) = stopped e
unless_stopped count None = answer.Done count

-- the answer for records that were converted with so many exceptions, or for the exception that kept them from it
abbrev pub answer_of : Result ℕ Exception → Answer
answer_of (Ok count) = answer.Done count
answer_of (Err e) = stopped e

-- r says which exception stops the call, if one does
abbrev pub StopSays : ℕ → Datatype → Datatype → ℕ → List ℕ → Option Exception → Type 0
StopSays h S D n source r = handled h S D n (readings S D source) ≡ unless_stopped (exceptions S D n (readings S D source)) r

-- false: no exception stops the call; true: each leaf obeys stop, and what stops the call is what raises first
abbrev pub Decided : ℕ → Datatype → Datatype → ℕ → List ℕ → Bool → Type 0
Decided h S D n source false = StopSays h S D n source None
Decided h S D n source true = (b : ℕ) → handling_at h D b ≡ 1

abbrev pub LookSays : ℕ → Datatype → Datatype → ℕ → List ℕ → Result Bool Exception → Type 0
LookSays h S D n source (Err e) = StopSays h S D n source (Some e)
LookSays h S D n source (Ok scan) = Decided h S D n source scan

-- n records of s and of d bytes, which the buffers, by their lengths, have room for
abbrev pub HasRecords : Bool → ℕ → ℕ → ℕ → ℕ → ℕ → Type 0
HasRecords false n s d out other = (n ≤ 65536) × (n * s ≤ other) × (n * d ≤ out)
HasRecords true n s d out other = (n ≤ 65536) × (n * s ≤ out) × (n * d ≤ out) × (n * d ≤ other)

-- ---- checks 3 to 7 and 12, of two sheets, a count and the lengths of the buffers

abbrev pub sheets_checked : Bool → List ℕ → List ℕ → ℕ → ℕ → ℕ → Checked
sheets_checked replaces ss ds n out other = sheet_checks (form_of replaces) ss ds n (source_of replaces out other) (background_of replaces out other)

abbrev pub records_checked : Bool → ℕ → ℕ → ℕ → Datatype → Datatype → Checked
records_checked replaces n out other S D = record_checks (form_of replaces) n (source_of replaces out other) (background_of replaces out other) S D

abbrev pub types_checked : Bool → ℕ → ℕ → ℕ → Datatype → Datatype → Checked
types_checked replaces n out other S D = type_checks (form_of replaces) n (source_of replaces out other) (background_of replaces out other) S D

-- type i of the half ws and type k of the half wd, which no check refuses
pub record Passes (replaces : Bool) (ss ds : List ℕ) (n out other : ℕ) (ws : List ℕ) (i : ℕ) (wd : List ℕ) (k : ℕ) : Type 0 where
  pub types : Both ss ws i ds wd k
  pub records : HasRecords replaces n (size (type_at ws ss i)) (size (type_at wd ds k)) out other

-- r says what the checks of the records of the types i and k say
abbrev pub RecordsSay : Bool → List ℕ → List ℕ → ℕ → ℕ → ℕ → List ℕ → ℕ → List ℕ → ℕ → Result TypeNumbers Answer → Type 0
RecordsSay replaces ss ds n out other ws i wd k (Err a) = records_checked replaces n out other (type_at ws ss i) (type_at wd ds k) ≡ refused a
RecordsSay replaces ss ds n out other ws i wd k (Ok t) =
    (t.source ≡ i) × (t.destination ≡ k) × (records_checked replaces n out other (type_at ws ss i) (type_at wd ds k) ≡ passed (type_at ws ss i) (type_at wd ds k))
    × Passes replaces ss ds n out other ws i wd k

-- r says what the checks of the types i and k say
abbrev pub TypesSay : Bool → List ℕ → List ℕ → ℕ → ℕ → ℕ → List ℕ → ℕ → List ℕ → ℕ → Result TypeNumbers Answer → Type 0
TypesSay replaces ss ds n out other ws i wd k (Err a) = types_checked replaces n out other (type_at ws ss i) (type_at wd ds k) ≡ refused a
TypesSay replaces ss ds n out other ws i wd k (Ok t) =
    (t.source ≡ i) × (t.destination ≡ k) × (types_checked replaces n out other (type_at ws ss i) (type_at wd ds k) ≡ passed (type_at ws ss i) (type_at wd ds k))
    × Passes replaces ss ds n out other ws i wd k

-- r says what the checks of the sheets say, whose types then stand in the halves of the table w
abbrev pub SheetsSay : Bool → List ℕ → List ℕ → ℕ → ℕ → ℕ → List ℕ → Result TypeNumbers Answer → Type 0
SheetsSay replaces ss ds n out other w (Err a) = sheets_checked replaces ss ds n out other ≡ refused a
SheetsSay replaces ss ds n out other w (Ok t) =
    (sheets_checked replaces ss ds n out other ≡ passed (type_at (first w) ss t.source) (type_at (second w) ds t.destination))
    × Passes replaces ss ds n out other (first w) t.source (second w) t.destination

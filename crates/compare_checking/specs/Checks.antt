-- What the checks of a call that compares two logs say, before that of the list. No meaning of document 02 stands here: the call is `Compares` in crate differences.
use Rattle.std.specs.Prelude.{◌≡◌, false, List, ℕ, Result, Ok, Err}
use Rattle.answer.specs.declared.Answer.{Answer}
use Rattle.answer.specs.declared.Answer.TheVariants.{Source, Destination, Path}
use Rattle.datatype.specs.Datatype.{Datatype}
use Rattle.datatype.specs.Paths.{has_path}
use Rattle.table.specs.Table.{type_at}
use Rattle.sheet.specs.Sheet.{sheet_of}
use Rattle.runs.specs.Run.{Checked, require, with_sheet, record_checks}
use Rattle.runs.specs.Run.Form.{copying}
use Rattle.runs.specs.Run.Checked.{refused, passed}
use Rattle.two_sheets.specs.declared.TypeNumbers.{TypeNumbers}
use Rattle.two_sheets.specs.TwoSheets.{first, second}
use Rattle.conversion.specs.Call.{Passes}

-- checks 5 to 7 of two types, a count and two logs of p and of q bytes: "as in the copying form, with nS and nD for the two buffers"
abbrev pub types_checked : ℕ → ℕ → ℕ → Datatype → Datatype → Checked
types_checked n p q S D = require (has_path S D) Path (record_checks copying n p q S D)

-- checks 3 to 7, of two sheets
abbrev pub sheets_checked : List ℕ → List ℕ → ℕ → ℕ → ℕ → Checked
sheets_checked ss ds n p q = with_sheet (sheet_of ss) Source (λ S. with_sheet (sheet_of ds) Destination (types_checked n p q S))

-- r says what the checks of the types i and k say
abbrev pub TypesSay : List ℕ → List ℕ → ℕ → ℕ → ℕ → List ℕ → ℕ → List ℕ → ℕ → Result TypeNumbers Answer → Type 0
TypesSay ss ds n p q ws i wd k (Err a) = types_checked n p q (type_at ws ss i) (type_at wd ds k) ≡ refused a
TypesSay ss ds n p q ws i wd k (Ok t) =
    (t.source ≡ i) × (t.destination ≡ k) × (types_checked n p q (type_at ws ss i) (type_at wd ds k) ≡ passed (type_at ws ss i) (type_at wd ds k)) × Passes false ss ds n q p ws i wd k

-- r says what the checks of the sheets say, whose types then stand in the halves of the table w
abbrev pub SheetsSay : List ℕ → List ℕ → ℕ → ℕ → ℕ → List ℕ → Result TypeNumbers Answer → Type 0
SheetsSay ss ds n p q w (Err a) = sheets_checked ss ds n p q ≡ refused a
SheetsSay ss ds n p q w (Ok t) =
    (sheets_checked ss ds n p q ≡ passed (type_at (first w) ss t.source) (type_at (second w) ds t.destination))
    × Passes false ss ds n q p (first w) t.source (second w) t.destination

-- Two sheets in the two halves of the working table, as every call on two sheets has them.
use Rattle.std.specs.Prelude.{◌≡◌, List, ℕ, ◌-◌, ◌≤◌, length, take, drop, Result, Ok, Err}
use Rattle.answer.specs.declared.Answer.{Answer}
use Rattle.answer.specs.declared.Answer.TheVariants as answer
use Rattle.datatype.specs.WellFormed.{WellFormed}
use Rattle.table.specs.Table.{type_at}
use Rattle.table.specs.Records.{RowsInside}
use Rattle.sheet.specs.Sheet.{sheet_of}
use Rattle.sheet.specs.Sheet.Sheet.{of_type, faulty_at}
use Rattle.two_sheets.specs.declared.TypeNumbers.{TypeNumbers}
use Rattle.two_sheets.specs.declared.SheetFault.{SheetFault}
use Rattle.two_sheets.specs.declared.SheetFault.TheVariants.{Source, Destination}

-- the halves of a table of 8,192 words
abbrev pub first : List ℕ → List ℕ
first w = take 4096 w

abbrev pub second : List ℕ → List ℕ
second w = drop 4096 w

-- type i of the table w beside the text t is the sheet's type
pub record IsSheet (t w : List ℕ) (i : ℕ) : Type 0 where
  pub type : sheet_of t ≡ of_type (type_at w t i)
  pub formed : WellFormed (type_at w t i)
  pub inside : RowsInside w

-- n types of the source sheet in the first half
pub record SourceRead (t w : List ℕ) (n m : ℕ) : Type 0 where
  pub some : 1 ≤ n
  pub is : IsSheet t (first w) (n - 1)
  pub words : length w ≡ 8192

-- the answer of a call that a faulty sheet refuses
abbrev pub refusal : SheetFault → Answer
refusal (Source line) = answer.Source line
refusal (Destination line) = answer.Destination line

abbrev pub ReadAs : List ℕ → List ℕ → List ℕ → Result TypeNumbers SheetFault → Type 0
ReadAs ss ds w (Ok t) = IsSheet ss (first w) t.source × IsSheet ds (second w) t.destination
ReadAs ss ds w (Err (Source line)) = sheet_of ss ≡ faulty_at line
ReadAs ss ds w (Err (Destination line)) = ((i : ℕ) × IsSheet ss (first w) i) × (sheet_of ds ≡ faulty_at line)

pub record SheetsRead (ss ds w : List ℕ) (r : Result TypeNumbers SheetFault) : Type 0 where
  pub is : ReadAs ss ds w r
  pub words : length w ≡ 8192

-- well-formed types i and k, in the halves ws and wd
pub record Both (ss ws : List ℕ) (i : ℕ) (ds wd : List ℕ) (k : ℕ) : Type 0 where
  pub source : WellFormed (type_at ws ss i)
  pub destination : WellFormed (type_at wd ds k)
  pub source_rows : RowsInside ws
  pub destination_rows : RowsInside wd

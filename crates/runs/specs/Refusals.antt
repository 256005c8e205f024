-- Document 01, "Numbers of refusal, in the order of checks": the words in which the rows of such a table are said, of whatever call it is.
use Rattle.std.specs.Prelude.{List, ◌∷◌, ◌⊎◌, ℕ, ◌*◌, ◌<◌, max}
use Rattle.answer.specs.declared.Given.{Given}
use Rattle.answer.specs.declared.Values.{Values}
use Rattle.answer.specs.Answer.{given_sign, given_magnitude}
use Rattle.datatype.specs.Datatype.{Datatype}
use Rattle.sheet.specs.FirstFault.{Whole}
use Rattle.runs.specs.Run.{Form}
use Rattle.runs.specs.Run.Form.{copying, in_place}

-- ---- "Given exactly when"

-- no line of either sheet is faulty, and S and D are their types
pub record WholeSheets (source_sheet destination_sheet : List ℕ) (S D : Datatype) : Type 0 where
  pub source : Whole source_sheet S
  pub destination : Whole destination_sheet D

-- both sheets have a type, and of the two types this holds
abbrev pub OfSheets : List ℕ → List ℕ → (Datatype → Datatype → Type 0) → Type 0
OfSheets source_sheet destination_sheet holds = (S : Datatype) × (D : Datatype) × WholeSheets source_sheet destination_sheet S D × holds S D

-- n records, of S bytes in the source and of D bytes in the destination; each buffer by its length
abbrev pub TooShort : Form → ℕ → ℕ → ℕ → ℕ → ℕ → Type 0
TooShort copying n S D source destination = (source < n * S) ⊎ (destination < n * D)
TooShort in_place n S D buffer background = (buffer < n * max S D) ⊎ (background < n * D)

-- ---- "in the order of checks"

-- the row is given, and none before it in the list is
pub data First {Row : Type 0} (Given : Row → Type 0) (row : Row) : List Row → Type 0 where
  here : {later : List Row} → Given row → First Given row (row ∷ later)
  behind : {before : Row} {later : List Row} → ¬ (Given before) → First Given row later → First Given row (before ∷ later)

-- ---- the fields beside a number: "Unnamed fields are 0."

abbrev pub no_field : Values
no_field = record { count = 0; line = 0; «record» = 0; at = 0; kind = 0; given = 0; magnitude = 0 }

abbrev pub only_count : ℕ → Values
only_count n = record { count = n; line = 0; «record» = 0; at = 0; kind = 0; given = 0; magnitude = 0 }

abbrev pub only_line : ℕ → Values
only_line k = record { count = 0; line = k; «record» = 0; at = 0; kind = 0; given = 0; magnitude = 0 }

abbrev pub only_place : ℕ → ℕ → ℕ → Given → Values
only_place i b k g = record { count = 0; line = 0; «record» = i; at = b; kind = k; given = given_sign g; magnitude = given_magnitude g }

-- What the reader of a whole sheet promises: its answer is the definition's outcome, and the table stands for the datatypes of that outcome.
use Rattle.std.specs.Prelude.{◌≡◌, List, ℕ, ◌≤◌, length, Result, Ok, Err}
use Rattle.std.specs.Prelude as code
use Rattle.std.proofs.Math.Option.{Option}
use Rattle.text.specs.Text.{newline, split}
use Rattle.text.specs.Field.{◌>>=◌}
use Rattle.line.specs.declared.ReadLine.{ReadLine}
use Rattle.line.specs.Read.{says}
use Rattle.table.specs.Table.{Holds}
use Rattle.table.specs.Records.{RowsInside}
use Rattle.sheet_steps.specs.declared.Counts.{Counts}
use Rattle.sheet_steps.specs.declared.FaultyLine.{FaultyLine}
use Rattle.sheet.specs.Sheet.{SoFar, judged_after, Outcome, outcome_of, lines_from}
use Rattle.sheet.specs.Sheet.Outcome.{accepted, faulty}
use Rattle.sheet.specs.FirstFault.{no_lines}
use Rattle.sheet_steps.specs.Judged.{so_far_at}

-- what a line that was read from the text t says, judged after the lines before it: nothing where it was a fault
abbrev pub read_judged : List ℕ → code.Option ReadLine → SoFar → Option SoFar
read_judged t r s = says t r >>= judged_after s

-- what an answer says beside the table w and the text t
abbrev pub read_as : Result Counts FaultyLine → List ℕ → List ℕ → Outcome
read_as (Ok c) w t = accepted (so_far_at w t c.types c.rows)
read_as (Err f) w t = faulty f.0

-- n types and m rows stand in the table, and there is at least one type
pub record Stands (w : List ℕ) (n m : ℕ) : Type 0 where
  pub some : 1 ≤ n
  pub holds : Holds w n m

abbrev pub StandsAfter : Result Counts FaultyLine → List ℕ → Type 0
StandsAfter (Ok c) w = Stands w c.types c.rows
StandsAfter (Err f) w = Unit {0}

-- the lines of a sheet that is not too long
pub record ReadsLines (t w : List ℕ) (r : Result Counts FaultyLine) : Type 0 where
  pub is : read_as r w t ≡ lines_from 1 no_lines (split newline t)
  pub stands : StandsAfter r w
  pub words : length w ≡ 4096

abbrev pub InsideAfter : Result Counts FaultyLine → List ℕ → Type 0
InsideAfter (Ok c) w = RowsInside w
InsideAfter (Err f) w = Unit {0}

-- any sheet
pub record ReadsSheet (t w : List ℕ) (r : Result Counts FaultyLine) : Type 0 where
  pub is : read_as r w t ≡ outcome_of t
  pub stands : StandsAfter r w
  pub inside : InsideAfter r w
  pub words : length w ≡ 4096

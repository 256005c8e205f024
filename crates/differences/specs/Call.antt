-- Document 02, 2026-06: a whole call that compares two logs, from everything that is lent to the answer and the list afterwards. "Neither buffer is written."
use Rattle.std.specs.Prelude.{◌≡◌, List, ◌++◌, ℕ, leb, length, drop}
use Rattle.answer.specs.declared.Answer.{Answer}
use Rattle.answer.specs.declared.Answer.TheVariants.{Done, Table, Source, Destination, Path, Count, Room}
use Rattle.datatype.specs.Datatype.{Datatype, size}
use Rattle.datatype.specs.Paths.{has_path}
use Rattle.sheet.specs.Sheet.{sheet_of}
use Rattle.runs.specs.Run.{Checked, require, with_sheet, on_checked, has_room, table_after}
use Rattle.runs.specs.Run.Checked.{refused, passed}
use Rattle.runs.specs.Run.Form.{copying}
use Rattle.differences.specs.Differences.{differences, shown}

-- everything that a call is lent
pub record Call : Type 0 where
  pub first_sheet : List ℕ
  pub second_sheet : List ℕ
  pub count : ℕ
  pub first : List ℕ
  pub second : List ℕ
  pub list : List ℕ
  pub table : List ℕ

abbrev pub text : Call → Datatype → Datatype → List ℕ
text c S D = shown (differences S D c.count c.first c.second)

-- "Refusals: 2 to 7 as in the copying form, with nS and nD for the two buffers and 7 for the list"
abbrev pub type_checks : Call → Datatype → Datatype → Checked
type_checks c S D =
    require (has_path S D) Path
    (require (leb c.count 65536) Count
    (require (has_room copying c.count (size S) (size D) (length c.first) (length c.second)) Room
    (require (leb (length (text c S D)) (length c.list)) Room
    (passed S D))))

unfoldable pub checks : Call → Checked
checks c =
    require (leb 8192 (length c.table)) Table
    (with_sheet (sheet_of c.first_sheet) Source (λ S. with_sheet (sheet_of c.second_sheet) Destination (λ D. type_checks c S D)))

-- "done carries each output's length in place of the count"
unfoldable pub answer : Call → Answer
answer c = on_checked (λ S D. Done (length (text c S D))) (λ refusal. refusal) (checks c)

-- "the list buffer is then unchanged"; bytes behind the list never change
unfoldable pub list_after : Call → List ℕ
list_after c = on_checked (λ S D. text c S D ++ drop (length (text c S D)) c.list) (λ refusal. c.list) (checks c)

-- what the call promises: its answer r, and the list and the working table afterwards
pub record Compares (call : Call) (r : Answer) (list table : List ℕ) : Type 0 where
  pub answers : r ≡ answer call
  pub lists : list ≡ list_after call
  pub clears : table ≡ table_after r call.table

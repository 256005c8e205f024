-- Document 01, "The leaf list": the call that writes it.
use Rattle.std.specs.Prelude.{◌≡◌, cond, List, ◌++◌, ℕ, leb, length, drop}
use Rattle.answer.specs.declared.Answer.{Answer}
use Rattle.answer.specs.declared.Answer.TheVariants.{Done, Table, Source, Room}
use Rattle.sheet.specs.Sheet.{Sheet, sheet_of}
use Rattle.sheet.specs.Sheet.Sheet.{of_type, faulty_at}
use Rattle.runs.specs.Run.{if_done}
use Rattle.leaf_lines.specs.LeafList.{leaf_list}

-- "Checks 2, 3, 7 apply", 7 as "list buffer too short"; "done carries the list's length in bytes in place of the count"
abbrev pub list_answer : Sheet → ℕ → Answer
list_answer (faulty_at k) room = Source k
list_answer (of_type T) room = cond (leb (length (leaf_list T)) room) (Done (length (leaf_list T))) Room

-- the answer, of the sheet's text and of the lengths of the list buffer and of the table
unfoldable pub answer_of : List ℕ → ℕ → ℕ → Answer
answer_of sheet room table = cond (leb 8192 table) (list_answer (sheet_of sheet) room) Table

-- "bytes past the list are unchanged"
abbrev pub listed : Sheet → List ℕ → List ℕ
listed (faulty_at k) list = list
listed (of_type T) list = leaf_list T ++ drop (length (leaf_list T)) list

-- the list buffer after the call. The table is as after every call.
unfoldable pub list_after : List ℕ → List ℕ → ℕ → List ℕ
list_after sheet list table = if_done (answer_of sheet (length list) table) (listed (sheet_of sheet) list) list

-- ---- what the code's own functions promise

-- a call's answer and its list, of what the sheet says
pub record Lists (sheet : Sheet) (before after : List ℕ) (r : Answer) : Type 0 where
  pub answer : r ≡ list_answer sheet (length before)
  pub list : after ≡ if_done r (listed sheet before) before

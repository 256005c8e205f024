-- The size of one record of a sheet's type, as a call; its checks are document 01's, "Numbers of refusal".
use Rattle.std.specs.Prelude.{cond, List, ℕ, leb}
use Rattle.answer.specs.declared.Answer.{Answer}
use Rattle.answer.specs.declared.Answer.TheVariants.{Done, Table, Source}
use Rattle.datatype.specs.Datatype.{size}
use Rattle.sheet.specs.Sheet.{Sheet, sheet_of}
use Rattle.sheet.specs.Sheet.Sheet.{of_type, faulty_at}

-- "3 SOURCE: source (or only) sheet faulty", with its line; done carries the record's size in bytes in place of the count
abbrev pub size_answer : Sheet → Answer
size_answer (faulty_at k) = Source k
size_answer (of_type T) = Done (size T)

-- "2 TABLE: under 8,192 words". The answer, of the sheet's text and of the table's length; the table is as after every call
unfoldable pub answer_of : List ℕ → ℕ → Answer
answer_of sheet table = cond (leb 8192 table) (size_answer (sheet_of sheet)) Table

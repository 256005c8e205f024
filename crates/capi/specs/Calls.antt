-- The calls that read sheets, with numbers for their answer: what each returns, and every word and byte that it leaves.
use Rattle.std.specs.Prelude.{◌≡◌, List, ℕ, ℤ}
use Rattle.answer.specs.declared.Answer.{Answer}
use Rattle.answer_words.specs.AnswerWords.{Gives}
use Rattle.runs.specs.Run.{Run, answer, after, table_after}
use Rattle.reports.specs.Call as report
use Rattle.reports.specs.Call.{Call}
use Rattle.differences.specs.Call as compare
use Rattle.reaches.specs.Call as reach

-- a call that answers a, and leaves the table as every call leaves it
pub record Answered (a : Answer) (lent : List ℕ) (r : ℕ) (words table : List ℕ) : Type 0 where
  pub gives : Gives a r words
  pub clears : table ≡ table_after a lent

-- such a call that has a buffer too, and leaves it as `left`
pub record Called (a : Answer) (left lent : List ℕ) (r : ℕ) (words out table : List ℕ) : Type 0 where
  pub answered : Answered a lent r words table
  pub leaves : out ≡ left

-- a call of a converting form
abbrev pub Converts : Run → ℕ → List ℕ → List ℕ → List ℕ → Type 0
Converts run r words out table = Called (answer run) (after run) run.table r words out table

-- a call of the report
pub record Reported (call : Call) (r : ℕ) (words log : List ℕ) (memory : List ℤ) (output table : List ℕ) : Type 0 where
  pub answered : Answered (report.answer call) call.table r words table
  pub converts : log ≡ report.log_after call
  pub holds : memory ≡ report.memory_after call
  pub shows : output ≡ report.output_after call

-- a call that compares two logs
abbrev pub Compared : compare.Call → ℕ → List ℕ → List ℕ → List ℕ → Type 0
Compared call r words list table = Called (compare.answer call) (compare.list_after call) call.table r words list table

-- a call that asks which bits of a source record a conversion can turn on
abbrev pub Reached : reach.Call → ℕ → List ℕ → List ℕ → List ℕ → Type 0
Reached call r words mask table = Called (reach.answer call) (reach.mask_after call) call.table r words mask table

-- What the parts of a call that compares two logs promise behind its checks. No meaning of document 02 stands here: the call is `Compares` in crate differences.
use Rattle.std.specs.Prelude.{◌≡◌, List, ◌++◌, ℕ, leb, length, drop}
use Rattle.answer.specs.declared.Answer.{Answer}
use Rattle.answer.specs.declared.Answer.TheVariants.{Done, Room}
use Rattle.datatype.specs.Datatype.{Datatype}
use Rattle.runs.specs.Run.{Checked, require, on_checked}
use Rattle.runs.specs.Run.Checked.{passed}
use Rattle.differences.specs.Differences.{differences, shown}

-- by the types: the list of n records
abbrev pub text_with : ℕ → List ℕ → List ℕ → Datatype → Datatype → List ℕ
text_with n first second S D = shown (differences S D n first second)

-- check 7 of a list of so many bytes
abbrev pub list_checked : ℕ → List ℕ → List ℕ → ℕ → Datatype → Datatype → Checked
list_checked n first second room S D = require (leb (length (text_with n first second S D)) room) Room (passed S D)

-- the answer and what is left of the list, behind some checks, of which c says what is left of them
pub record Leaves (n : ℕ) (first second list : List ℕ) (c : Checked) (r : Answer) (list' : List ℕ) : Type 0 where
  pub answers : r ≡ on_checked (λ S D. Done (length (text_with n first second S D))) (λ refusal. refusal) c
  pub lists : list' ≡ on_checked (λ S D. text_with n first second S D ++ drop (length (text_with n first second S D)) list) (λ refusal. list) c

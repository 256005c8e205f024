-- A call of the library whose answer is given to C is a call for C. Assumes nothing.
use mathlib.Core.Path.{◌≡◌, subst}
use mathlib.Core.List.{List}
use Prim.Native.Nat.{ℕ}
use lib.IntN.{ℤ}
use Rattle.answer.specs.declared.Answer.{Answer}
use Rattle.runs.specs.Run.{Run, answer, after, table_after, Answers}
use Rattle.answer_words.specs.AnswerWords.{Gives}
use Rattle.reports.specs.Call.{Call, Reports}
use Rattle.differences.specs.Call as compare
use Rattle.reaches.specs.Call as reach
use Rattle.capi.specs.Calls.{Answered, Called, Converts, Reported, Compared, Reached}

module _ {a b : Answer} {lent table words : List ℕ} {r : ℕ} (e : b ≡ a) (t : table ≡ table_after b lent) (g : Gives b r words) where
  pub answered : Answered a lent r words table
  answered = subst (λ (x : Answer). Answered x lent r words table) e record { gives = g; clears = t }

  pub carried : {left out : List ℕ} → out ≡ left → Called a left lent r words out table
  carried o = record { answered = answered; leaves = o }

-- all four converting forms
pub converted : {run : Run} {a : Answer} {out table words : List ℕ} {r : ℕ} → Answers run a out table → Gives a r words → Converts run r words out table
converted h g = carried h.answers h.clears g h.leaves

-- the report
pub reported : {call : Call} {a : Answer} {log : List ℕ} {memory : List ℤ} {output table words : List ℕ} {r : ℕ} → Reports call a log memory output table → Gives a r words
    → Reported call r words log memory output table
reported h g = record { answered = answered h.answers h.clears g; converts = h.converts; holds = h.holds; shows = h.shows }

-- two logs compared
pub compared : {call : compare.Call} {a : Answer} {list table words : List ℕ} {r : ℕ} → compare.Compares call a list table → Gives a r words
    → Compared call r words list table
compared h g = carried h.answers h.clears g h.lists

-- a mask
pub reached : {call : reach.Call} {a : Answer} {mask table words : List ℕ} {r : ℕ} → reach.Reaches call a mask table → Gives a r words
    → Reached call r words mask table
reached h g = carried h.answers h.clears g h.marks

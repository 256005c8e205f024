-- The whole call: checks 1 and 2, and the table afterwards. Assumes nothing.
use mathlib.Core.Path.{◌≡◌, refl, sym, ap, subst, ◌∙◌}
use mathlib.Core.Logic.{⊎_elim}
use mathlib.Core.List.{List, ◌++◌}
use Prim.Native.Nat.{ℕ, ◌≤◌, ◌<◌}
use native.Mathlib.Omega.{arith}
use borrow.Author.Tests.{le-leb, lt-leb}
use lib.Dec.{leb}
use lib.ListN.{length, drop, replicate}
use Rattle.answer.specs.declared.Answer.{Answer}
use Rattle.answer.specs.declared.Answer.TheVariants as answer
use Rattle.answer.specs.Answer.{number_of}
use Rattle.datatype.specs.Datatype.{Datatype, size}
use Rattle.datatype.specs.Paths.{has_path}
use Rattle.datatype.specs.SymbolSets.{keeps_symbols}
use Rattle.sheet.specs.Sheet.{sheet_of}
use Rattle.records.specs.Records.{readings}
use Rattle.runs.specs.Run.{Form, Run, handled, target, type_checks, sheet_checks, checks_of, answer, after, table_after, Answers}
use Rattle.conversion.specs.Call.{Leaves}
use Rattle.runs.proofs.Checks.{Refusals, done_is, stop_is, require_refuses}
use Rattle.runs.proofs.Table.{Clears, sheets_clear, records_clear, call_clears}
use Rattle.runs.proofs.Exceptions.{handled_number}

pub bad_handling : (r : Run) → 1 < r.handling → Answers r answer.Handling (target r.form r.source r.background) r.table
unfolding answer after checks_of
bad_handling r h = record { answers = rw (lt-leb r.handling 1 h) refl; leaves = rw (lt-leb r.handling 1 h) refl; clears = refl }

pub short_table : (r : Run) → r.handling ≤ 1 → length r.table < 8192 → Answers r answer.Table (target r.form r.source r.background) r.table
unfolding answer after checks_of
short_table r h g =
    record {
      answers = rw (le-leb r.handling 1 h, lt-leb 8192 (length r.table) g) refl;
      leaves = rw (le-leb r.handling 1 h, lt-leb 8192 (length r.table) g) refl;
      clears = refl;
    }

-- ---- which answers clear the table

module _ (t : List ℕ) where
  handled_clears : (h : ℕ) (S D : Datatype) (n : ℕ) (source : List ℕ) → Clears t (handled h S D n (readings S D source))
  handled_clears h S D n source =
      let a : Answer = handled h S D n (readings S D source) in
      ⊎_elim (λ e. ap (λ (x : Answer). table_after x t) (done_is a e)) (λ e. ap (λ (x : Answer). table_after x t) (stop_is a e).1)
      (handled_number S D h n (readings S D source))

  refusals_clear : (form : Form) (ss ds : List ℕ) (n x y : ℕ) → Refusals (Clears t) (sheet_checks form ss ds n x y)
  refusals_clear form ss ds n x y =
      sheets_clear t (sheet_of ss) (sheet_of ds) (type_checks form n x y)
      (λ S D. require_refuses (Clears t) (has_path S D) answer.Path _ (λ e. refl)
      (require_refuses (Clears t) (keeps_symbols S D) answer.Symbols _ (λ e. refl) (records_clear t form n x y S D)))

pub answers_all : (r : Run) (a : Answer) (out lent : List ℕ) → r.handling ≤ 1 → 8192 ≤ length r.table → length lent ≡ 8192
    → Leaves r.form r.handling r.count r.source r.background (sheet_checks r.form r.source_sheet r.destination_sheet r.count (length r.source) (length r.background)) a out
    → Answers r a out (replicate 8192 0 ++ drop 8192 (lent ++ drop 8192 r.table))
unfolding answer after checks_of
answers_all r a out lent h g l leaves =
    record {
      answers = leaves.answers ∙ sym (rw (le-leb r.handling 1 h, le-leb 8192 (length r.table) g) refl);
      leaves = leaves.leaves ∙ sym (rw (le-leb r.handling 1 h, le-leb 8192 (length r.table) g) refl);
      clears =
          call_clears r.table (λ S D. handled r.handling S D r.count (readings S D r.source))
          (λ S D. handled_clears r.table r.handling S D r.count r.source)
          (sheet_checks r.form r.source_sheet r.destination_sheet r.count (length r.source) (length r.background)) lent
          (refusals_clear r.table r.form r.source_sheet r.destination_sheet r.count (length r.source) (length r.background)) leaves.answers l;
    }

-- A log against what a run made of it without an exception: nothing is listed. Assumes nothing.
use mathlib.Core.Path.{◌≡◌, sym, ap, ◌∙◌, subst}
use mathlib.Core.Logic.{inl}
use mathlib.Core.Bool.{true}
use mathlib.Core.List.{List, [], ◌++◌}
use Prim.Native.Nat.{ℕ, ◌*◌, ◌≤◌}
use lib.Dec.{leb}
use lib.ListN.{length, drop}
use borrow.Author.Tests.{leb-true, le-leb}
use Rattle.answer.specs.declared.Answer.TheVariants.{Done}
use Rattle.datatype.specs.Datatype.{Datatype, size}
use Rattle.datatype.proofs.Tests.{and_true}
use Rattle.records.specs.Leaf.{number_in}
use Rattle.records.proofs.ManyRecords.{same_record}
use Rattle.runs.specs.Run.{Run, Form, has_room, target, after}
use Rattle.runs.specs.Run as runs
use Rattle.runs.specs.Run.Form.{copying, in_place}
use Rattle.runs.specs.Run.Checked.{passed}
use Rattle.runs.proofs.Checks.{passed_tells, room_behind, room_in_place}
use Rattle.promises.specs.Runs.{DoneWithoutException, Types}
use Rattle.promises.proofs.Promises.{passes, not_early, kept}
use Rattle.differences.specs.Differences.{differences, header, lines, shown}
use Rattle.differences.specs.Call.{Call, text, checks}
use Rattle.difference_promises.specs.Own.{AgainstOwn, NothingListed}
use Rattle.difference_promises.proofs.Promises.{no_difference, turns_on}
use Rattle.difference_promises.proofs.Kept.{answer_passed, list_passed}

-- where a run passed, its source has room for the records that it reads, and the buffer that it writes for those that it makes
source_room : (form : Form) (n s d x y : ℕ) → has_room form n s d x y ≡ true → n * s ≤ x
source_room copying n s d x y e = leb-true (n * s) x (and_true (leb (n * s) x) (leb (n * d) y) e).0
source_room in_place n s d x y e = (room_in_place n s d x y e).0

target_room : (form : Form) (n s d : ℕ) (x y : List ℕ) → has_room form n s d (length x) (length y) ≡ true → n * d ≤ length (target form x y)
target_room copying n s d x y e = room_behind copying n s d (length x) (length y) e
target_room in_place n s d x y e = (room_in_place n s d (length x) (length y) e).1

module _ (r : Run) (S D : Datatype) (t : Types r S D) (d : DoneWithoutException r) (c : Call) (o : AgainstOwn S D r c) where
  run_passed : runs.checks r ≡ passed S D
  run_passed = passes r S D t (not_early (inl d.done))

  source_long : r.count * size S ≤ length r.source
  source_long =
      source_room r.form r.count (size S) (size D) (length r.source) (length r.background) (passed_tells r S D run_passed).room

  made_long : r.count * size D ≤ length (after r)
  made_long =
      subst (λ (k : ℕ). r.count * size D ≤ k) (sym (kept r).lengths)
      (target_room r.form r.count (size S) (size D) r.source r.background (passed_tells r S D run_passed).room)

  none : differences S D c.count c.first c.second ≡ []
  none =
      let n : ℕ = r.count in
      ap (λ (k : ℕ). differences S D k c.first c.second) o.count
      ∙ turns_on S D n c.first c.second r.source (after r)
      (record {
        firsts = λ m. ap (number_in m.source m.from)
            (same_record (size S) n m.index c.first r.source (source_room copying n (size S) (size D) (length c.first) (length c.second) o.room) source_long
            o.first m.in_records_lem);
        seconds = λ m. ap (number_in m.destination m.to)
            (same_record (size D) n m.index c.second (after r) (room_behind copying n (size S) (size D) (length c.first) (length c.second) o.room) made_long
            o.second m.in_records_lem);
      })
      ∙ no_difference r S D t d

  header_alone : text c S D ≡ header
  unfolding shown lines
  header_alone = ap shown none

  call_passed : checks c ≡ passed S D
  unfolding checks
  call_passed =
      let p = passed_tells r S D run_passed in
      rw (
        le-leb 8192 (length c.table) o.table,
        o.first_sheet,
        t.source,
        o.second_sheet,
        t.destination,
        header_alone,
        p.path,
        o.count,
        p.count,
        o.room,
        le-leb (length header) (length c.list) o.list,
      )

  -- "comparing a log with the converted bytes of any form's run, done without an exception, lists nothing"
  pub nothing_listed : NothingListed c
  nothing_listed =
      record {
        answers = answer_passed c S D call_passed ∙ ap (λ (l : List ℕ). Done (length l)) header_alone;
        lists = list_passed c S D call_passed ∙ ap (λ (l : List ℕ). l ++ drop (length l) c.list) header_alone;
      }

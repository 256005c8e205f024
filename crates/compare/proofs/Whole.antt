-- The whole call: what the checks let through, check 2, and the table afterwards. Assumes nothing.
use Rattle.std.specs.Prelude.{Result, Ok, Err}
use mathlib.Core.Path.{◌≡◌, refl, sym, ap, subst, ◌∙◌}
use mathlib.Core.Bool.{Bool, true, false}
use mathlib.Core.List.{List, ◌++◌}
use Prim.Native.Nat.{ℕ, ◌≤◌, ◌<◌}
use borrow.Author.Tests.{le-leb, lt-leb}
use lib.Dec.{leb}
use lib.ListN.{length, drop, replicate}
use Rattle.answer.specs.declared.Answer.{Answer}
use Rattle.answer.specs.declared.Answer.TheVariants as answer
use Rattle.datatype.specs.Datatype.{Datatype, size}
use Rattle.datatype.specs.Paths.{has_path}
use Rattle.table.specs.Table.{type_at}
use Rattle.sheet.specs.Sheet.{Sheet, sheet_of}
use Rattle.sheet.specs.Sheet.Sheet.{of_type, faulty_at}
use Rattle.runs.specs.Run.{Checked, require, with_sheet, on_checked, has_room}
use Rattle.runs.specs.Run.Checked.{refused, passed}
use Rattle.runs.specs.Run.Form.{copying}
use Rattle.runs.proofs.Checks.{Refusals, require_refuses, next_refuses}
use Rattle.runs.proofs.Table.{Clears, sheets_clear, records_clear, call_clears}
use Rattle.two_sheets.specs.declared.TypeNumbers.{TypeNumbers}
use Rattle.two_sheets.specs.TwoSheets.{first as front, second as back}
use Rattle.conversion.specs.Call.{Passes}
use Rattle.differences.specs.Call as meant
use Rattle.differences.specs.Call.{Call, Compares}
use Rattle.compare_checking.specs.Checks.{types_checked, sheets_checked, SheetsSay}
use Rattle.compare_frames.specs.Listed.{text_with, list_checked, Leaves}

-- ---- behind the checks of the logs

module _ (ss ds : List ℕ) (n p q : ℕ) (w : List ℕ) {r : Result TypeNumbers Answer} (says : SheetsSay ss ds n p q w r) where
  pub refuse_left : {a : Answer} → r ≡ Err a → (first second list : List ℕ) (next : Datatype → Datatype → Checked)
      → Leaves n first second list (on_checked next refused (sheets_checked ss ds n p q)) a list
  refuse_left e first second list next = rw (subst (SheetsSay ss ds n p q w) e says) (record { answers = refl; lists = refl })

  module _ {t : TypeNumbers} (e : r ≡ Ok t) where
    pub accepted : Passes false ss ds n q p (front w) t.source (back w) t.destination
    accepted = (subst (SheetsSay ss ds n p q w) e says).1

    pub pass_left : (first second list : List ℕ) (next : Datatype → Datatype → Checked) {a : Answer} {list' : List ℕ}
        → Leaves n first second list (next (type_at (front w) ss t.source) (type_at (back w) ds t.destination)) a list'
        → Leaves n first second list (on_checked next refused (sheets_checked ss ds n p q)) a list'
    pass_left first second list next {a} {list'} h =
        subst (λ (c : Checked). Leaves n first second list (on_checked next refused c) a list') (sym (subst (SheetsSay ss ds n p q w) e says).0) h

-- ---- the whole call

abbrev next_of : Call → Datatype → Datatype → Checked
next_of c = list_checked c.count c.first c.second (length c.list)

abbrev types_of : Call → Datatype → Datatype → Checked
types_of c = types_checked c.count (length c.first) (length c.second)

abbrev inner : Call → Checked
inner c = on_checked (next_of c) refused (sheets_checked c.first_sheet c.second_sheet c.count (length c.first) (length c.second))

pub short_table : (c : Call) → length c.table < 8192 → Compares c answer.Table c.list c.table
unfolding meant.checks meant.answer meant.list_after
short_table c h =
    record {
      answers = rw (lt-leb 8192 (length c.table) h) refl;
      lists = rw (lt-leb 8192 (length c.table) h) refl;
      clears = refl;
    }

-- behind check 2 the checks are those that were made
types_are : (c : Call) (S D : Datatype) → meant.type_checks c S D ≡ on_checked (next_of c) refused (types_of c S D)
types_are c S D = go (has_path S D) (leb c.count 65536) (has_room copying c.count (size S) (size D) (length c.first) (length c.second))
  where
    go : (x y z : Bool)
        → require x answer.Path (require y answer.Count (require z answer.Room (next_of c S D)))
        ≡ on_checked (next_of c) refused (require x answer.Path (require y answer.Count (require z answer.Room (passed S D))))
    go false y z = refl
    go true false z = refl
    go true true false = refl
    go true true true = refl

checks_are : (c : Call) → 8192 ≤ length c.table → meant.checks c ≡ inner c
unfolding meant.checks
checks_are c h = rw (le-leb 8192 (length c.table) h) (go (sheet_of c.first_sheet) (sheet_of c.second_sheet))
  where
    go : (a b : Sheet)
        → with_sheet a answer.Source (λ S. with_sheet b answer.Destination (λ D. meant.type_checks c S D))
        ≡ on_checked (next_of c) refused (with_sheet a answer.Source (λ S. with_sheet b answer.Destination (types_of c S)))
    go (faulty_at k) b = refl
    go (of_type S) (faulty_at k) = refl
    go (of_type S) (of_type D) = types_are c S D

refusals_clear : (c : Call) (t : List ℕ) → Refusals (Clears t) (inner c)
refusals_clear c t =
    next_refuses (Clears t) (next_of c) (sheets_checked c.first_sheet c.second_sheet c.count (length c.first) (length c.second))
    (sheets_clear t (sheet_of c.first_sheet) (sheet_of c.second_sheet) (types_of c)
    (λ S D. require_refuses (Clears t) (has_path S D) answer.Path _ (λ e. refl) (records_clear t copying c.count (length c.first) (length c.second) S D)))
    (λ S D. require_refuses (Clears t) (leb (length (text_with c.count c.first c.second S D)) (length c.list)) answer.Room (passed S D) (λ e. refl) tt)

pub compares_all : (c : Call) (r : Answer) (list lent : List ℕ) → 8192 ≤ length c.table → length lent ≡ 8192
    → Leaves c.count c.first c.second c.list (inner c) r list
    → Compares c r list (replicate 8192 0 ++ drop 8192 (lent ++ drop 8192 c.table))
unfolding meant.answer meant.list_after
compares_all c r list lent h l leaves =
    record {
      answers = leaves.answers ∙ sym (rw (checks_are c h) refl);
      lists = leaves.lists ∙ sym (rw (checks_are c h) refl);
      clears =
          call_clears c.table (λ S D. answer.Done (length (text_with c.count c.first c.second S D))) (λ S D. refl) (inner c) lent (refusals_clear c c.table)
          leaves.answers l;
    }

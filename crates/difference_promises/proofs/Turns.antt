-- What a call that compares two logs can turn on: matched numbers alone. Assumes nothing.
use mathlib.Core.Path.{◌≡◌, refl, sym, ap, ap₂, ◌∙◌, subst}
use mathlib.Core.Bool.{Bool, true, false}
use mathlib.Core.List.{List, []}
use Prim.Native.Nat.{ℕ}
use lib.Dec.{leb}
use lib.ListN.{length}
use Rattle.answer.specs.declared.Answer.{Answer}
use Rattle.answer.specs.declared.Answer.TheVariants.{Done, Table, Source, Destination, Path, Count, Room}
use Rattle.datatype.specs.Datatype.{Datatype, size}
use Rattle.datatype.specs.Paths.{has_path}
use Rattle.sheet.specs.Sheet.{Sheet, sheet_of}
use Rattle.sheet.specs.Sheet.Sheet.{of_type, faulty_at}
use Rattle.runs.specs.Run.{Checked, require, with_sheet, on_checked, has_room}
use Rattle.runs.specs.Run.Checked.{refused, passed}
use Rattle.runs.specs.Run.Form.{copying}
use Rattle.differences.specs.Differences.{differences, shown}
use Rattle.differences.specs.Call.{Call, text, type_checks, checks, answer}
use Rattle.difference_promises.specs.Promise.{SameCall, SameMatched, listed, SameResult}
use Rattle.difference_promises.proofs.Promises.{turns_on}

module _ (c d : Call) (same : SameCall c d) (numbers : SameMatched c d) where
  module _ (S D : Datatype) (s : sheet_of c.first_sheet ≡ of_type S) (t : sheet_of c.second_sheet ≡ of_type D) where
    same_text : text c S D ≡ text d S D
    same_text =
        ap shown
        (turns_on S D c.count c.first c.second d.first d.second (numbers S D s t)
        ∙ ap (λ (n : ℕ). differences S D n d.first d.second) same.count)

    same_checks : type_checks c S D ≡ type_checks d S D
    same_checks = rw (same_text, same.count, same.first, same.second, same.list) refl

  -- whatever is made of the types
  module _ {A : Type 0} (F G : Datatype → Datatype → A) (R : Answer → A)
      (alike : (S D : Datatype) → sheet_of c.first_sheet ≡ of_type S → sheet_of c.second_sheet ≡ of_type D → F S D ≡ G S D) where
    on_types : (a b e f : Bool) (S D : Datatype) → F S D ≡ G S D
        → on_checked F R (require a Path (require b Count (require e Room (require f Room (passed S D)))))
        ≡ on_checked G R (require a Path (require b Count (require e Room (require f Room (passed S D)))))
    on_types false b e f S D q = refl
    on_types true false e f S D q = refl
    on_types true true false f S D q = refl
    on_types true true true false S D q = refl
    on_types true true true true S D q = q

    on_second : (S : Datatype) → sheet_of c.first_sheet ≡ of_type S → (v : Sheet) → sheet_of c.second_sheet ≡ v
        → on_checked F R (with_sheet v Destination (λ D. type_checks c S D)) ≡ on_checked G R (with_sheet v Destination (λ D. type_checks d S D))
    on_second S s (of_type D) t =
        ap (on_checked F R) (same_checks S D s t)
        ∙ on_types (has_path S D) (leb d.count 65536) (has_room copying d.count (size S) (size D) (length d.first) (length d.second))
        (leb (length (text d S D)) (length d.list)) S D (alike S D s t)
    on_second S s (faulty_at k) t = refl

    on_first : (u v : Sheet) → sheet_of c.first_sheet ≡ u → sheet_of c.second_sheet ≡ v
        → on_checked F R (with_sheet u Source (λ S. with_sheet v Destination (λ D. type_checks c S D)))
        ≡ on_checked G R (with_sheet u Source (λ S. with_sheet v Destination (λ D. type_checks d S D)))
    on_first (of_type S) v s t = on_second S s v t
    on_first (faulty_at k) v s t = refl

    on_table : (a : Bool)
        → on_checked F R (require a Table (with_sheet (sheet_of c.first_sheet) Source (λ S. with_sheet (sheet_of c.second_sheet) Destination (λ D. type_checks c S D))))
        ≡ on_checked G R (require a Table (with_sheet (sheet_of c.first_sheet) Source (λ S. with_sheet (sheet_of c.second_sheet) Destination (λ D. type_checks d S D))))
    on_table true = on_first (sheet_of c.first_sheet) (sheet_of c.second_sheet) refl refl
    on_table false = refl

    on_checks : on_checked F R (checks c) ≡ on_checked G R (checks d)
    unfolding checks
    on_checks = rw (← same.table, ← same.first_sheet, ← same.second_sheet) (on_table (leb 8192 (length c.table)))

  -- the same sheets, count and lengths, and equal numbers in every matched leaf: the same answer and the same list
  pub turns : SameResult c d
  unfolding answer
  turns =
      record {
        answers = on_checks (λ S D. Done (length (text c S D))) (λ S D. Done (length (text d S D))) (λ refusal. refusal)
            (λ S D s t. ap (λ (l : List ℕ). Done (length l)) (same_text S D s t));
        lists = on_checks (λ S D. text c S D) (λ S D. text d S D) (λ refusal. []) (λ S D s t. same_text S D s t);
      }

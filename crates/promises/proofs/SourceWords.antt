-- Document 02, 2026-12: "source sheets may carry it without effect". Assumes nothing.
use mathlib.Core.Path.{◌≡◌, sym, ap₂, ◌∙◌}
use mathlib.Core.List.{List}
use Prim.Native.Nat.{ℕ}
use lib.Dec.{leb}
use lib.ListN.{length}
use Rattle.answer.specs.declared.Answer.{Answer}
use Rattle.answer.specs.declared.Answer.TheVariants.{Handling, Table, Destination}
use Rattle.datatype.specs.Datatype.{Datatype}
use Rattle.datatype.specs.Handling.{wordless}
use Rattle.sheet.specs.Sheet.{sheet_of}
use Rattle.sheet.specs.Sheet.Sheet.{of_type}
use Rattle.records.specs.Records.{readings}
use Rattle.runs.specs.Run.{Form, Run, require, with_sheet, on_checked, type_checks, handled, answer_for, answer, target, result, if_done, after}
use Rattle.runs.proofs.Words.{source_handled, source_result, source_checked}
use Rattle.promises.specs.SourceWords.{OtherSourceWords, WithoutEffect}

-- what a run with a source of type S says: f of the two types behind the checks, g of a refusal
said : {A : Type 0} → (Datatype → Datatype → A) → (Answer → A) → Form → ℕ → List ℕ → ℕ → ℕ → ℕ → ℕ → Datatype → A
said f g form h ds n x y t S = on_checked f g (require (leb h 1) Handling (require (leb 8192 t) Table (with_sheet (sheet_of ds) Destination (type_checks form n x y S))))

answer_by : Form → ℕ → List ℕ → ℕ → List ℕ → List ℕ → ℕ → Datatype → Answer
answer_by form h ds n source background t S =
    said (λ S D. handled h S D n (readings S D source)) (λ refusal. refusal) form h ds n (length source) (length background) t S

after_by : Form → ℕ → List ℕ → ℕ → List ℕ → List ℕ → ℕ → Datatype → List ℕ
after_by form h ds n source background t S =
    said (λ S D. if_done (handled h S D n (readings S D source)) (result form S D n source background) (target form source background))
    (λ refusal. target form source background) form h ds n (length source) (length background) t S

module _ (r : Run) (S : Datatype) (e : sheet_of r.source_sheet ≡ of_type S) where
  answer_by_lem : answer r ≡ answer_by r.form r.handling r.destination_sheet r.count r.source r.background (length r.table) (wordless S)
  unfolding answer answer_by said
  answer_by_lem =
      source_checked S (answer_for r) (λ refusal. refusal) (λ D. sym (source_handled r.handling S D r.count r.source)) r.form r.handling
      r.source_sheet r.destination_sheet r.count (length r.source) (length r.background) (length r.table) e

  after_by_lem : after r ≡ after_by r.form r.handling r.destination_sheet r.count r.source r.background (length r.table) (wordless S)
  unfolding after after_by said
  after_by_lem =
      source_checked S
      (λ S D. if_done (answer_for r S D) (result r.form S D r.count r.source r.background) (target r.form r.source r.background))
      (λ refusal. target r.form r.source r.background)
      (λ D. ap₂ (λ (a : Answer) (new : List ℕ). if_done a new (target r.form r.source r.background))
      (sym (source_handled r.handling S D r.count r.source)) (sym (source_result S D r.form r.count r.source r.background)))
      r.form r.handling r.source_sheet r.destination_sheet r.count (length r.source) (length r.background) (length r.table) e

module _ {A : Type 0} (f : Form → ℕ → List ℕ → ℕ → List ℕ → List ℕ → ℕ → Datatype → A) (r q : Run) (o : OtherSourceWords r q) where
  same_said : f r.form r.handling r.destination_sheet r.count r.source r.background (length r.table) (wordless o.first)
      ≡ f q.form q.handling q.destination_sheet q.count q.source q.background (length q.table) (wordless o.second)
  same_said = rw (o.form, o.handling, o.destination_sheet, o.count, o.source, o.background, o.table_length, o.same_without)

-- Words of the source sheet change neither the answer nor the buffer that is written.
pub source_words : (r q : Run) → OtherSourceWords r q → WithoutEffect r q
source_words r q o =
    record {
      answers = answer_by_lem r o.first o.first_sheet_lem ∙ same_said answer_by r q o ∙ sym (answer_by_lem q o.second o.second_sheet_lem);
      leaves = after_by_lem r o.first o.first_sheet_lem ∙ same_said after_by r q o ∙ sym (after_by_lem q o.second o.second_sheet_lem);
    }

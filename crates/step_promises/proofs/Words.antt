-- Document 02, 2026-12, of two steps or one: the words in A and B do not matter. Assumes nothing.
use mathlib.Core.Path.{◌≡◌, refl, sym, ap, ap₂, ◌∙◌}
use mathlib.Core.Logic.{inl, ⊎_elim}
use mathlib.Core.List.{List}
use Prim.Native.Nat.{ℕ}
use lib.Dec.{leb}
use lib.ListN.{length}
use borrow.Author.Tests.{le-leb}
use Rattle.answer.specs.declared.Answer.{Answer}
use Rattle.answer.specs.declared.Answer.TheVariants.{Done}
use Rattle.answer.specs.Answer.{number_of, values_of}
use Rattle.datatype.specs.Datatype.{Datatype, size}
use Rattle.datatype.specs.Paths.{has_path}
use Rattle.datatype.specs.Matches.{match_at}
use Rattle.datatype.specs.SymbolSets.{keeps_symbols}
use Rattle.datatype.proofs.Handling.{wordless_size, wordless_match, wordless_path, wordless_keeps}
use Rattle.sheet.specs.Sheet.{sheet_of}
use Rattle.sheet.specs.Sheet.Sheet.{of_type}
use Rattle.records.specs.Records.{readings, exceptions}
use Rattle.records.proofs.Alike.{readings_alike, exceptions_alike, copy_alike, in_place_alike}
use Rattle.runs.specs.Run.{Form, Run, has_room, checks, answer, result}
use Rattle.runs.specs.Run.Form.{copying, in_place}
use Rattle.runs.specs.Run.Checked.{refused, passed}
use Rattle.runs.specs.Parts.{converted_bytes}
use Rattle.runs.proofs.Checks.{refused_or_passed, Passed, passed_tells, tells_passed}
use Rattle.runs.proofs.Exceptions.{quiet_handled}
use Rattle.runs.proofs.Buffers.{answer_is, after_is}
use Rattle.promises.specs.Runs.{DoneWithoutException, Types}
use Rattle.promises.specs.SourceWords.{WithoutEffect}
use Rattle.promises.proofs.Promises.{refused_before, not_early, passes, kept}
use Rattle.promises.proofs.SourceWords.{source_words}
use Rattle.step_promises.specs.TwoSteps.{SameOutcome, WhateverWords, OtherDestinationWords, WhateverFirst}
use Rattle.step_promises.proofs.TwoSteps.{two_steps_or_one}

-- ---- in a source

-- The second run and the straight one may each have words of their own in their source sheets.
pub whatever_words : WhateverWords
whatever_words A B C r q p q' p' all names reals quiet rs same other-q other-p =
    let e : SameOutcome C q p = two_steps_or_one A B C r q p all names reals quiet rs same in
    let w : WithoutEffect q q' = source_words q q' other-q in
    let v : WithoutEffect p p' = source_words p p' other-p in
    record {
      answers =
          record {
            number = sym (ap number_of w.answers) ∙ e.answers.number ∙ ap number_of v.answers;
            fields = sym (ap values_of w.answers) ∙ e.answers.fields ∙ ap values_of v.answers;
          };
      converted = λ d.
          ap₂ (converted_bytes C) (sym other-q.count) (sym w.leaves) ∙ e.converted (ap number_of w.answers ∙ d)
          ∙ ap₂ (converted_bytes C) other-p.count v.leaves;
    }

-- ---- in the destination of the first step

-- what is made of form, count and buffers alone
same_made : {T : Type 0} (F : Form → ℕ → List ℕ → List ℕ → T) (r r' : Run) → OtherDestinationWords r r'
    → F r.form r.count r.source r.background ≡ F r'.form r'.count r'.source r'.background
same_made F r r' o = rw (o.form, o.count, o.source, o.background)

module _ (A : Datatype) (r r' : Run) (o : OtherDestinationWords r r') (sheet : sheet_of r.source_sheet ≡ of_type A) (quiet : DoneWithoutException r) where
  abbrev B : Datatype
  B = o.first

  abbrev B' : Datatype
  B' = o.second

  same_size : size B' ≡ size B
  same_size = sym (wordless_size B') ∙ ap size (sym o.same_without) ∙ wordless_size B

  same_match : (b : ℕ) → match_at A B' b ≡ match_at A B b
  same_match b = sym (wordless_match B' A b) ∙ ap (λ (D : Datatype). match_at A D b) (sym o.same_without) ∙ wordless_match B A b

  types : Types r A B
  types = record { source = sheet; destination = o.first_sheet_lem }

  r_passes : checks r ≡ passed A B
  r_passes = passes r A B types (not_early (inl quiet.done))

  r'_passes : checks r' ≡ passed A B'
  r'_passes =
      let t : Passed r A B = passed_tells r A B r_passes in
      tells_passed r' A B'
      (record {
        handling = le-leb r'.handling 1 o.handling;
        table = ap (leb 8192) (sym o.table_length) ∙ t.table;
        source = ap sheet_of (sym o.source_sheet) ∙ sheet;
        destination = o.second_sheet_lem;
        path = sym (wordless_path B' A) ∙ ap (has_path A) (sym o.same_without) ∙ wordless_path B A ∙ t.path;
        symbols = sym (wordless_keeps B' A) ∙ ap (keeps_symbols A) (sym o.same_without) ∙ wordless_keeps B A ∙ t.symbols;
        count = ap (λ (n : ℕ). leb n 65536) (sym o.count) ∙ t.count;
        room =
            ap (λ (d : ℕ). has_room r'.form r'.count (size A) d (length r'.source) (length r'.background)) same_size
            ∙ sym (same_made (λ form n x y. has_room form n (size A) (size B) (length x) (length y)) r r' o) ∙ t.room;
      })

  -- neither raises an exception
  none : exceptions A B r.count (readings A B r.source) ≡ 0
  none = sym ((kept r).count A B types quiet.done) ∙ quiet.count

  none' : exceptions A B' r'.count (readings A B' r'.source) ≡ 0
  none' =
      exceptions_alike A B A B' refl same_size same_match r'.count (readings A B' r'.source)
      ∙ ap (exceptions A B r'.count) (readings_alike A B A B' refl same_size same_match r'.source)
      ∙ sym (same_made (λ form n x y. exceptions A B n (readings A B x)) r r' o) ∙ none

  r_done : answer r ≡ Done 0
  r_done = answer_is r A B r_passes ∙ quiet_handled A B r.handling r.count (readings A B r.source) none

  r'_done : answer r' ≡ Done 0
  r'_done = answer_is r' A B' r'_passes ∙ quiet_handled A B' r'.handling r'.count (readings A B' r'.source) none'

  same_result : (form : Form) (n : ℕ) (x y : List ℕ) → result form A B n x y ≡ result form A B' n x y
  same_result copying n x y = sym (copy_alike A B A B' refl same_size same_match n x y)
  same_result in_place n x y = sym (in_place_alike A B A B' refl same_size same_match n x y)

  without_effect : WithoutEffect r r'
  without_effect =
      record {
        answers = r_done ∙ sym r'_done;
        leaves =
            after_is r A B r_passes 0 r_done ∙ same_made (λ form n x y. result form A B n x y) r r' o
            ∙ same_result r'.form r'.count r'.source r'.background ∙ sym (after_is r' A B' r'_passes 0 r'_done);
      }

-- Where A to B raises no exception, no word in B can stop it, and its handling shows in nothing.
pub whatever_first : WhateverFirst
whatever_first r r' o quiet =
    ⊎_elim (λ (x : (a : Answer) × (checks r ≡ refused a)). absurd (not_early (inl quiet.done) (refused_before r x.0 x.1)))
    (λ (x : (S : Datatype) × (D : Datatype) × (checks r ≡ passed S D)). without_effect x.0 r r' o (passed_tells r x.0 x.1 x.2).source quiet)
    (refused_or_passed (checks r))

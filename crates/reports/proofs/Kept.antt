-- What no call changes: the lengths of what it is lent, and what stands behind its text. Assumes nothing.
use mathlib.Core.Path.{◌≡◌, refl, ap, ◌∙◌}
use mathlib.Core.Logic.{⊎_elim}
use Prim.Native.Nat.{◌≤◌}
use native.Mathlib.Omega.{arith}
use lib.Dec.{leb}
use lib.ListN.{length, drop, length-append, length-drop}
use lib.Seq.{drop_at}
use borrow.Author.Tests.{leb-true}
use Rattle.answer.specs.declared.Answer.{Answer}
use Rattle.answer.specs.Answer.{values_of}
use Rattle.datatype.specs.Datatype.{Datatype, size}
use Rattle.datatype.proofs.Tests.{and_true}
use Rattle.records.proofs.Results.{in_place_length}
use Rattle.runs.specs.Run.{has_room}
use Rattle.runs.specs.Run.Form.{in_place}
use Rattle.runs.specs.Run.Checked.{refused, passed}
use Rattle.runs.proofs.Checks.{refused_or_passed, room_in_place}
use Rattle.channels.specs.Report.{words}
use Rattle.channels.proofs.Added.{holding_length}
use Rattle.reports.specs.Call.{Call, width, report_of, text, checks, answer, log_after, memory_after, output_after}
use Rattle.reports.proofs.Checks.{answer_is, log_refused, memory_refused, output_refused, passed_tells, log_is, memory_is, output_is, source_formed_lem, reader_formed_lem, has_room_lem, background_room_lem, report_length}

-- ---- a call that passes

module _ (c : Call) (S D : Datatype) (e : checks c ≡ passed S D) where
  passed_log : length (log_after c) ≡ length c.log
  passed_log =
      let room = room_in_place c.count (size S) (size D) (length c.log) (length c.background) (has_room_lem c S D e) in
      ap length (log_is c S D e)
      ∙ in_place_length S D (source_formed_lem c S D e) (reader_formed_lem c S D e) c.count c.log c.background (background_room_lem c S D e) room.0 room.1

  pub memory_room : words (width D) ≤ length c.memory
  memory_room =
      leb-true (words (width D)) (length c.memory)
      (and_true (has_room in_place c.count (size S) (size D) (length c.log) (length c.background)) (leb (words (width D)) (length c.memory))
      (passed_tells c S D e).room).1

  passed_memory : length (memory_after c) ≡ length c.memory
  passed_memory = ap length (memory_is c S D e) ∙ holding_length (width D) (report_of c S D) c.memory (report_length c S D e) memory_room

  pub text_room : length (text c S D) ≤ length c.output
  text_room = leb-true (length (text c S D)) (length c.output) (passed_tells c S D e).output

  passed_output : length (output_after c) ≡ length c.output
  passed_output = ap length (output_is c S D e) ∙ rw (length-append, length-drop) (let h = text_room in omega arith)

  -- bytes behind the text
  pub behind_text_lem : drop (values_of (answer c)).count (output_after c) ≡ drop (values_of (answer c)).count c.output
  behind_text_lem =
      rw (answer_is c S D e, output_is c S D e) (drop_at (text c S D) (drop (length (text c S D)) c.output) (length (text c S D)) refl)

-- ---- any call

module _ (c : Call) where
  pub log_length_lem : length (log_after c) ≡ length c.log
  log_length_lem =
      ⊎_elim (λ (x : (a : Answer) × (checks c ≡ refused a)). ap length (log_refused c x.0 x.1))
      (λ (x : (S : Datatype) × (D : Datatype) × (checks c ≡ passed S D)). passed_log c x.0 x.1 x.2) (refused_or_passed (checks c))

  pub memory_length_lem : length (memory_after c) ≡ length c.memory
  memory_length_lem =
      ⊎_elim (λ (x : (a : Answer) × (checks c ≡ refused a)). ap length (memory_refused c x.0 x.1))
      (λ (x : (S : Datatype) × (D : Datatype) × (checks c ≡ passed S D)). passed_memory c x.0 x.1 x.2) (refused_or_passed (checks c))

  pub output_length_lem : length (output_after c) ≡ length c.output
  output_length_lem =
      ⊎_elim (λ (x : (a : Answer) × (checks c ≡ refused a)). ap length (output_refused c x.0 x.1))
      (λ (x : (S : Datatype) × (D : Datatype) × (checks c ≡ passed S D)). passed_output c x.0 x.1 x.2) (refused_or_passed (checks c))

  pub output_behind : drop (values_of (answer c)).count (output_after c) ≡ drop (values_of (answer c)).count c.output
  output_behind =
      ⊎_elim (λ (x : (a : Answer) × (checks c ≡ refused a)). ap (drop (values_of (answer c)).count) (output_refused c x.0 x.1))
      (λ (x : (S : Datatype) × (D : Datatype) × (checks c ≡ passed S D)). behind_text_lem c x.0 x.1 x.2) (refused_or_passed (checks c))

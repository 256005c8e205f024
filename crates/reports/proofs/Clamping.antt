-- "Each log is converted by the .. in-place form and its exceptions are added up", with handling 0 and to the reader's type without its words, for the report "still
-- clamps everything"; and that form on the reader's sheet itself, where no word stops it. Of a call that is done. Assumes nothing.
use mathlib.Core.Path.{◌≡◌, refl, sym, ap, ◌∙◌}
use mathlib.Core.Logic.{⊎_elim}
use Prim.Native.Nat.{ℕ}
use lib.IntN.{pos, ◌+ℤ◌}
use Rattle.answer.specs.declared.Answer.TheVariants.{Done}
use Rattle.answer.specs.Answer.{number_of, values_of}
use Rattle.datatype.specs.Datatype.{Datatype}
use Rattle.datatype.specs.Handling.{wordless}
use Rattle.records.specs.Records.{readings, exceptions}
use Rattle.runs.specs.Run as runs
use Rattle.runs.specs.Run.Form.{in_place}
use Rattle.runs.specs.Run.Checked.{passed}
use Rattle.runs.proofs.Checks as run-checks
use Rattle.runs.proofs.Buffers as run-buffers
use Rattle.runs.proofs.Exceptions.{handled_number, handled_count}
use Rattle.runs.proofs.Words.{clamps_all, clamped_in_place}
use Rattle.reports.specs.Call.{Call, width, held_before, report_of, checks, log_after, memory_after}
use Rattle.reports.specs.Parts.{clamping_run}
use Rattle.reports.proofs.Checks.{passed_tells, has_room_lem, log_is, held_after_lem}
use Rattle.channels.specs.Report.{Report, held_in}

module _ (c : Call) (S D : Datatype) (e : checks c ≡ passed S D) where
  run_passes : runs.checks (clamping_run c) ≡ passed S D
  run_passes =
      let w = passed_tells c S D e in
      run-checks.tells_passed (clamping_run c) S D
      (record {
        handling = refl;
        table = w.table;
        source = w.types.source;
        destination = w.types.reader;
        path = w.path;
        symbols = w.symbols;
        count = w.count;
        room = has_room_lem c S D e;
      })

  -- to the reader's type without its words it is done, with the exceptions that the call adds
  pub clamped_answer : runs.answer_for (clamping_run c) S (wordless D) ≡ Done (exceptions S D c.count (readings S D c.log))
  clamped_answer = clamps_all S D c.count c.log

  pub clamped_log : runs.result in_place S (wordless D) c.count c.log c.background ≡ log_after c
  clamped_log = clamped_in_place S D c.count c.log c.background ∙ sym (log_is c S D e)

  -- and to the reader's type itself, unless a word stops it
  module _ (not_stopped : ¬ (number_of (runs.answer (clamping_run c)) ≡ 8)) where
    pub run_answer : runs.answer (clamping_run c) ≡ Done (exceptions S D c.count (readings S D c.log))
    run_answer =
        let is : runs.answer (clamping_run c) ≡ runs.answer_for (clamping_run c) S D = run-buffers.answer_is (clamping_run c) S D run_passes in
        ⊎_elim
        (λ (z : number_of (runs.answer_for (clamping_run c) S D) ≡ 0).
        let d = run-checks.done_is (runs.answer_for (clamping_run c) S D) z in
        is ∙ d
        ∙ ap Done (handled_count S D 0 c.count (readings S D c.log) (values_of (runs.answer_for (clamping_run c) S D)).count d))
        (λ (z : number_of (runs.answer_for (clamping_run c) S D) ≡ 8). absurd (not_stopped (ap number_of is ∙ z)))
        (handled_number S D 0 c.count (readings S D c.log))

    pub run_log : runs.after (clamping_run c) ≡ log_after c
    run_log = run-buffers.after_is (clamping_run c) S D run_passes (exceptions S D c.count (readings S D c.log)) run_answer ∙ sym (log_is c S D e)

  pub run_exceptions : (held_in (width D) (memory_after c)).exceptions ≡ (held_before c D).exceptions +ℤ pos (exceptions S D c.count (readings S D c.log))
  unfolding report_of
  run_exceptions = ap (λ (s : Report). s.exceptions) (held_after_lem c S D e)

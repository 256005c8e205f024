-- What a call of the report leaves as it was. Assumes nothing.
use mathlib.Core.Path.{◌≡◌, refl, ap, ◌∙◌}
use mathlib.Core.Logic.{◌⊎◌, inl, inr, ⊎_elim}
use Prim.Native.Nat.{ℕ, ◌≤◌, ◌<◌}
use native.Mathlib.Decide.{dec_lt}
use native.Mathlib.Omega.{arith}
use lib.ListN.{length, take, drop}
use Rattle.answer.specs.declared.Answer.{Answer}
use Rattle.answer.specs.Answer.{number_of}
use Rattle.datatype.specs.Datatype.{Datatype}
use Rattle.records.specs.Records.{readings, in_place_result}
use Rattle.records.proofs.Results.{in_place_none}
use Rattle.runs.specs.Run.{cleared}
use Rattle.runs.specs.Run.Checked.{refused, passed}
use Rattle.runs.specs.Refusals.First.{here}
use Rattle.runs.proofs.Checks.{refused_or_passed}
use Rattle.runs.proofs.Table.{table_cases, cleared_zero, cleared_beyond, cleared_length}
use Rattle.channels.specs.Channels.{channels}
use Rattle.channels.specs.Report.{Report, added, held_in, holding}
use Rattle.channels.proofs.Added.{added_none, held_again, held_length}
use Rattle.reports.specs.Call.{Call, width, report_of, checks, answer, log_after, memory_after}
use Rattle.reports.specs.Parts.{answer_number, IsDone}
use Rattle.reports.proofs.Checks.{answer_is, log_refused, memory_refused, output_refused, done_passes, log_is, memory_is}
use Rattle.reports.proofs.Kept.{log_length_lem, memory_length_lem, output_length_lem, output_behind, memory_room}
use Rattle.report_promises.specs.Kept.{Unchanged, table_of, TableKept, Kept}
use Rattle.report_promises.specs.Demand1.{Row, number}
use Rattle.report_promises.specs.Demand1.Row.{TABLE, SOURCE, DESTINATION, CHANNEL, PATH, SYMBOLS, COUNT, ROOM, FULL, OUTPUT}
use Rattle.report_promises.proofs.Demand1.{demand_1}

-- ---- refusals

pub refused_unchanged : (c : Call) (a : Answer) → checks c ≡ refused a → Unchanged c
refused_unchanged c a p = record { log = log_refused c a p; memory = memory_refused c a p; output = output_refused c a p }

unchanged : (c : Call) → ¬ (IsDone c) → Unchanged c
unchanged c n =
    ⊎_elim (λ (x : (a : Answer) × (checks c ≡ refused a)). refused_unchanged c x.0 x.1)
    (λ (x : (S : Datatype) × (D : Datatype) × (checks c ≡ passed S D)). absurd (n (ap number_of (answer_is c x.0 x.1 x.2)))) (refused_or_passed (checks c))

-- ---- no record: what is held is put back

module _ (c : Call) (z : c.count ≡ 0) (S D : Datatype) (p : checks c ≡ passed S D) where
  none_log : log_after c ≡ c.log
  none_log = log_is c S D p ∙ ap (λ (n : ℕ). in_place_result S D n c.log c.background) z ∙ in_place_none S D c.log c.background

  none_report : report_of c S D ≡ held_in (width D) c.memory
  unfolding report_of
  none_report =
      ap (λ (n : ℕ). added S D n (readings S D c.log) (channels D) (held_in (width D) c.memory)) z
      ∙ added_none S D (readings S D c.log) (channels D) (held_in (width D) c.memory) (held_length c.memory 2 (width D))

  none_memory : memory_after c ≡ c.memory
  none_memory = memory_is c S D p ∙ ap (λ (s : Report). holding (width D) s c.memory) none_report ∙ held_again c.memory (width D) (memory_room c S D p)

-- ---- the table

module _ (c : Call) where
  no_row : (row : Row) → ¬ (number row ≡ 1)
  no_row TABLE e = omega (arith, e)
  no_row SOURCE e = omega (arith, e)
  no_row DESTINATION e = omega (arith, e)
  no_row CHANNEL e = omega (arith, e)
  no_row PATH e = omega (arith, e)
  no_row SYMBOLS e = omega (arith, e)
  no_row COUNT e = omega (arith, e)
  no_row ROOM e = omega (arith, e)
  no_row FULL e = omega (arith, e)
  no_row OUTPUT e = omega (arith, e)

  -- there is no check 1
  not_one : ¬ (answer_number c ≡ 1)
  not_one e = let x = ((demand_1 c).refused 1 (omega arith)).0 e in no_row x.0 x.1

  short_table : length c.table < 8192 → answer_number c ≡ 2
  short_table l = ((demand_1 c).refused 2 (omega arith)).1 (TABLE, refl, here l)

  table_cases_of : ((answer_number c ≡ 2) × (table_of c ≡ c.table)) ⊎ (¬ (answer_number c ≡ 2) × (table_of c ≡ cleared c.table))
  table_cases_of = at (table_cases (answer c) c.table)
    where
      not_two : (answer_number c ≡ 0) ⊎ (3 ≤ answer_number c) → ¬ (answer_number c ≡ 2)
      not_two (inl z) e = omega (arith, z, e)
      not_two (inr l) e = omega (arith, l, e)

      at : (((answer_number c ≡ 1) ⊎ (answer_number c ≡ 2)) × (table_of c ≡ c.table)) ⊎ (((answer_number c ≡ 0) ⊎ (3 ≤ answer_number c)) × (table_of c ≡ cleared c.table))
          → ((answer_number c ≡ 2) × (table_of c ≡ c.table)) ⊎ (¬ (answer_number c ≡ 2) × (table_of c ≡ cleared c.table))
      at (inl (inl e, t)) = absurd (not_one e)
      at (inl (inr e, t)) = inl (e, t)
      at (inr (n, t)) = inr (not_two n, t)

  long_table : ¬ (answer_number c ≡ 2) → 8192 ≤ length c.table
  long_table n = at (dec_lt (length c.table) 8192)
    where
      at : Dec (length c.table < 8192) → 8192 ≤ length c.table
      at (yes l) = absurd (n (short_table l))
      at (no g) = omega arith

  table_kept : TableKept c
  table_kept =
      ⊎_elim
      (λ (x : (answer_number c ≡ 2) × (table_of c ≡ c.table)).
      record { unchanged = λ e. x.1; zero = λ n. absurd (n x.0); beyond = ap (drop 8192) x.1; lengths = ap length x.1 })
      (λ (x : ¬ (answer_number c ≡ 2) × (table_of c ≡ cleared c.table)).
      record {
        unchanged = λ e. absurd (x.0 e);
        zero = λ n. ap (take 8192) x.1 ∙ cleared_zero c.table;
        beyond = ap (drop 8192) x.1 ∙ cleared_beyond c.table;
        lengths = ap length x.1 ∙ cleared_length c.table (long_table x.0);
      })
      table_cases_of

-- ---- the promise

-- "After any refusal the report is unchanged." No length changes, nothing behind the text does, and no records add nothing.
pub kept : (c : Call) → Kept c
kept c =
    record {
      refusals = unchanged c;
      log_length = log_length_lem c;
      memory_length = memory_length_lem c;
      output_length = output_length_lem c;
      behind_text = output_behind c;
      nothing = λ z d. let x = done_passes c d in (none_log c z x.0 x.1 x.2, none_memory c z x.0 x.1 x.2);
      table = table_kept c;
    }

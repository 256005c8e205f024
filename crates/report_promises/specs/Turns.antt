-- Document 02, 2026-01: what a call of the report can turn on.
use Rattle.std.specs.Prelude.{◌≡◌, ◌⊎◌, List, ℕ, length}
use Rattle.datatype.specs.Datatype.{Datatype}
use Rattle.records.specs.Matched.{Agree}
use Rattle.runs.specs.Run.Form.{in_place}
use Rattle.runs.specs.Parts.{converted_bytes, cleared_tail}
use Rattle.reports.specs.Call.{Call, answer, log_after, memory_after}
use Rattle.reports.specs.Parts.{IsDone, written, Types, background_records}
use Rattle.report_promises.specs.Kept.{Unchanged}

-- Two calls with the same sheets, count, lent lengths and memory at entry. What log, background, output and table hold may differ.
pub record SameCall (c e : Call) : Type 0 where
  pub source_sheet : c.source_sheet ≡ e.source_sheet
  pub reader_sheet : c.reader_sheet ≡ e.reader_sheet
  pub count : c.count ≡ e.count
  pub log : length c.log ≡ length e.log
  pub background : length c.background ≡ length e.background
  pub memory : c.memory ≡ e.memory
  pub output : length c.output ≡ length e.output
  pub table : length c.table ≡ length e.table

-- the same answer, and the same report: every word of the memory, and the text
pub record SameReport (c e : Call) : Type 0 where
  pub answer : answer c ≡ answer e
  pub memory : memory_after c ≡ memory_after e
  pub text : written c ≡ written e

-- the log that is left is the same: the same converted bytes, and the same cleared tail
pub record SameLogLeft (S D : Datatype) (c e : Call) : Type 0 where
  pub converted : converted_bytes D c.count (log_after c) ≡ converted_bytes D e.count (log_after e)
  pub cleared : cleared_tail in_place S D c.count (log_after c) ≡ cleared_tail in_place S D e.count (log_after e)

-- the call with another output
abbrev pub with_output : Call → List ℕ → Call
with_output c output =
    record {
      source_sheet = c.source_sheet;
      reader_sheet = c.reader_sheet;
      count = c.count;
      log = c.log;
      background = c.background;
      memory = c.memory;
      output = output;
      table = c.table;
    }

-- a check before the last one, "7 for the output", refuses: whatever output is lent, the call is not done
abbrev pub RefusedBeforeOutput : Call → Type 0
RefusedBeforeOutput c = (output : List ℕ) → ¬ (IsDone (with_output c output))

-- of two calls with the same sheets, count, lent lengths and memory at entry
pub record TurnsOn (c e : Call) : Type 0 where
  -- "agree on every matched number": nothing else shows in the report. Pad bits, gaps, unmatched members, all of the background and what the table held are free
  pub same : (S D : Datatype) → Types c S D → Agree S D c.count c.log e.log → SameReport c e
  -- and over the same background, nothing else shows in the log that is left
  pub same_log : (S D : Datatype) → Types c S D → Agree S D c.count c.log e.log → background_records c ≡ background_records e → IsDone c → SameLogLeft S D c e
  -- where a check before the last one refuses either call, logs and backgrounds may differ freely, the answers are equal, and nothing but the table changes
  pub refused : RefusedBeforeOutput c ⊎ RefusedBeforeOutput e → (answer c ≡ answer e) × Unchanged c × Unchanged e

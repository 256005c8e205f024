-- Document 02, 2026-01: what a call of the report leaves as it was.
use Rattle.std.specs.Prelude.{◌≡◌, List, ℕ, length, take, drop, replicate}
use Rattle.answer.specs.Answer.{values_of}
use Rattle.runs.specs.Run.{table_after}
use Rattle.reports.specs.Call.{Call, answer, log_after, memory_after, output_after}
use Rattle.reports.specs.Parts.{answer_number, IsDone}

-- "After any refusal the report is unchanged", and so are log and output
pub record Unchanged (c : Call) : Type 0 where
  pub log : log_after c ≡ c.log
  pub memory : memory_after c ≡ c.memory
  pub output : output_after c ≡ c.output

-- the working table after the call
abbrev pub table_of : Call → List ℕ
table_of c = table_after (answer c) c.table

pub record TableKept (c : Call) : Type 0 where
  -- "after 1 and 2 the table too" is unchanged; there is no check 1
  pub unchanged : answer_number c ≡ 2 → table_of c ≡ c.table
  -- "Its first 8,192 words are zero after every call that passes check 2"
  pub zero : ¬ (answer_number c ≡ 2) → take 8192 (table_of c) ≡ replicate 8192 0
  -- "words beyond never change"
  pub beyond : drop 8192 (table_of c) ≡ drop 8192 c.table
  pub lengths : length (table_of c) ≡ length c.table

pub record Kept (c : Call) : Type 0 where
  pub refusals : ¬ (IsDone c) → Unchanged c
  -- no buffer's length changes
  pub log_length : length (log_after c) ≡ length c.log
  pub memory_length : length (memory_after c) ≡ length c.memory
  pub output_length : length (output_after c) ≡ length c.output
  -- bytes behind the text that was written are as they were; of words behind the report's, see what it says
  pub behind_text : drop (values_of (answer c)).count (output_after c) ≡ drop (values_of (answer c)).count c.output
  -- "n = 0, if no check refuses, is done": it adds nothing, and the output is written
  pub nothing : c.count ≡ 0 → IsDone c → (log_after c ≡ c.log) × (memory_after c ≡ c.memory)
  pub table : TableKept c

-- Document 02, 2026-06: what a call that compares two logs leaves as it was. "Neither buffer is written": what is left of a call is its answer, its list and its
-- table (crate differences, `Compares`).
use Rattle.std.specs.Prelude.{◌≡◌, List, ℕ, length, take, drop, replicate}
use Rattle.datatype.specs.Datatype.{Datatype}
use Rattle.sheet.specs.Sheet.{sheet_of}
use Rattle.sheet.specs.Sheet.Sheet.{of_type}
use Rattle.runs.specs.Run.{table_after}
use Rattle.differences.specs.Differences.{differences, shown}
use Rattle.differences.specs.Call.{Call, answer, list_after}
use Rattle.difference_promises.specs.Demand1.{answer_number, answer_fields}

abbrev pub IsDone : Call → Type 0
IsDone c = answer_number c ≡ 0

-- "done carries each output's length in place of the count"; 0 beside a refusal
abbrev pub list_length : Call → ℕ
list_length c = (answer_fields c).count

-- the first sheet is of type S, the second of type D
pub record Types (c : Call) (S D : Datatype) : Type 0 where
  pub first : sheet_of c.first_sheet ≡ of_type S
  pub second : sheet_of c.second_sheet ≡ of_type D

-- the working table after the call
abbrev pub table_of : Call → List ℕ
table_of c = table_after (answer c) c.table

pub record TableKept (c : Call) : Type 0 where
  -- "after 1 and 2 the table too" is unchanged; there is no check 1
  pub unchanged : answer_number c ≡ 2 → table_of c ≡ c.table
  -- "Its first 8,192 words are zero after every call that passes check 2"
  pub zero : ¬ (answer_number c ≡ 2) → take 8192 (table_of c) ≡ replicate 8192 0
  -- "words beyond never change"
  pub beyond : drop 8192 (table_of c) ≡ drop 8192 c.table
  pub lengths : length (table_of c) ≡ length c.table

pub record Kept (c : Call) : Type 0 where
  -- "the list buffer is then unchanged"
  pub refusals : ¬ (IsDone c) → list_after c ≡ c.list
  -- done: the list is at the buffer's start, as long as the answer says
  pub list : (S D : Datatype) → Types c S D → IsDone c
      → take (list_length c) (list_after c) ≡ shown (differences S D c.count c.first c.second)
  -- the bytes behind it are as they were
  pub behind : drop (list_length c) (list_after c) ≡ drop (list_length c) c.list
  pub lengths : length (list_after c) ≡ length c.list
  pub table : TableKept c

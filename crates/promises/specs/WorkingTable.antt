-- Demand 2, what a call leaves, continued: what the working table, which the caller lends, holds after a call.
use Rattle.std.specs.Prelude.{◌≡◌, ◌⊎◌, List, ℕ, ◌≤◌, length, take, drop, replicate}
use Rattle.runs.specs.Run.{Run, answer, table_after}
use Rattle.promises.specs.Runs.{answer_number}

-- the table after the call
abbrev pub table : Run → List ℕ
table r = table_after (answer r) r.table

pub record TableKept (r : Run) : Type 0 where
  -- "after 1 and 2 the table too" is unchanged
  pub unchanged : (answer_number r ≡ 1) ⊎ (answer_number r ≡ 2) → table r ≡ r.table
  -- "Its first 8,192 words are zero after every call that passes check 2"
  pub zero : (answer_number r ≡ 0) ⊎ (3 ≤ answer_number r) → take 8192 (table r) ≡ replicate 8192 0
  -- "words beyond never change"
  pub beyond : drop 8192 (table r) ≡ drop 8192 r.table
  pub lengths : length (table r) ≡ length r.table

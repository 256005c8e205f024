-- Demand 3: what the result of a call turns on. Of two calls that are alike but for what the lent buffers hold: the same matched numbers over the same background
-- give the same answer and bytes; other matched numbers give other bytes, where nothing raises an exception. Last, the same by bits.
use Rattle.std.specs.Prelude.{◌≡◌, ◌⊎◌, ◌*◌, length, take}
use Rattle.datatype.specs.Datatype.{Datatype, size}
use Rattle.records.specs.Matched.{Agree, Differ, SignificantBit, bit_in, SameSignificantBits}
use Rattle.runs.specs.Run.{Run, after}
use Rattle.runs.specs.Parts.{cleared_tail}
use Rattle.promises.specs.Runs.{SameAnswer, IsDone, DoneWithoutException, RefusedBeforeStop, Types, SameConverted}

-- ---- two runs

-- Two runs of one form with the same sheets, count, handling and lent lengths. "what the table held may differ", and so may what the buffers hold.
pub record SameCall (r q : Run) : Type 0 where
  pub form : r.form ≡ q.form
  pub handling : r.handling ≡ q.handling
  pub source_sheet : r.source_sheet ≡ q.source_sheet
  pub destination_sheet : r.destination_sheet ≡ q.destination_sheet
  pub count : r.count ≡ q.count
  pub source_length : length r.source ≡ length q.source
  pub background_length : length r.background ≡ length q.background
  pub table_length : length r.table ≡ length q.table

-- "Their backgrounds are the same if bytes 0 to nD − 1 are."
abbrev pub SameBackground : Datatype → Run → Run → Type 0
SameBackground D r q = take (r.count * size D) r.background ≡ take (q.count * size D) q.background

abbrev pub SameCleared : Datatype → Datatype → Run → Run → Type 0
SameCleared S D r q = cleared_tail r.form S D r.count (after r) ≡ cleared_tail q.form S D q.count (after q)

-- the same answer, and if done the same converted bytes and the same cleared tail
pub record SameEffect (S D : Datatype) (r q : Run) : Type 0 where
  pub answers : SameAnswer r q
  pub converted : IsDone r → SameConverted D r q
  pub cleared : IsDone r → SameCleared S D r q

-- ---- demand 3

pub record Demand3 (r q : Run) : Type 0 where
  -- "agree on every matched number", over the same background: nothing else of the source shows. Pad bits, gaps, unmatched members and the bytes behind the
  -- source records and behind the background's nD are free
  pub same : (S D : Datatype) → Types r S D → Agree S D r.count r.source q.source → SameBackground D r q → SameEffect S D r q
  -- "done without an exception" in both, and some matched number is different: the converted bytes are different
  pub different : (S D : Datatype) → Types r S D → DoneWithoutException r → DoneWithoutException q → Differ S D r.count r.source q.source
      → ¬ (SameConverted D r q)
  -- "Where a check before STOP refuses either run, source bytes and background may differ freely, and the answers are still equal."
  pub refused : RefusedBeforeStop r ⊎ RefusedBeforeStop q → SameAnswer r q

-- ---- the same by bits

-- which bits of the source records a call can turn on (crate records, `SignificantBit`).
pub record OnSignificantBits (S D : Datatype) (r q : Run) : Type 0 where
  -- they are enough
  pub enough : SameSignificantBits S D r.count r.source q.source → SameBackground D r q → SameEffect S D r q
  -- and each of them shows, where no exception is raised
  pub each : DoneWithoutException r → DoneWithoutException q → (s : SignificantBit S D r.count) → ¬ (bit_in s r.source ≡ bit_in s q.source)
      → ¬ (SameConverted D r q)

-- Document 01, "Numbers of refusal": what STOP names.
use Rattle.std.specs.Prelude.{◌≡◌, ℕ, ◌≤◌, ◌<◌}
use Rattle.answer.specs.declared.Given.{Given}
use Rattle.datatype.specs.Datatype.{Datatype, size}
use Rattle.datatype.specs.Handling.{stop, handling_at}
use Rattle.records.specs.Record.{kind_at, given_at}
use Rattle.records.specs.Records.{Readings}

-- document 02, 2026-12: "STOP is given exactly when a leaf that obeys stop raises, and names the first such leaf". In a call with handling h, no leaf of record j that
-- starts below byte m does both
abbrev pub NoneStops : ℕ → Datatype → Datatype → Readings → ℕ → ℕ → Type 0
NoneStops h S D fs j m = (c : ℕ) → c < m → handling_at h D c ≡ stop → kind_at S D (fs j) c ≡ 0

-- "STOP names the lowest record, and in it the raising leaf whose first byte is lowest": of n records, the leaf at byte b of record i obeys stop and raises, and none
-- of an earlier record does, nor one at a lower byte of record i; its kind is k; the number that was given to it is g
pub record FirstException (h : ℕ) (S D : Datatype) (n : ℕ) (fs : Readings) (i b k : ℕ) (g : Given) : Type 0 where
  pub in_records_lem : i < n
  pub in_bytes : b < size D
  pub obeys : handling_at h D b ≡ stop
  pub kind : kind_at S D (fs i) b ≡ k
  pub raises : 1 ≤ k
  pub given : given_at S D (fs i) b ≡ g
  pub no_earlier_record : (j : ℕ) → j < i → NoneStops h S D fs j (size D)
  pub no_lower_byte : NoneStops h S D fs i b

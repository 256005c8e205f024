-- What follows where the staged records of the second log stood the conversion. Assumes nothing.
use mathlib.Core.Path.{◌≡◌, refl, sym, ap, ◌∙◌}
use mathlib.Core.Bool.{Bool, true, false, false≢true}
use mathlib.Core.List.{List, [], ◌++◌}
use Prim.Native.Nat.{ℕ, ◌*◌, ◌≤◌, ◌<◌}
use native.Mathlib.Omega.{arith}
use lib.ListN.{length, take, drop, length-append}
use lib.Seq.{take_at, length-take-le}
use Rattle.datatype.specs.Datatype.{Datatype, size, same}
use Rattle.datatype.specs.WellFormed.{WellFormed}
use Rattle.datatype.proofs.Tests.{same→eq}
use Rattle.records.specs.Records.{record_at, readings, exceptions, copy_result}
use Rattle.differences.specs.Differences.{in_record}
use Rattle.differences.proofs.Alike.{records_alike}

module _ (S D : Datatype) (fs : WellFormed S) (fd : WellFormed D) (count : ℕ) (first second staging copied made : List ℕ) (raised : ℕ) where
  -- no record of s bytes of the first log has a difference from its record of d bytes of the second
  abbrev NoDifference : ℕ → ℕ → Type 0
  NoDifference s d = (i k : ℕ) → i < count → in_record S D k (record_at s i first) (record_at d i second) 0 (size D) ≡ []

  -- the second log's records, copied into staging, are there still, and nothing was raised
  abbrev Stood : ℕ → ℕ → Type 0
  Stood s d =
      count * d ≤ length second → copied ≡ take (count * d) second ++ drop (count * d) staging → made ≡ copy_result S D count first copied
      → raised ≡ exceptions S D count (readings S D first) → raised ≡ 0 → same (take (count * d) made) (take (count * d) second) ≡ true
      → NoDifference s d

  stood_sized : Stood (size S) (size D)
  stood_sized room c m x none e =
      let whole : length (take (count * size D) second) ≡ count * size D = length-take-le (count * size D) second room in
      let front : take (count * size D) copied ≡ take (count * size D) second
      = ap (take (count * size D)) c ∙ take_at (take (count * size D) second) (drop (count * size D) staging) (count * size D) whole in
      let space : count * size D ≤ length copied = rw (c, length-append) (omega (arith, whole)) in
      records_alike S D fs fd count first second copied room space front (sym x ∙ none)
      (ap (take (count * size D)) (sym m) ∙ same→eq (take (count * size D) made) (take (count * size D) second) e)

  -- s and d are the sizes
  pub stood : (s d : ℕ) → s ≡ size S → d ≡ size D → Stood s d
  stood s d e f = rw (e, f) stood_sized

-- false is not true
pub not_said : {A : Type 0} → false ≡ true → A
not_said e = absurd (false≢true e)

-- Bounds of what the loops over records count. Assumes nothing.
use mathlib.Core.List.{List}
use Prim.Native.Nat.{ℕ, zero, suc, ◌*◌, ◌≤◌}
use native.Mathlib.Omega.{arith}
use Rattle.datatype.specs.Datatype.{size}
use Rattle.datatype.proofs.Matches.{size_some}
use Rattle.records.specs.Records.{record_at, readings, exceptions}
use Rattle.plans.specs.PlanWords.{Job}
use Rattle.loops.proofs.Jobs.{raised_small}

module _ {s d : ℕ} {plan : List ℕ} {n : ℕ} {ws wd words : List ℕ} (j : Job s d plan n ws wd words) where
  pub source_some : 1 ≤ s
  source_some = rw j.source_size (size_some j.source j.source_formed)

  -- a record raises no more exceptions than it may have bytes
  pub all_most : (src : List ℕ) (i : ℕ) → exceptions j.source j.destination i (readings j.source j.destination src) ≤ 4096 * i
  unfolding exceptions
  all_most src zero = omega arith
  all_most src (suc i) = omega (arith, all_most src i, raised_small j (record_at (size j.source) i src))

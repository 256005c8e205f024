-- `one_record::first_raising` meets its contract. The loop's invariant: the first that raises is among the entries from i on. Assumes nothing.
use mathlib.Core.Path.{◌≡◌}
use Prim.Native.Nat.{ℕ, ◌-◌}
use lib.ListN.{length}
use Rattle.records.specs.Plan.{first_by}
use Rattle.plans.specs.PlanWords.{entries_from, Ready, entries_of}
use Rattle.one_record.proofs.first_raising.Given as goal

abbrev pub invariant-loop-i : goal.invariant-loop-i
invariant-loop-i l = (d : ℕ) (p : Ready (length l.src) d l.plan l.entries l.source_half l.destination_half l.words) → first_by (entries_of p) l.src ≡ first_by (entries_from l.plan l.source_half p.source_text l.destination_half p.destination_text l.i (l.entries - l.i)) l.src

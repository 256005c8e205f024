-- `one_record::write_record` meets its contract. The loop's invariant: what is left to write and to count, from entry i on. Assumes nothing.
use mathlib.Core.Path.{◌≡◌}
use Prim.Native.Nat.{◌≤◌}
use lib.ListN.{length}
use Rattle.plans.specs.PlanWords.{Ready}
use Rattle.plans.proofs.Entries.{Left}
use Rattle.one_record.proofs.write_record.Given as goal

abbrev pub invariant-loop-i : goal.invariant-loop-i
invariant-loop-i l = (length l.dst ≡ length l.initial.dst) × (l.raised ≤ l.i) × ((p : Ready (length l.src) (length l.initial.dst) l.plan l.entries l.source_half l.destination_half l.words) → Left p l.src l.initial.dst l.i l.dst l.raised)

-- `staged_blocks::replace_records` meets its contract. The invariant: the first j records of them are made; where there is a second block, the results lie behind the sources. Assumes nothing.
use mathlib.Core.Path.{◌≡◌}
use mathlib.Core.List.{List}
use Prim.Native.Nat.{ℕ, ◌-◌, ◌≤◌, ◌<◌}
use lib.ListN.{length}
use Rattle.plans.specs.PlanWords.{Ready}
use Rattle.column_slots.specs.Slots.{Kept}
use Rattle.symbol_slots.specs.Tables.{TablesKept, Columned}
use Rattle.staged_blocks.proofs.After.{Made}
use Rattle.staged_blocks.proofs.replace_records.Given as goal

abbrev pub invariant-loop-j : goal.invariant-loop-j
invariant-loop-j l = (l.j ≤ l.k) × (length l.buf ≡ length l.initial.buf) × (length l.staging ≡ length l.initial.staging) × (length l.slots ≡ length l.initial.slots) × (length l.narrow ≡ length l.initial.narrow) × (length l.wide ≡ length l.initial.wide) × Kept l.slots l.source_half l.destination_half
    × (1 ≤ l.j → l.j < l.k → l.at_once < l.k)
    × ((words : List ℕ) (p : Ready l.source_size l.destination_size l.plan l.entries l.source_half l.destination_half words) → Columned l.tables l.plan l.entries words → TablesKept l.tables l.source_half p.source_text l.destination_half p.destination_text → Made p l.initial.buf l.background l.i l.j l.buf l.raised)

abbrev pub decreases-loop-j : goal.decreases-loop-j
decreases-loop-j l = l.k - l.j

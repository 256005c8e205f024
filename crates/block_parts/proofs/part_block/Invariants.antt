-- `block_parts::part_block` meets its contract. The invariant: the first i records are written and counted. Assumes nothing.
use mathlib.Core.Path.{◌≡◌}
use mathlib.Core.List.{List}
use Prim.Native.Nat.{ℕ, ◌-◌, ◌≤◌}
use lib.ListN.{length}
use Rattle.plans.specs.PlanWords.{Ready, entries_of}
use Rattle.column_slots.specs.Slots.{Kept}
use Rattle.blocks.specs.Blocks.{each_of, raised_over}
use Rattle.symbol_slots.specs.Tables.{TablesKept, Columned}
use Rattle.block_parts.proofs.part_block.Given as goal

abbrev pub invariant-loop-i : goal.invariant-loop-i
invariant-loop-i l = (l.i ≤ l.count) × (length l.dst ≡ length l.initial.dst) × (length l.slots ≡ length l.initial.slots) × (length l.narrow ≡ length l.initial.narrow) × (length l.wide ≡ length l.initial.wide) × Kept l.slots l.source_half l.destination_half
    × ((words : List ℕ) (p : Ready l.source_size l.destination_size l.plan l.entries l.source_half l.destination_half words) → Columned l.tables l.plan l.entries words → TablesKept l.tables l.source_half p.source_text l.destination_half p.destination_text → (l.dst ≡ each_of (entries_of p) l.source_size l.destination_size l.src l.i l.initial.dst) × (l.raised ≡ raised_over (entries_of p) l.source_size l.src l.i))

abbrev pub decreases-loop-i : goal.decreases-loop-i
decreases-loop-i l = l.count - l.i

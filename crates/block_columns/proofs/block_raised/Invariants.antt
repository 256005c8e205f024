-- `block_columns::block_raised` meets its contract. The invariant: what is left to count, from entry i on. Assumes nothing.
use mathlib.Core.Path.{◌≡◌}
use mathlib.Core.List.{List}
use Prim.Native.Nat.{ℕ, ◌*◌, ◌-◌, ◌≤◌}
use lib.ListN.{length}
use Rattle.plans.specs.PlanWords.{Ready}
use Rattle.column_slots.specs.Slots.{Kept}
use Rattle.symbol_slots.specs.Tables.{TablesKept, Columned}
use Rattle.blocks.proofs.Over.{Counts}
use Rattle.block_columns.proofs.block_raised.Given as goal

abbrev pub invariant-loop-i : goal.invariant-loop-i
invariant-loop-i l = (length l.slots ≡ length l.initial.slots) × (length l.narrow ≡ length l.initial.narrow) × (length l.wide ≡ length l.initial.wide) × (l.raised ≤ l.i * 65536) × Kept l.slots l.source_half l.destination_half
    × ((d : ℕ) (words : List ℕ) (p : Ready l.source_size d l.plan l.entries l.source_half l.destination_half words) → Columned l.tables l.plan l.entries words → TablesKept l.tables l.source_half p.source_text l.destination_half p.destination_text → Counts p l.src l.count l.i l.raised)

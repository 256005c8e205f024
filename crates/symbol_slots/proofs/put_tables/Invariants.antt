-- `symbol_slots::put_tables` meets its contract. The invariant: the tables are right, and the first i entries have columns. Assumes nothing.
use mathlib.Core.Path.{◌≡◌}
use Prim.Native.Nat.{ℕ, ◌-◌, ◌≤◌}
use lib.ListN.{length}
use Rattle.plans.specs.PlanWords.{Ready}
use Rattle.symbol_slots.specs.Tables.{TablesKept, Columned}
use Rattle.symbol_slots.proofs.put_tables.Given as goal

abbrev pub invariant-loop-i : goal.invariant-loop-i
invariant-loop-i l = (length l.tables ≡ length l.initial.tables) × Columned l.tables l.plan l.i l.words
    × ((s d : ℕ) (p : Ready s d l.plan l.entries l.source_half l.destination_half l.words) → TablesKept l.tables l.source_half p.source_text l.destination_half p.destination_text)

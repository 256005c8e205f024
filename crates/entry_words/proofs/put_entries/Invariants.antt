-- `entry_words::put_entries` meets its contract. The loop's invariant: the words of the entries before i stand, with their spans before `free`. Assumes nothing.
use mathlib.Core.Path.{◌≡◌}
use Prim.Native.Nat.{◌≤◌}
use lib.ListN.{length}
use Rattle.plans.specs.PlanWords.{words_place}
use Rattle.plans.specs.Spans.{AllStanding}
use Rattle.entry_words.proofs.put_entries.Given as goal

abbrev pub invariant-loop-i : goal.invariant-loop-i
invariant-loop-i l = (words_place l.entries ≤ l.free) × (l.free ≤ length l.words) × (length l.words ≡ length l.initial.words) × (length l.last ≡ 64) × AllStanding l.words l.plan l.i (words_place l.entries) l.free l.source_half l.source_sheet l.destination_half l.destination_sheet

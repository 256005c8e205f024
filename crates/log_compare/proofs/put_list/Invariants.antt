-- `log_compare::put_list` meets its contract. The loop's invariant: behind the header, the lines of the records before k are written. Assumes nothing.
use mathlib.Core.Path.{◌≡◌}
use Prim.Native.Nat.{◌-◌, ◌≤◌}
use lib.ListN.{length}
use Rattle.text.specs.Written.{Wrote}
use Rattle.comparing.specs.Comparing.{TwoLogs, text_between}
use Rattle.log_compare.proofs.put_list.Given as goal

abbrev pub invariant-loop-k : goal.invariant-loop-k
invariant-loop-k l = (l.k ≤ l.count) × (length l.staging ≡ 4096)
    × ((g : TwoLogs l.x (length l.first) (length l.second) l.first_sheet l.first_half l.second_sheet l.second_half l.plan l.words) → Wrote l.initial.list l.initial.at (text_between g l.first l.second 0 l.k) l.list l.at)

abbrev pub decreases-loop-k : goal.decreases-loop-k
decreases-loop-k l = l.count - l.k

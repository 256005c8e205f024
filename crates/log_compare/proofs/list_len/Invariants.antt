-- `log_compare::list_len` meets its contract. The loop's invariant: the header and the lines of the records before i have len bytes. Assumes nothing.
use mathlib.Core.Path.{◌≡◌}
use Prim.Native.Nat.{◌+◌, ◌-◌, ◌*◌, ◌≤◌}
use lib.ListN.{length}
use Rattle.comparing.specs.Comparing.{TwoLogs, text_between}
use Rattle.log_compare.proofs.list_len.Given as goal

abbrev pub invariant-loop-i : goal.invariant-loop-i
invariant-loop-i l = (l.i ≤ l.count) × (length l.staging ≡ 4096) × (l.len ≤ 23 + 344064 * l.i)
    × ((g : TwoLogs l.x (length l.first) (length l.second) l.first_sheet l.first_half l.second_sheet l.second_half l.plan l.words) → l.len ≡ 23 + length (text_between g l.first l.second 0 l.i))

abbrev pub decreases-loop-i : goal.decreases-loop-i
decreases-loop-i l = l.count - l.i

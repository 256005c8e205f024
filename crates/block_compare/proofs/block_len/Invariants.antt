-- `block_compare::block_len` meets its contract. The loop's invariant: the lines of the records before i have len bytes. Assumes nothing.
use mathlib.Core.Path.{◌≡◌}
use Prim.Native.Nat.{◌-◌, ◌*◌, ◌≤◌}
use lib.ListN.{length}
use Rattle.comparing.specs.Comparing.{TwoLogs, text_between}
use Rattle.block_compare.proofs.block_len.Given as goal

abbrev pub invariant-loop-i : goal.invariant-loop-i
invariant-loop-i l = (length l.staging ≡ length l.initial.staging) × (l.len ≤ 344064 * (l.i - l.from))
    × ((g : TwoLogs l.x (length l.first) (length l.second) l.first_sheet l.first_half l.second_sheet l.second_half l.plan l.words) → l.len ≡ length (text_between g l.first l.second l.from l.i))

-- `block_compare::put_block` meets its contract. The loop's invariant: the lines of the records before k are written. Assumes nothing.
use mathlib.Core.Path.{◌≡◌}
use lib.ListN.{length}
use Rattle.text.specs.Written.{Wrote}
use Rattle.comparing.specs.Comparing.{TwoLogs, text_between}
use Rattle.block_compare.proofs.put_block.Given as goal

abbrev pub invariant-loop-k : goal.invariant-loop-k
invariant-loop-k l = (length l.staging ≡ length l.initial.staging)
    × ((g : TwoLogs l.x (length l.first) (length l.second) l.first_sheet l.first_half l.second_sheet l.second_half l.plan l.words) → Wrote l.initial.list l.at (text_between g l.first l.second l.from l.k) l.list l.next)

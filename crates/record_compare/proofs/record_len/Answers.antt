-- `record_compare::record_len` meets its contract. The loop's invariant: the lines of the first i entries have len bytes. Assumes nothing.
use mathlib.Core.Path.{sym, ap}
use native.Mathlib.Omega.{arith}
use lib.ListN.{length}
use Rattle.comparing.proofs.ByEntries.{none_yet, counted_more}
use Rattle.record_compare.proofs.record_len.Goals as goal

pub loop-i-init : goal.loop-i-init
loop-i-init c = (omega arith, sym (ap length (none_yet _ _ _ _ _ _ _ _)))

pub loop-i-preserved : goal.loop-i-preserved
loop-i-preserved c =
    let l = c.loop-i in
    (omega (arith, c.entry_len-len.ensures.1), counted_more _ _ _ _ _ _ _ _ _ _ c.entry-e.ensures.0 _ _ l.invariant.1 c.entry_len-len.ensures.0)

-- `paths::types::gap_end` meets its contract. The invariant: of the rows that were looked at, no member starts before `at`. Assumes nothing.
use native.Mathlib.Omega.{arith}
use Rattle.paths.proofs.Rows.{gap_start, gap_next, gap_all}
use Rattle.paths.proofs.types.gap_end.Goals as goal

pub loop-i-init : goal.loop-i-init
loop-i-init c = gap_start _ _ _ _ _ (omega arith)

pub loop-i-preserved : goal.loop-i-preserved
loop-i-preserved c = gap_next _ _ _ _ _ _ _ _ _ c.loop-i.invariant c.loop-i-test.true c.row_word-o.ensures c.nearer-at.ensures

pub returns : goal.returns
returns c = gap_all _ _ _ _ _ _ _ c.loop-i.invariant c.loop-i-test.false

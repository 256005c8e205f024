-- `loops::bytes::copy_bytes` meets its contract. Assumes nothing.
use native.Mathlib.Omega.{arith}
use lib.ListN.{length-set}
use Rattle.loops.proofs.Lists.{copy_more}
use Rattle.loops.proofs.bytes.copy_bytes.Goals as goal

pub loop-j-preserved : goal.loop-j-preserved
loop-j-preserved c = (simp length-set c.loop-j.invariant.0, rw c.loop-j.invariant.1 (copy_more c.loop-j.j c.args.src.now c.args.dst.now (omega arith) (omega arith)))

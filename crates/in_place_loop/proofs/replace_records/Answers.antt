-- `in_place_loop::replace_records` meets its contract: down, or up with the tail to clear. Assumes nothing.
use native.Mathlib.Nat.{mul-le-mul_left}
use native.Mathlib.Omega.{arith}
use Rattle.loops.proofs.PlaceTurns.{cleared}
use Rattle.in_place_loop.proofs.replace_records.Goals as goal

pub overflow_sub-count : goal.overflow_sub-count
overflow_sub-count c = mul-le-mul_left c.args.count (omega arith)

pub returns : goal.returns
returns c =
    let a = c.args in
    let u = c.replace_up-total in
    λ j. (cleared j.source j.destination j.source_formed j.destination_formed a.source_size a.destination_size j.source_size j.destination_size a.count a.buf.now a.background.now (omega arith) _ _ (omega arith) (u.ensures j).0 (u.ensures j).1 c.clear_bytes.ensures, (u.ensures j).2)

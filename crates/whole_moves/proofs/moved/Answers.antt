-- `whole_moves::moved` meets its contract. Assumes nothing.
use Rattle.std.proofs.Common.{arith}
use Rattle.whole_moves.proofs.Moving.{moved_is}
use Rattle.whole_moves.proofs.moved.Goals as goal

pub returns : goal.returns
returns c =
    let a = c.args in
    moved_is a.n a.m a.half a.c c.bits_of-source_bits.ensures c.bits_of-bits.ensures c.requires.0 c.requires.1 (omega arith) (omega arith) (omega arith)
    c.wrapping_add_u64.ensures.value
    c.low_bits-b.ensures.0
    c.wrapping_sub_u64.ensures.value
    c.low_bits.ensures.0

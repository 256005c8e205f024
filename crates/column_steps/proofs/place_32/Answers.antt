-- `column_steps::place_32` meets its contract. Assumes nothing.
use Rattle.std.proofs.Common.{arith}
use Rattle.column_steps.proofs.Making.{place_fits, place_is}
use Rattle.column_steps.proofs.place_32.Goals as goal

pub overflow_add-result : goal.overflow_add-result
overflow_add-result c =
    let a = c.args in
    record { fits = place_fits 32 a.into a.up a.ones c.requires.1 c.wrapping_sub_u32.result }

pub returns : goal.returns
returns c =
    let a = c.args in
    place_is
    32
    a.into
    a.up
    a.ones
    c.requires.1
    c.wrapping_sub_u32.result
    a.half
    a.b
    (omega arith)
    (omega arith)
    (omega arith)
    (omega arith)
    (omega arith)
    c.wrapping_sub_u32.ensures.value

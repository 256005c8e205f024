-- `column_steps::place_64` meets its contract. Assumes nothing.
use Rattle.std.proofs.Common.{arith}
use Rattle.column_steps.proofs.Making.{place_fits, place_is}
use Rattle.column_steps.proofs.place_64.Goals as goal

pub overflow_add-result : goal.overflow_add-result
overflow_add-result c =
    let a = c.args in
    record { fits = place_fits 64 a.into a.up a.ones c.requires.1 c.wrapping_sub_u64.result }

pub returns : goal.returns
returns c =
    let a = c.args in
    place_is
    64
    a.into
    a.up
    a.ones
    c.requires.1
    c.wrapping_sub_u64.result
    a.half
    a.b
    (omega arith)
    (omega arith)
    (omega arith)
    (omega arith)
    (omega arith)
    c.wrapping_sub_u64.ensures.value

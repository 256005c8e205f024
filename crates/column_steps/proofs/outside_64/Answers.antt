-- `column_steps::outside_64` meets its contract. Assumes nothing.
use Rattle.std.proofs.Common.{arith}
use Rattle.column_steps.proofs.Making.{count_high, count_low, count_none}
use Rattle.column_steps.proofs.outside_64.Goals as goal

pub returns-then-high-b : goal.returns-then-high-b
returns-then-high-b c =
    let a = c.args in
    count_high a.low a.high a.b c.if-high-b.true

pub returns-then-b-low : goal.returns-then-b-low
returns-then-b-low c =
    let a = c.args in
    count_low a.low a.high a.b (omega (arith, c.if-high-b.false)) c.if-b-low.true

pub returns-else-b-low : goal.returns-else-b-low
returns-else-b-low c =
    let a = c.args in
    count_none a.low a.high a.b (omega (arith, c.if-high-b.false)) (omega (arith, c.if-b-low.false))

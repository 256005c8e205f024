-- `column_caps::cap_31` meets its contract. Assumes nothing.
use Rattle.std.proofs.Common.{arith}
use Rattle.column_steps.proofs.Making.{clamp_high, clamp_none}
use Rattle.column_caps.proofs.cap_31.Goals as goal

pub returns-then-over_31-eq1 : goal.returns-then-over_31-eq1
returns-then-over_31-eq1 c =
    let a = c.args in
    clamp_high 0 a.high a.b (c.over_31.ensures.0 c.if-over_31-eq1.true)

pub returns-else-over_31-eq1 : goal.returns-else-over_31-eq1
returns-else-over_31-eq1 c =
    let a = c.args in
    clamp_none 0 a.high a.b (c.over_31.ensures.1 (omega (arith, c.over_31.ensures.2, c.if-over_31-eq1.false))) (omega arith)

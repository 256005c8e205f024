-- `real_columns::near::raised_near` meets its contract. Assumes nothing.
use Rattle.real_columns.proofs.NearInts.{raised_over_lem, raised_inside, raised_part}
use Rattle.real_columns.proofs.near.raised_near.Goals as goal

pub returns-then-limit-n : goal.returns-then-limit-n
returns-then-limit-n c =
    let a = c.args in
    raised_over_lem a.part a.limit a.n c.if-part-eq0.true c.if-limit-n.true

pub returns-then-part-eq0 : goal.returns-then-part-eq0
returns-then-part-eq0 c =
    let a = c.args in
    raised_inside a.part a.limit a.n c.if-part-eq0.true c.if-limit-n.false

pub returns : goal.returns
returns c =
    let a = c.args in
    raised_part a.part a.limit a.n c.if-part-eq0.false

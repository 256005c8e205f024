-- `plan_parts::comes_again` meets its contract. Assumes nothing.
use mathlib.Core.Bool.{false≢true}
use Rattle.plan_parts.proofs.Search.{again_is}
use Rattle.plan_parts.proofs.comes_again.Goals as goal

pub returns-then-is_same_type : goal.returns-then-is_same_type
returns-then-is_same_type c e =
    let a = c.args in
    again_is a.plan.now a.part_entries a.source_part a.destination_part a.source_half.now a.destination_half.now a.i c.entry-x.ensures.0 c.entry-y.ensures.0 (c.is_after.ensures c.if-is_after.true) (c.is_after-then-is_after.ensures c.if-is_after-2.true) (c.is_same_type.ensures c.if-is_same_type.true) (c.is_same_type-then-is_same_type.ensures e)

pub returns-else-is_same_type : goal.returns-else-is_same_type
returns-else-is_same_type c e = absurd (false≢true e)

pub returns-else-is_after-2 : goal.returns-else-is_after-2
returns-else-is_after-2 c e = absurd (false≢true e)

pub returns-else-is_after : goal.returns-else-is_after
returns-else-is_after c e = absurd (false≢true e)

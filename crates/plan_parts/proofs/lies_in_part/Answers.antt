-- `plan_parts::lies_in_part` meets its contract. Assumes nothing.
use mathlib.Core.Bool.{false≢true}
use Rattle.plan_parts.proofs.Search.{lies_is}
use Rattle.plan_parts.proofs.lies_in_part.Goals as goal

pub returns-then-lies_within : goal.returns-then-lies_within
returns-then-lies_within c e =
    let a = c.args in
    lies_is a.plan.now a.source_part a.destination_part a.source_half.now a.destination_half.now a.i c.entry-x.ensures.0 c.type_word-source_size.ensures.is c.type_word-destination_size.ensures.is (c.lies_within.ensures c.if-lies_within.true) (c.lies_within-then-lies_within.ensures e)

pub returns : goal.returns
returns c e = absurd (false≢true e)

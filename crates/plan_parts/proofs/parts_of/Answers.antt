-- `plan_parts::parts_of` meets its contract. Assumes nothing.
use native.Mathlib.Omega.{arith}
use Rattle.plan_parts.proofs.Search.{parts_some, whole_part}
use Rattle.plan_parts.proofs.parts_of.Goals as goal

pub are_parts-requires : goal.are_parts-requires
are_parts-requires c =
    let p = c.requires.1 in
    let some = parts_some c.args.entries c.loop-e.e (omega arith) (omega arith) p.most in
    (some.0, some.1, p.room, p.most)

pub returns-then-are_parts : goal.returns-then-are_parts
returns-then-are_parts c = c.are_parts.ensures c.if-are_parts.true

pub returns : goal.returns
returns c = whole_part c.requires.1

pub returns-after-entries-e-eq0 : goal.returns-after-entries-e-eq0
returns-after-entries-e-eq0 c = whole_part c.requires.1

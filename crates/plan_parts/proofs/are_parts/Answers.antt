-- `plan_parts::are_parts` meets its contract. Assumes nothing.
use mathlib.Core.Bool.{false≢true}
use native.Mathlib.Omega.{arith}
use Rattle.plan_parts.proofs.Search.{part_entries, parts_are}
use Rattle.plan_parts.proofs.are_parts.Goals as goal

pub all_come_again-requires : goal.all_come_again-requires
all_come_again-requires c = (c.requires.2, c.requires.3, part_entries c.args.entries c.args.parts)

pub all_lie_in_part-requires : goal.all_lie_in_part-requires
all_lie_in_part-requires c =
    let few = part_entries c.args.entries c.args.parts in
    (omega (arith, few, c.requires.2), omega (arith, few, c.requires.3))

pub returns-then-all_come_again : goal.returns-then-all_come_again
returns-then-all_come_again c e =
    let a = c.args in
    parts_are a.parts a.source_size a.destination_size a.plan.now a.entries a.source_half.now a.destination_half.now c.requires.0 c.requires.1 (c.divide.ensures c.if-divide.true) (c.all_come_again.ensures c.if-all_come_again.true) (c.all_lie_in_part.ensures e)

pub returns-else-all_come_again : goal.returns-else-all_come_again
returns-else-all_come_again c e = absurd (false≢true e)

pub returns-else-divide : goal.returns-else-divide
returns-else-divide c e = absurd (false≢true e)

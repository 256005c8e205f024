-- `leaf_compare::number_at` meets its contract. Assumes nothing.
use Rattle.leaf_compare.proofs.Ways.{number_read}
use Rattle.leaf_compare.proofs.number_at.Goals as goal

pub raw_at-requires : goal.raw_at-requires
raw_at-requires c = rw c.layout_at-l.ensures.0 c.requires

pub number_of-requires : goal.number_of-requires
number_of-requires c =
    let v = c.requires.0 in
    (rw c.layout_at-l.ensures.0 v.some, rw c.layout_at-l.ensures.0 v.most, c.raw_at.ensures.1)

pub returns : goal.returns
returns c =
    let a = c.args in
    number_read a.half.now a.bytes.now a.at a.type_number c.layout_at-l.ensures.0 c.raw_at.ensures.0 c.number_of.ensures

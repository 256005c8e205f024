-- `converting::convert_records` meets its contract. Assumes nothing.
use Rattle.conversion.proofs.Checking.{records_as, converts_as}
use Rattle.converting.proofs.convert_records.Goals as goal

pub replace_records-requires : goal.replace_records-requires
replace_records-requires c =
    let h = records_as _ _ _ _ _ c.if-in_place.true c.requires.1 in
    (c.requires.0, h.0, h.1, h.2, h.3)

pub returns-then-in_place : goal.returns-then-in_place
returns-then-in_place c =
    let a = c.args in
    λ j. converts_as j.source j.destination a.count a.out.now a.other.now _ _ c.if-in_place.true (c.replace_records.ensures j)

pub copy_records-requires : goal.copy_records-requires
copy_records-requires c =
    let h = records_as _ _ _ _ _ c.if-in_place.false c.requires.1 in
    (c.requires.0, h.0, h.1, h.2)

pub returns : goal.returns
returns c =
    let a = c.args in
    λ j. converts_as j.source j.destination a.count a.out.now a.other.now _ _ c.if-in_place.false (c.copy_records.ensures j)

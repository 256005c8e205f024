-- `column_caps::cap_each` meets its contract. Assumes nothing.
use Rattle.std.proofs.Common.{rules}
use Rattle.column_caps.proofs.cap_each.Goals as goal

pub cap_plain_31-requires : goal.cap_plain_31-requires
cap_plain_31-requires c =
    let p = c.requires in
    let plain = c.is_plain.ensures c.if-is_plain.true in
    (search rules, p.1, p.2, p.3, p.4, p.5, plain.0, plain.1, plain.2, plain.3)

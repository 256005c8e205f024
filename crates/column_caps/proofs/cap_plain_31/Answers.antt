-- `column_caps::cap_plain_31` meets its contract. Assumes nothing.
use Rattle.std.proofs.Common.{refl, rules}
use Rattle.column_steps.proofs.Making.{words_same, fits_as, made_as}
use Rattle.column_caps.proofs.cap_plain_31.Goals as goal

pub cap_each_31-requires : goal.cap_each_31-requires
cap_each_31-requires c =
    let p = c.requires in
    (search rules, fits_as (words_same c.args.w p.6 refl p.7 p.8 p.9) p.1, p.2, p.3, p.4, p.5)

pub returns : goal.returns
returns c =
    let p = c.requires in
    made_as (words_same c.args.w p.6 refl p.7 p.8 p.9) c.args.t.now c.cap_each_31.new.t c.args.count _ c.cap_each_31.ensures

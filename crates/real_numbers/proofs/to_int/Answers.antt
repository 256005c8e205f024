-- `real_numbers::to_int` meets its contract. Assumes nothing.
use mathlib.Core.Path.{◌∙◌}
use lib.Pow.{pow_pos}
use Rattle.real_numbers.proofs.Converted.{nan_int, beyond_int, whole_int}
use Rattle.real_numbers.proofs.to_int.Goals as goal

pub returns-in-NotANumber : goal.returns-in-NotANumber
returns-in-NotANumber c = (nan_int c.args.l.signed c.args.l.precision c.args.b _ c.without_fraction.ensures c.in-NotANumber.is, pow_pos _)

pub returns-in-Beyond : goal.returns-in-Beyond
returns-in-Beyond c =
    let l = c.args.l in
    let e = beyond_int l.signed l.precision c.args.b _ _ c.requires.some c.requires.most c.without_fraction.ensures c.in-Beyond.is in
    (c.end_to_int.ensures.0 ∙ e, c.end_to_int.ensures.1)

pub returns-in-Whole : goal.returns-in-Whole
returns-in-Whole c =
    let w = whole_int c.args.l.signed c.args.l.precision c.args.b _ _ _ _ c.without_fraction.ensures c.in-Whole.is in
    (rw (← w) c.whole_to_int.ensures.0, c.whole_to_int.ensures.1)

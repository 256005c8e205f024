-- `row_rules::value::in_range` meets its contract. Assumes nothing.
use mathlib.Core.Path.{◌∙◌}
use Rattle.sheet_steps.proofs.Ranges.{signed_range, unsigned_range, unsigned_negative}
use Rattle.row_rules.proofs.value.in_range.Goals as goal

pub returns-then-l : goal.returns-then-l
returns-then-l c =
    let a = c.args in
    c.fits_in.ensures ∙ rw (c.minus_one.ensures, c.if-l.true) (signed_range a.l.precision a.negative a.distance)

pub returns-then-negative : goal.returns-then-negative
returns-then-negative c =
    let a = c.args in
    rw (c.if-l.false, c.if-negative.true) (unsigned_negative a.l.precision a.distance)

pub returns : goal.returns
returns c =
    let a = c.args in
    c.fits_in-2.ensures ∙ rw (c.if-l.false, c.if-negative.false) (unsigned_range a.l.precision a.distance)

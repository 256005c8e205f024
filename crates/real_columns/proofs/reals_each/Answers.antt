-- `real_columns::reals_each` meets its contract: by whether the numbers are short. Assumes nothing.
use Rattle.real_columns.proofs.ShortReals.{short_made}
use Rattle.real_columns.proofs.reals_each.Goals as goal

pub returns-then-precision-le-MOST_BITS : goal.returns-then-precision-le-MOST_BITS
returns-then-precision-le-MOST_BITS c =
    let a = c.args in
    let call = c.reals_short in
    short_made a.w.shift a.w.mask a.signed a.precision a.w.up a.w.ones a.t.now call.new.t a.count c.requires.3 c.if-precision-le-MOST_BITS.true c.requires.5 c.first_below-first.ensures c.pow2.ensures call.ensures

-- `real_columns::reals_raised` meets its contract. Assumes nothing.
use Rattle.plans.specs.LeafSteps.{real_becomes}
use Rattle.real_columns.proofs.reals_raised.Goals as goal

pub words_of-w-requires : goal.words_of-w-requires
words_of-w-requires c =
    let p = c.requires in
    rw (c.layout_at-l.ensures.0, c.layout_at-m.ensures.0) (p.0, p.1)

pub made-requires : goal.made-requires
made-requires c =
    let p = c.requires in
    let w = c.words_of-w.ensures in
    rw (c.layout_at-l.ensures.0, c.layout_at-m.ensures.0, c.is_real-from_real.ensures)
    (p.0, p.1, rw (c.layout_at-l.ensures.0, c.layout_at-m.ensures.0) at w, p.2, p.3, p.4, p.5, p.6)

pub returns : goal.returns
unfolding real_becomes
returns c =
    let call = c.made.ensures in
    rw (← c.layout_at-l.ensures.0, ← c.layout_at-m.ensures.0, ← c.is_real-from_real.ensures) (call.1, call.2)

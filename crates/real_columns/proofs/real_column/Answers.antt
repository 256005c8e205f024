-- `real_columns::real_column` meets its contract. Assumes nothing.
use Rattle.plans.specs.LeafSteps.{real_becomes}
use Rattle.real_columns.proofs.real_column.Goals as goal

pub column_of-requires : goal.column_of-requires
column_of-requires c =
    let p = c.requires in
    rw (c.layout_at-l.ensures.0, c.layout_at-m.ensures.0, c.is_real-from_real.ensures) (p.0, p.1, p.2, p.3, p.4, p.5, p.6, p.7, p.8)

pub returns : goal.returns
unfolding real_becomes
returns c = rw (← c.layout_at-l.ensures.0, ← c.layout_at-m.ensures.0, ← c.is_real-from_real.ensures) c.column_of.ensures

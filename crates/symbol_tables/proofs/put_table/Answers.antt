-- `symbol_tables::put_table` meets its contract. Assumes nothing.
use mathlib.Core.Path.{ap, ◌∙◌}
use Rattle.layout.specs.declared.Layout.{Layout}
use Rattle.entry_code.specs.Code.{route_in}
use Rattle.plans.proofs.LeafSteps.{pair_valid}
use Rattle.symbol_tables.proofs.Tables.{span_table}
use Rattle.symbol_tables.proofs.put_table.Goals as goal

pub returns-then-m-le-ENTRY_BITS : goal.returns-then-m-le-ENTRY_BITS
returns-then-m-le-ENTRY_BITS c =
    let a = c.args in
    let route = c.route_in.ensures.0 ∙ ap route_in c.at.ensures.is in
    λ e.
    let t = c.put_span.ensures e in
    (t.0, span_table a.source_type a.destination_type a.source_half.now a.destination_half.now a.words.now a.place c.layout_at-m.ensures.0 c.if-m-le-ENTRY_BITS.true t.1 t.2 t.3 c.requires.2 (rw (← route) c.if-route_in-lt-LOOKED_UP.true))

pub put_halves-requires : goal.put_halves-requires
put_halves-requires c =
    let v = pair_valid c.requires.3 in
    (c.requires.0, ap (λ (m : Layout). m.precision) c.layout_at-m.ensures.0, rw c.layout_at-m.ensures.0 v.1.most, v.0, c.requires.1, c.requires.2)

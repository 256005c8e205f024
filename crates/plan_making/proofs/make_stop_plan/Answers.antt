-- `plan_making::make_stop_plan` meets its contract. Assumes nothing.
use Rattle.obeying.proofs.StopMatches.{stopping_of}
use Rattle.plan_making.proofs.Making.{entries_asked, names_asked, plan_made}
use Rattle.plan_making.proofs.make_stop_plan.Goals as goal

pub stop_plan-entries-requires : goal.stop_plan-entries-requires
stop_plan-entries-requires c = (c.requires.0.source, c.requires.0.destination, c.requires.1.for_entries)

pub put_entries-requires : goal.put_entries-requires
put_entries-requires c =
    let of = stopping_of c.args.handling _ c.requires.0.destination in
    entries_asked c.args.source_sheet.now c.args.source_half.now c.args.source_type c.args.destination_sheet.now c.args.destination_half.now c.args.destination_type c.requires.0 _ of.formed of.sized c.args.plan.now _ _ (c.stop_plan-entries.ensures _ of) c.args.words.now c.requires.1

pub put_names-requires : goal.put_names-requires
put_names-requires c =
    let of = stopping_of c.args.handling _ c.requires.0.destination in
    names_asked c.args.source_sheet.now c.args.source_half.now c.args.source_type c.args.destination_sheet.now c.args.destination_half.now c.args.destination_type c.requires.0 _ of.formed of.sized c.args.plan.now _ _ (c.stop_plan-entries.ensures _ of) c.args.words.now c.requires.1 _ c.put_entries.ensures

pub returns : goal.returns
returns c =
    λ E of.
    plan_made c.args.source_sheet.now c.args.source_half.now c.args.source_type c.args.destination_sheet.now c.args.destination_half.now c.args.destination_type c.requires.0 _ of.formed of.sized c.args.plan.now _ _ (c.stop_plan-entries.ensures _ of) c.args.words.now c.requires.1 _ c.put_entries.ensures _ c.put_names.ensures

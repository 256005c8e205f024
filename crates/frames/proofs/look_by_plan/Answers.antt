-- `frames::look_by_plan` meets its contract. Assumes nothing.
use Rattle.conversion.specs.Call.{source_of}
use Rattle.conversion.proofs.Parts.{stop_says}
use Rattle.frames.proofs.Framed.{source_size_lem, stop_records, stop_job, none_stops}
use Rattle.frames.proofs.look_by_plan.Goals as goal

pub returns-then-entries-eq0 : goal.returns-then-entries-eq0
returns-then-entries-eq0 c =
    let a = c.args in
    none_stops a.x.in_place a.x.count a.out.now a.other.now a.source_sheet.now a.source_half.now a.x.source a.destination_sheet.now a.destination_half.now a.x.destination a.x.handling
    c.requires.1 c.requires.0.types.destination c.make_stop_plan-entries.ensures c.if-entries-eq0.true

pub first_stop-requires : goal.first_stop-requires
first_stop-requires c = (_, stop_job c.requires.0 c.type_word-source_size.ensures c.make_stop_plan-entries.ensures, stop_records c.requires.0 c.type_word-source_size.ensures)

pub returns : goal.returns
unfolding stop_job
returns c =
    let a = c.args in
    stop_says a.x.count (source_of a.x.in_place a.out.now a.other.now) _ _ a.x.handling _ c.requires.1 (source_size_lem c.requires.0 c.type_word-source_size.ensures)
    (c.first_stop.ensures _ (stop_job c.requires.0 c.type_word-source_size.ensures c.make_stop_plan-entries.ensures))

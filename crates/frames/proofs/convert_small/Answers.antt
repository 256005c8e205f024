-- `frames::convert_small` meets its contract. Assumes nothing.
use Rattle.plan_making.proofs.Making.{small_room}
use Rattle.frames.proofs.Framed.{sized_records, plan_job, look_decided, look_stopped}
use Rattle.std.proofs.lemmas.Result.{err_from_is_err_and}
use Rattle.frames.proofs.convert_small.Goals as goal

pub look-requires : goal.look-requires
look-requires c = (c.requires.0, c.requires.1, small_room _ _ _ c.requires.2)

pub convert_planned-requires : goal.convert_planned-requires
convert_planned-requires c = (plan_job c.requires.0 c.type_word-source_size.ensures c.type_word-destination_size.ensures c.make_plan-entries.ensures, sized_records c.requires.0 c.type_word-source_size.ensures c.type_word-destination_size.ensures)

pub returns-in_err-scan : goal.returns-in_err-scan
returns-in_err-scan c =
    let a = c.args in
    let p = err_from_is_err_and c.from_residual.result c.from_residual.ensures.1 in
    rw (p.1, p.2) (look_stopped a.x.in_place a.x.count a.out.now a.other.now _ _ a.x.handling c.look.ensures c.in_err-scan.was)

pub returns : goal.returns
unfolding plan_job
returns c =
    let a = c.args in
    c.convert_planned.ensures (plan_job c.requires.0 c.type_word-source_size.ensures c.type_word-destination_size.ensures c.make_plan-entries.ensures) a.x.handling c.requires.1
    (look_decided a.x.in_place a.x.count a.out.now a.other.now _ _ a.x.handling c.look.ensures c.in_ok-scan.was)

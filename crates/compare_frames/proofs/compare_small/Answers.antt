-- `compare_frames::compare_small` meets its contract. Assumes nothing.
use Rattle.plan_making.proofs.Making.{small_room}
use Rattle.compare_frames.proofs.Framed.{two_logs}
use Rattle.compare_frames.proofs.compare_small.Goals as goal

pub make_plan-entries-requires : goal.make_plan-entries-requires
make_plan-entries-requires c = (c.requires.0.types, small_room _ _ _ c.requires.1)

pub list_planned-requires : goal.list_planned-requires
list_planned-requires c = two_logs c.requires.0 c.type_word-first_size.ensures c.type_word-second_size.ensures c.make_plan-entries.ensures

pub returns : goal.returns
unfolding two_logs
returns c = c.list_planned.ensures (two_logs c.requires.0 c.type_word-first_size.ensures c.type_word-second_size.ensures c.make_plan-entries.ensures)

-- `record_compare::put_entry` meets its contract. Assumes nothing.
use Rattle.comparing.proofs.ByEntries.{no_line, line_room, the_line}
use Rattle.record_compare.proofs.put_entry.Goals as goal

pub returns-in_default : goal.returns-in_default
returns-in_default c = no_line _ _ _ _ _ _ _ _ _ c.compare_leaf.ensures c.in_default.is _ _

pub put_line-requires : goal.put_line-requires
put_line-requires c = line_room _ _ _ _ _ _ _ _ _ c.compare_leaf.ensures _ c.in-Some.is _ _ c.requires.1

pub returns : goal.returns
returns c = the_line _ _ _ _ _ _ _ _ _ c.compare_leaf.ensures _ c.in-Some.is _ _ _ _ c.put_line.ensures

-- `record_compare::entry_len` meets its contract. Assumes nothing.
use Rattle.comparing.proofs.ByEntries.{no_length, line_length}
use Rattle.record_compare.proofs.entry_len.Goals as goal

pub returns-in_default : goal.returns-in_default
returns-in_default c = no_length _ _ _ _ _ _ _ _ _ c.compare_leaf.ensures c.in_default.is

pub returns : goal.returns
returns c = line_length _ _ _ _ _ _ _ _ _ c.compare_leaf.ensures _ c.in-Some.is _ c.line_len.ensures

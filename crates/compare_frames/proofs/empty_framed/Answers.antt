-- `compare_frames::empty_framed` meets its contract. Assumes nothing.
use Rattle.conversion.proofs.Checking.{is_small}
use Rattle.compare_frames.proofs.empty_framed.Goals as goal

pub compare_small-requires : goal.compare_small-requires
compare_small-requires c = (c.requires, is_small _ _ _ c.type_word.ensures c.if-type_word-le-SMALL.true)

pub returns-then-type_word-le-SMALL : goal.returns-then-type_word-le-SMALL
returns-then-type_word-le-SMALL c = c.compare_small.ensures

pub compare_large-requires : goal.compare_large-requires
compare_large-requires c = c.requires

pub returns : goal.returns
returns c = c.compare_large.ensures

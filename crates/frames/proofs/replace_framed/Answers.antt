-- `frames::replace_framed` meets its contract. Assumes nothing.
use Rattle.conversion.proofs.Checking.{is_small}
use Rattle.frames.proofs.replace_framed.Goals as goal

pub convert_small-requires : goal.convert_small-requires
convert_small-requires c = (c.requires.0, c.requires.1, is_small _ _ _ c.type_word.ensures c.if-type_word-le-SMALL.true)

pub returns-then-type_word-le-SMALL : goal.returns-then-type_word-le-SMALL
returns-then-type_word-le-SMALL c = rw c.answer_of.ensures c.convert_small.ensures

pub convert_large-requires : goal.convert_large-requires
convert_large-requires c = (c.requires.0, c.requires.1)

pub returns : goal.returns
returns c = rw c.answer_of-2.ensures c.convert_large.ensures

-- `column_words::ones_of` meets its contract. Assumes nothing.
use Rattle.column_words.specs.Fill.{ones_of}
use Rattle.column_words.proofs.ones_of.Goals as goal

pub returns : goal.returns
unfolding ones_of
returns c = cc

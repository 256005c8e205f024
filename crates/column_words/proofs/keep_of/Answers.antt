-- `column_words::keep_of` meets its contract. Assumes nothing.
use Rattle.column_words.specs.Fill.{keep_of}
use Rattle.column_words.proofs.keep_of.Goals as goal

pub returns : goal.returns
unfolding keep_of
returns c = cc

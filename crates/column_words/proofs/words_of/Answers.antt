-- `column_words::words_of` meets its contract. Assumes nothing.
use Rattle.column_words.specs.Words.{words_of}
use Rattle.column_words.proofs.words_of.Goals as goal

pub returns : goal.returns
unfolding words_of
returns c = cc

-- `pair_words::is_real` meets its contract. Assumes nothing.
use Rattle.pair_words.proofs.is_real.Goals as goal

pub returns : goal.returns
returns c = rw c.type_word.ensures.is

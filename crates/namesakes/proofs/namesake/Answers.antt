-- `namesakes::namesake` meets its contract. Assumes nothing.
use Rattle.namesakes.proofs.Named.{word_laws}
use Rattle.namesakes.proofs.namesake.Goals as goal

pub row_word-start-requires : goal.row_word-start-requires
row_word-start-requires c = search word_laws

pub row_word-len-requires : goal.row_word-len-requires
row_word-len-requires c = search word_laws

pub type_word-first-requires : goal.type_word-first-requires
type_word-first-requires c = search word_laws

pub type_word-n-requires : goal.type_word-n-requires
type_word-n-requires c = search word_laws

pub row_by_hint-requires : goal.row_by_hint-requires
row_by_hint-requires c = search word_laws

pub returns : goal.returns
returns c = search word_laws

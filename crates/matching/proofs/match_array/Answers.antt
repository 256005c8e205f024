-- `matching::match_array` meets its contract. Assumes nothing.
use Rattle.paths.proofs.Walks.{array_laws}
use Rattle.matching.proofs.match_array.Goals as goal

pub type_word-z-requires : goal.type_word-z-requires
type_word-z-requires c = search array_laws

pub same_dimensions-requires : goal.same_dimensions-requires
same_dimensions-requires c = search array_laws

pub returns-then-not-same_dimensions : goal.returns-then-not-same_dimensions
returns-then-not-same_dimensions c = search array_laws

pub type_word-l-requires : goal.type_word-l-requires
type_word-l-requires c = search array_laws

pub type_word-y-requires : goal.type_word-y-requires
type_word-y-requires c = search array_laws

pub type_word-k-requires : goal.type_word-k-requires
type_word-k-requires c = search array_laws

pub type_word-x-requires : goal.type_word-x-requires
type_word-x-requires c = search array_laws

pub quotient-requires : goal.quotient-requires
quotient-requires c = search array_laws

pub overflow_mul-result : goal.overflow_mul-result
overflow_mul-result c = search array_laws

pub remainder-requires : goal.remainder-requires
remainder-requires c = search array_laws

pub returns : goal.returns
returns c = search array_laws

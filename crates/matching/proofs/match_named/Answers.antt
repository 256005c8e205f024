-- `matching::match_named` meets its contract. Assumes nothing.
use Rattle.paths.proofs.Walks.{named_laws}
use Rattle.matching.proofs.match_named.Goals as goal

pub namesake-requires : goal.namesake-requires
namesake-requires c = search named_laws

pub enum_known-m : goal.enum_known-m
enum_known-m c = search named_laws

pub row_word-from-requires : goal.row_word-from-requires
row_word-from-requires c = search named_laws

pub row_word-k-requires : goal.row_word-k-requires
row_word-k-requires c = search named_laws

pub row_word-l-requires : goal.row_word-l-requires
row_word-l-requires c = search named_laws

pub row_word-offset-requires : goal.row_word-offset-requires
row_word-offset-requires c = search named_laws

pub minus-requires : goal.minus-requires
minus-requires c = search named_laws

pub enum_told-1 : goal.enum_told-1
enum_told-1 c = search named_laws

pub row_end-requires : goal.row_end-requires
row_end-requires c = search named_laws

pub returns-in-Some : goal.returns-in-Some
returns-in-Some c = search named_laws

pub returns-in-None : goal.returns-in-None
returns-in-None c = search named_laws

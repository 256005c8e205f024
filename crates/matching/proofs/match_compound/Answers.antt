-- `matching::match_compound` meets its contract. Assumes nothing.
use Rattle.paths.proofs.Walks.{compound_laws}
use Rattle.matching.proofs.match_compound.Goals as goal

pub row_with_byte-requires : goal.row_with_byte-requires
row_with_byte-requires c = search compound_laws

pub enum_known-j : goal.enum_known-j
enum_known-j c = search compound_laws

pub match_named-requires : goal.match_named-requires
match_named-requires c = search compound_laws

pub enum_told-1 : goal.enum_told-1
enum_told-1 c = search compound_laws

pub type_word-first-requires : goal.type_word-first-requires
type_word-first-requires c = search compound_laws

pub type_word-n-requires : goal.type_word-n-requires
type_word-n-requires c = search compound_laws

pub type_word-z-requires : goal.type_word-z-requires
type_word-z-requires c = search compound_laws

pub gap_end-requires : goal.gap_end-requires
gap_end-requires c = search compound_laws

pub returns-in-Some : goal.returns-in-Some
returns-in-Some c = search compound_laws

pub returns-in-None : goal.returns-in-None
returns-in-None c = search compound_laws

-- `paths::types::row_with_byte` meets its contract. Assumes nothing.
use Rattle.paths.proofs.Rows.{place_laws}
use Rattle.paths.proofs.types.row_with_byte.Goals as goal

pub type_word-first-requires : goal.type_word-first-requires
type_word-first-requires c = search place_laws

pub type_word-n-requires : goal.type_word-n-requires
type_word-n-requires c = search place_laws

pub type_word-z-requires : goal.type_word-z-requires
type_word-z-requires c = search place_laws

pub overflow_mul-n : goal.overflow_mul-n
overflow_mul-n c = search place_laws

pub quotient-place-requires : goal.quotient-place-requires
quotient-place-requires c = search place_laws

pub row_near-requires : goal.row_near-requires
row_near-requires c = search place_laws

pub returns : goal.returns
returns c = search place_laws

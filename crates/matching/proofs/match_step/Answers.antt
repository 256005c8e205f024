-- `matching::match_step` meets its contract. Assumes nothing.
use Rattle.paths.proofs.Walks.{walk_laws}
use Rattle.matching.proofs.match_step.Goals as goal

pub kind_at-from-requires : goal.kind_at-from-requires
kind_at-from-requires c = search walk_laws

pub kind_at-to-requires : goal.kind_at-to-requires
kind_at-to-requires c = search walk_laws

pub type_word-z-requires : goal.type_word-z-requires
type_word-z-requires c = search walk_laws

pub match_compound-requires : goal.match_compound-requires
match_compound-requires c = search walk_laws

pub match_array-requires : goal.match_array-requires
match_array-requires c = search walk_laws

pub returns-then-from-eq-COMPOUND : goal.returns-then-from-eq-COMPOUND
returns-then-from-eq-COMPOUND c = search walk_laws

pub returns-else-from-eq-COMPOUND : goal.returns-else-from-eq-COMPOUND
returns-else-from-eq-COMPOUND c = search walk_laws

pub returns-then-from-eq-ARRAY : goal.returns-then-from-eq-ARRAY
returns-then-from-eq-ARRAY c = c.match_array.ensures _ _

pub returns-else-from-eq-ARRAY : goal.returns-else-from-eq-ARRAY
returns-else-from-eq-ARRAY c = search walk_laws

pub returns-then-destination_byte-ne0 : goal.returns-then-destination_byte-ne0
returns-then-destination_byte-ne0 c = search walk_laws

pub returns-then-from-eq-COMPOUND-2 : goal.returns-then-from-eq-COMPOUND-2
returns-then-from-eq-COMPOUND-2 c = search walk_laws

pub returns-then-from-eq-ARRAY-2 : goal.returns-then-from-eq-ARRAY-2
returns-then-from-eq-ARRAY-2 c = search walk_laws

pub returns-else-from-eq-ARRAY-2 : goal.returns-else-from-eq-ARRAY-2
returns-else-from-eq-ARRAY-2 c = search walk_laws

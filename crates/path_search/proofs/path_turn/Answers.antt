-- `path_search::path_turn` meets its contract. Assumes nothing.
use Rattle.paths.proofs.Turns.{turn_laws}
use Rattle.path_search.proofs.path_turn.Goals as goal

pub returns-then-to-from : goal.returns-then-to-from
returns-then-to-from c = search turn_laws

pub returns-then-to-eq-COMPOUND : goal.returns-then-to-eq-COMPOUND
returns-then-to-eq-COMPOUND c = search turn_laws

pub returns-then-to-ne-ARRAY : goal.returns-then-to-ne-ARRAY
returns-then-to-ne-ARRAY c = search turn_laws

pub returns-then-not-same_dimensions : goal.returns-then-not-same_dimensions
returns-then-not-same_dimensions c = search turn_laws

pub returns : goal.returns
returns c = search turn_laws

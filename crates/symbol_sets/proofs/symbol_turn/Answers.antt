-- `symbol_sets::symbol_turn` meets its contract. Assumes nothing.
use Rattle.symbol_sets.proofs.Turns.{keep_laws}
use Rattle.symbol_sets.proofs.symbol_turn.Goals as goal

pub returns-then-to-from : goal.returns-then-to-from
returns-then-to-from c = search keep_laws

pub returns-then-to-eq-ENUM : goal.returns-then-to-eq-ENUM
returns-then-to-eq-ENUM c = search keep_laws

pub returns-then-to-eq-COMPOUND : goal.returns-then-to-eq-COMPOUND
returns-then-to-eq-COMPOUND c = search keep_laws

pub returns-then-to-ne-ARRAY : goal.returns-then-to-ne-ARRAY
returns-then-to-ne-ARRAY c = search keep_laws

pub returns-then-not-same_dimensions : goal.returns-then-not-same_dimensions
returns-then-not-same_dimensions c = search keep_laws

pub returns : goal.returns
returns c = search keep_laws

-- `paths::types::inner_types` meets its contract. Assumes nothing.
use Rattle.paths.proofs.Turns.{inner_laws, inner_both}
use Rattle.paths.proofs.types.inner_types.Goals as goal

pub returns-in_err-m : goal.returns-in_err-m
returns-in_err-m c = search inner_laws

pub returns : goal.returns
returns c = inner_both _ _ _ _ _ _ c.namesake.ensures c.in_ok-m.was c.row_word.ensures c.row_word-2.ensures

-- `obeying::word_step` meets its contract. Assumes nothing.
use Rattle.obeying.proofs.WordSteps.{step_laws}
use Rattle.obeying.proofs.word_step.Goals as goal

pub returns-in_err-j : goal.returns-in_err-j
returns-in_err-j c = search step_laws

pub returns-in_ok-j : goal.returns-in_ok-j
returns-in_ok-j c = search step_laws

pub returns-then-kind-eq-ARRAY : goal.returns-then-kind-eq-ARRAY
returns-then-kind-eq-ARRAY c = search step_laws

pub returns-else-kind-eq-ARRAY : goal.returns-else-kind-eq-ARRAY
returns-else-kind-eq-ARRAY c = search step_laws

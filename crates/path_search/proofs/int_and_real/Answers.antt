-- `path_search::int_and_real` meets its contract. Assumes nothing.
use borrow.Author.Tests.{eq-eqb, ne_eqb}
use Rattle.paths.specs.Steps.{int_and_real}
use Rattle.path_search.proofs.int_and_real.Goals as goal

pub returns-then-from-eq-INT : goal.returns-then-from-eq-INT
unfolding int_and_real
returns-then-from-eq-INT c = rw (eq-eqb _ _ c.if-from-eq-INT.true)

pub returns-then-from-eq-REAL : goal.returns-then-from-eq-REAL
unfolding int_and_real
returns-then-from-eq-REAL c = rw (ne_eqb _ _ c.if-from-eq-INT.false, eq-eqb _ _ c.if-from-eq-REAL.true)

pub returns-else-from-eq-REAL : goal.returns-else-from-eq-REAL
unfolding int_and_real
returns-else-from-eq-REAL c = rw (ne_eqb _ _ c.if-from-eq-INT.false, ne_eqb _ _ c.if-from-eq-REAL.false)

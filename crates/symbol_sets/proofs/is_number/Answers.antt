-- `symbol_sets::is_number` meets its contract. Assumes nothing.
use borrow.Author.Tests.{eq-eqb, ne_eqb}
use Rattle.symbol_sets.specs.Seen.{is_number}
use Rattle.symbol_sets.proofs.is_number.Goals as goal

pub returns-then-kind-eq-ENUM : goal.returns-then-kind-eq-ENUM
unfolding is_number
returns-then-kind-eq-ENUM c = rw (eq-eqb _ _ c.if-kind-eq-ENUM.true)

pub returns-then-kind-eq-COMPOUND : goal.returns-then-kind-eq-COMPOUND
unfolding is_number
returns-then-kind-eq-COMPOUND c = rw (ne_eqb _ _ c.if-kind-eq-ENUM.false, eq-eqb _ _ c.if-kind-eq-COMPOUND.true)

pub returns-else-kind-eq-COMPOUND : goal.returns-else-kind-eq-COMPOUND
unfolding is_number
returns-else-kind-eq-COMPOUND c = rw (ne_eqb _ _ c.if-kind-eq-ENUM.false, ne_eqb _ _ c.if-kind-eq-COMPOUND.false)

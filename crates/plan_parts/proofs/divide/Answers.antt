-- `plan_parts::divide` meets its contract. Assumes nothing.
use mathlib.Core.Bool.{false≢true}
use borrow.Author.Tests.{eqb-true}
use Rattle.plan_parts.proofs.Search.{divides}
use Rattle.plan_parts.proofs.divide.Goals as goal

pub returns-then-destination_size-parts-eq0 : goal.returns-then-destination_size-parts-eq0
returns-then-destination_size-parts-eq0 c e =
    let a = c.args in
    (divides a.source_size a.parts c.if-source_size-parts-eq0.true, divides a.destination_size a.parts c.if-destination_size-parts-eq0.true, divides a.entries a.parts (eqb-true _ _ e))

pub returns-else-destination_size-parts-eq0 : goal.returns-else-destination_size-parts-eq0
returns-else-destination_size-parts-eq0 c e = absurd (false≢true e)

pub returns-else-source_size-parts-eq0 : goal.returns-else-source_size-parts-eq0
returns-else-source_size-parts-eq0 c e = absurd (false≢true e)

-- `whole_copies::is_whole_copy` meets its contract. Assumes nothing.
use mathlib.Core.Bool.{false≢true}
use borrow.Author.Tests.{eqb-true}
use Rattle.whole_copies.proofs.Whole.{whole_is}
use Rattle.whole_copies.proofs.is_whole_copy.Goals as goal

pub returns-then-run-entries : goal.returns-then-run-entries
returns-then-run-entries c e =
    let a = c.args in
    let call = c.run_from-run in
    whole_is a.source_size a.destination_size a.plan.now a.entries a.source_half.now a.destination_half.now call.result.entries call.result.bytes c.if-source_size-destination_size.true call.ensures.1 c.if-run-entries.true (eqb-true _ _ e)

pub returns-else-run-entries : goal.returns-else-run-entries
returns-else-run-entries c e = absurd (false≢true e)

pub returns-else-source_size-destination_size : goal.returns-else-source_size-destination_size
returns-else-source_size-destination_size c e = absurd (false≢true e)

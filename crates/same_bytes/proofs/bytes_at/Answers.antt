-- `same_bytes::bytes_at` meets its contract. Assumes nothing.
use native.Mathlib.Omega.{arith}
use Rattle.same_bytes.proofs.Tests.{stays_at}
use Rattle.same_bytes.proofs.bytes_at.Goals as goal

pub returns-then-e-from : goal.returns-then-e-from
returns-then-e-from c =
    let a = c.args in
    let call = c.same_bytes.ensures in
    (stays_at a.plan.now a.source_half.now a.destination_half.now a.i a.to a.from c.entry-e.ensures.0 c.if-e-to.true c.if-e-from.true call.0, call.1)

pub returns-else-e-from : goal.returns-else-e-from
returns-else-e-from c = (λ some. absurd (omega (arith, some)), omega arith)

pub returns-else-e-to : goal.returns-else-e-to
returns-else-e-to c = (λ some. absurd (omega (arith, some)), omega arith)

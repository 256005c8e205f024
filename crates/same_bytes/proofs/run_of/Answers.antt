-- `same_bytes::run_of` meets its contract. Assumes nothing.
use native.Mathlib.Omega.{arith}
use Rattle.same_bytes.proofs.Tests.{from_small, run_is}
use Rattle.same_bytes.proofs.run_of.Goals as goal

pub run_from-requires : goal.run_from-requires
run_from-requires c =
    let e = c.entry-e.ensures in
    (c.requires.0, c.requires.1, omega (arith, c.requires.2), e.1, from_small c.args.plan.now c.args.i e.0)

pub returns : goal.returns
returns c =
    let a = c.args in
    run_is a.plan.now a.i c.entry-e.ensures.0 a.source_half.now a.destination_half.now c.run_from.result.entries c.run_from.result.bytes a.entries c.run_from.ensures

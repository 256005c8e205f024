-- `same_bytes::run_from` meets its contract. The invariant: k entries stay as they are and adjoin, and have so many bytes. Assumes nothing.
use mathlib.Core.Path.{◌≡◌, refl}
use Prim.Native.Nat.{◌-◌}
use native.Mathlib.Omega.{arith}
use Rattle.same_bytes.proofs.Tests.{adjoin_more}
use Rattle.same_bytes.proofs.run_from.Goals as goal

pub loop-k-init : goal.loop-k-init
loop-k-init c = (omega arith, refl)

pub returns-then-more-eq0 : goal.returns-then-more-eq0
returns-then-more-eq0 c = (omega arith, c.loop-k.invariant.1)

pub loop-k-preserved : goal.loop-k-preserved
loop-k-preserved c =
    let a = c.args in
    let l = c.loop-k in
    let call = c.bytes_at-more in (
      omega (arith, l.invariant.0, call.ensures.1),
      adjoin_more a.plan.now a.source_half.now a.destination_half.now a.i a.to a.from l.k l.bytes call.result l.invariant.1 (call.ensures.0 (omega (arith, c.if-more-eq0.false))),
    )

pub returns : goal.returns
returns c =
    let e : c.loop-k.k ≡ c.args.entries - c.args.i = omega arith in
    (omega arith, rw (← e) c.loop-k.invariant.1)

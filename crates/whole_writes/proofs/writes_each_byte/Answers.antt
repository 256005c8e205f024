-- `whole_writes::writes_each_byte` meets its contract. The invariant: from entry i on the leaves are written anew and adjoin, from byte `end` on up to the record's end. Assumes nothing.
use mathlib.Core.Path.{◌≡◌, refl}
use mathlib.Core.Bool.{false≢true}
use Prim.Native.Nat.{◌-◌}
use native.Mathlib.Omega.{arith}
use borrow.Author.Tests.{eqb-true}
use Rattle.whole_writes.proofs.Tests.{writes_more, writes_all}
use Rattle.whole_writes.proofs.writes_each_byte.Goals as goal

pub loop-i-init : goal.loop-i-init
loop-i-init c = let a = c.args in let none : a.entries - a.entries ≡ 0 = omega arith in rw none refl

pub bytes_anew-bytes-requires : goal.bytes_anew-bytes-requires
bytes_anew-bytes-requires c = tt

pub returns-then-bytes-eq0 : goal.returns-then-bytes-eq0
returns-then-bytes-eq0 c e = absurd (false≢true e)

pub returns-then-e-bytes : goal.returns-then-e-bytes
returns-then-e-bytes c e = absurd (false≢true e)

pub loop-i-preserved : goal.loop-i-preserved
loop-i-preserved c =
    let a = c.args in
    let l = c.loop-i in
    let e = c.entry-e in
    let call = c.bytes_anew-bytes in
    writes_more a.destination_size a.plan.now a.destination_half.now a.entries l.i (l.i - 1) l.end call.result c.loop-i-test.true (omega arith) refl e.ensures.0 (call.ensures.0 (omega (arith, c.if-bytes-eq0.false))) c.if-e-bytes.false l.invariant

pub returns : goal.returns
returns c e =
    let a = c.args in
    let l = c.loop-i in
    writes_all a.destination_size a.plan.now a.destination_half.now a.entries (omega arith) (eqb-true _ _ e) l.invariant

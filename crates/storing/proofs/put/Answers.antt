-- `storing::put` meets its contract: bytes written one after the other are the container. Assumes nothing.
use Prim.Native.Nat.{ℕ, ◌+◌}
use mathlib.Core.Path.{◌≡◌, ap, ◌∙◌}
use native.Mathlib.Omega.{arith}
use Rattle.bits.specs.Container.{contained}
use Rattle.bits.specs.Index.{set_all}
use Rattle.bits.proofs.Words.{set_on, put_all}
use Rattle.storing.proofs.put.Goals as goal

pub loop-i-preserved : goal.loop-i-preserved
loop-i-preserved g c =
    let l = c.loop-i in
    let a = c.args in
    let e : 0 + l.i ≡ l.i = omega arith in
    set_on a.d.now l.d _ a.at (contained a.order g.row.N a.c) 0 l.i 1 l.invariant (rw e c.put_one.ensures.0)

pub returns : goal.returns
returns g c =
    let a = c.args in
    let e : c.loop-i.i ≡ g.row.N = omega arith in
    put_all a.d.now _ a.at a.order g.row.N a.c c.requires.1
    (c.loop-i.invariant ∙ ap (λ (k : ℕ). set_all a.d.now a.at (contained a.order g.row.N a.c) 0 k) e)

-- `fitting::fit_raw` meets its contract. Assumes nothing.
use Prim.Native.Nat.{◌-◌, ◌^◌, ◌≤◌, ◌<◌}
use mathlib.Core.Path.{sym, ◌∙◌}
use native.Mathlib.Omega.{arith}
use lib.IntN.{pos}
use lib.Pow.{pow_mono}
use borrow.Author.Tests.{leb-true, ltb-true}
use Rattle.number.proofs.Range.{signed_inside, unsigned_inside}
use Rattle.number.proofs.RoundTrip.{fitted_raw}
use Rattle.fitting.proofs.fit_raw.Goals as goal
use Rattle.fitting.proofs.fit_raw.Goals.{then-m-2, else-m-2}

pub returns-then-inside : goal.returns-then-inside
returns-then-inside c =
    let a = c.args in
    elim c.if-m-2.branch [
      | then-m-2 w ↦
          let l : a.l.precision < a.m.precision = ltb-true _ _ (sym w.inside-is ∙ c.if-inside.true) in
          let h : 2 ^ a.l.precision ≤ 2 ^ (a.m.precision - 1) = pow_mono (omega arith) in
          let k : 2 ^ a.l.precision ≤ 2 ^ a.m.precision = pow_mono (omega arith) in
          rw (c.if-l.false, w.if-m-2.true) (sym (signed_inside a.m.precision a.raw (omega arith)), omega arith)
      | else-m-2 w ↦
          let k : 2 ^ a.l.precision ≤ 2 ^ a.m.precision = pow_mono (leb-true _ _ (sym w.inside-is ∙ c.if-inside.true)) in
          rw (c.if-l.false, w.if-m-2.false) (sym (unsigned_inside a.m.precision a.raw (omega arith)), omega arith)
    ]

pub returns : goal.returns
returns c =
    let a = c.args in
    rw c.if-l.false (fitted_raw a.m (pos a.raw) _ c.requires.1 c.fit_unsigned.ensures)

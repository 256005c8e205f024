-- `plan_parts::is_same_type` meets its contract. The invariant: the first k words are the same. Assumes nothing.
use mathlib.Core.Path.{◌≡◌, ap, sym, ◌∙◌}
use mathlib.Core.Bool.{false≢true}
use Prim.Native.Nat.{ℕ, ◌-◌}
use native.Mathlib.Nat.{not-suc-le-zero}
use native.Mathlib.Omega.{arith}
use Rattle.table.specs.Table.{type_word}
use Rattle.plan_parts.proofs.Search.{one_more}
use Rattle.plan_parts.proofs.is_same_type.Goals as goal

pub returns-then-x-y : goal.returns-then-x-y
returns-then-x-y c e j h = ap (λ (t : ℕ). type_word c.args.half.now t j) c.if-x-y.true

pub loop-k-init : goal.loop-k-init
loop-k-init c = λ j h. absurd (not-suc-le-zero h)

pub loop-k-preserved : goal.loop-k-preserved
loop-k-preserved c =
    let a = c.args in
    let l = c.loop-k in
    one_more (λ j. type_word a.half.now a.x j ≡ type_word a.half.now a.y j) l.k l.invariant (sym c.type_word.ensures.is ∙ c.if-type_word.false ∙ c.type_word-in-loop-k.ensures.is)

pub returns-then-type_word : goal.returns-then-type_word
returns-then-type_word c e = absurd (false≢true e)

pub returns : goal.returns
returns c e j h = c.loop-k.invariant j (omega (arith, h))

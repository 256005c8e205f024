-- `symbol_slots::find` meets its contract. The invariant: none of the first j tables has x for its word 0. Assumes nothing.
use mathlib.Core.Path.{◌∙◌}
use Prim.Native.Nat.{◌-◌}
use native.Mathlib.Omega.{arith}
use Rattle.symbol_slots.proofs.Slots.{first_word, none_more}
use Rattle.symbol_slots.proofs.find.Goals as goal

pub loop-j-init : goal.loop-j-init
loop-j-init c = (λ i h e. omega arith)

pub returns-then-tables-j : goal.returns-then-tables-j
returns-then-tables-j c =
    let a = c.args in
    let l = c.loop-j in
    (omega arith, (λ h. first_word a.tables.now l.j ∙ c.if-tables-j.true), λ i h e. omega arith)

pub loop-j-preserved : goal.loop-j-preserved
loop-j-preserved c =
    let a = c.args in
    let l = c.loop-j in
    (none_more a.tables.now a.x l.j l.invariant c.if-tables-j.false)

pub returns : goal.returns
returns c = (omega arith, (λ h. absurd (omega arith)), λ i h e. absurd (c.loop-j.invariant i (omega arith) e))

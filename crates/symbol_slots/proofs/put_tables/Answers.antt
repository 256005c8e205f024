-- `symbol_slots::put_tables` meets its contract. The invariant: the tables are right, and the first i entries have columns. Assumes nothing.
use mathlib.Core.Path.{refl, ◌∙◌}
use mathlib.Core.Bool.{false≢true}
use Prim.Native.Nat.{◌-◌}
use native.Mathlib.Nat.{not-suc-le-zero}
use native.Mathlib.Omega.{arith}
use Rattle.symbol_slots.proofs.Slots.{none_long, none_here, columned_more, columned_end}
use Rattle.symbol_slots.proofs.put_tables.Goals as goal

pub loop-i-init : goal.loop-i-init
loop-i-init c =
    let a = c.args in
    (refl, (λ i h. absurd (not-suc-le-zero h)), λ s d p. none_here c.requires.0 a.source_half.now p.source_text a.destination_half.now p.destination_text)

pub put_entry-requires : goal.put_entry-requires
put_entry-requires c =
    let l = c.loop-i in
    let ready = c.requires.1 in
    (omega (arith, l.invariant.0, none_long c.requires.0), (ready.0, ready.1, c.args.entries, ready.2, c.loop-i-test.true, l.invariant.2 ready.0 ready.1 ready.2))

pub loop-i-preserved : goal.loop-i-preserved
loop-i-preserved c =
    let a = c.args in
    let l = c.loop-i in
    let call = c.put_entry in
    let made = call.ensures c.if-not-put_entry.false in (
      call.auto.tables ∙ l.invariant.0,
      columned_more l.tables call.new.tables a.plan.now a.words.now l.i l.invariant.1 made.2 made.1,
      λ s d p. made.0 s d a.entries p (omega arith) (l.invariant.2 s d p),
    )

pub shape_of-tables-then-not-put_entry : goal.shape_of-tables-then-not-put_entry
shape_of-tables-then-not-put_entry c = c.put_entry.auto.tables ∙ c.loop-i.invariant.0

pub returns-then-not-put_entry : goal.returns-then-not-put_entry
returns-then-not-put_entry c e = absurd (false≢true e)

pub shape_of-tables : goal.shape_of-tables
shape_of-tables c = c.loop-i.invariant.0

pub returns : goal.returns
returns c e s d p =
    let a = c.args in
    let l = c.loop-i in
    (l.invariant.2 s d p, columned_end l.tables a.plan.now a.words.now l.i a.entries (omega arith) l.invariant.1)

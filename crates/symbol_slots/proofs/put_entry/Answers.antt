-- `symbol_slots::put_entry` meets its contract. Assumes nothing.
use mathlib.Core.Logic.{inl, inr}
use native.Mathlib.Omega.{arith}
use Rattle.plans.specs.PlanWords.{words_place}
use Rattle.plans.proofs.Entries.{entry_room_lem}
use Rattle.symbol_slots.proofs.Slots.{entry_low, entry_high, entry_asks, entry_kept, entry_has}
use Rattle.symbol_slots.proofs.put_entry.Goals as goal

pub overflow_mul-place : goal.overflow_mul-place
overflow_mul-place c = let ready = c.requires.1 in omega (arith, ready.3.most, ready.4)

pub overflow_add-place : goal.overflow_add-place
overflow_add-place c = let ready = c.requires.1 in omega (arith, ready.3.most, ready.4)

pub returns-then-route_in-lt-SPAN_LE : goal.returns-then-route_in-lt-SPAN_LE
returns-then-route_in-lt-SPAN_LE c e =
    let a = c.args in
    ((λ s d n p h kept. kept), inl (entry_low a.words.now (words_place a.i) c.word.ensures.is c.route_in.ensures.0 c.if-route_in-lt-SPAN_LE.true), λ s d has. has)

pub entry-e-requires : goal.entry-e-requires
entry-e-requires c =
    let ready = c.requires.1 in
    entry_room_lem _ _ _ _ _ _ _ ready.3 _ ready.4

pub put_pair-requires : goal.put_pair-requires
put_pair-requires c =
    let a = c.args in
    let ready = c.requires.1 in
    let asks = entry_asks ready.3 a.i ready.4 c.entry-e.ensures.0 a.tables.now ready.5 in
    (c.requires.0, asks.0, asks.1, asks.2, entry_high a.words.now (words_place a.i) c.word.ensures.is c.route_in.ensures.0 c.if-route_in-lt-SPAN_LE.false, asks.3)

pub returns : goal.returns
returns c e =
    let a = c.args in
    let call = c.put_pair in
    let made = call.ensures e in
    let is = c.entry-e.ensures.0 in (
      (λ s d n p h kept. entry_kept p a.i h is a.tables.now call.new.tables made.0 kept),
      inr (entry_has call.new.tables a.plan.now a.i is made.1),
      made.2,
    )

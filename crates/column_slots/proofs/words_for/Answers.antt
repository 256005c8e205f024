-- `column_slots::words_for` meets its contract. Assumes nothing.
use mathlib.Core.Path.{refl, ◌∙◌}
use Prim.Native.Nat.{◌+◌, ◌*◌, ◌%◌}
use borrow.Author.Rules.{rules}
use Rattle.column_slots.proofs.Slots.{slot_found, words_read, shifts_low, kept_put}
use Rattle.column_slots.proofs.words_for.Goals as goal

pub returns-then-slots-k : goal.returns-then-slots-k
returns-then-slots-k c =
    let a = c.args in
    (slot_found a.slots.now a.source_half.now a.destination_half.now (a.source_type + 2 * a.destination_type) a.source_type a.destination_type c.requires.0 c.requires.3 refl c.if-slots-k.true c.read_slot.ensures, c.requires.0)

pub words_of-w-requires : goal.words_of-w-requires
words_of-w-requires c = (rw c.layout_at-l.ensures.0 c.requires.4, rw c.layout_at-m.ensures.0 c.requires.5)

pub put_slot-requires : goal.put_slot-requires
put_slot-requires c =
    let low = shifts_low (rw c.layout_at-l.ensures.0 c.requires.4) (rw c.layout_at-m.ensures.0 c.requires.5) c.words_of-w.ensures in
    (search rules, low.0, low.1)

pub returns : goal.returns
returns c =
    let a = c.args in
    let k = (a.source_type + 2 * a.destination_type) % 64 in
    let put = c.put_slot.ensures in
    let is = words_read a.source_half.now a.destination_half.now a.source_type a.destination_type c.layout_at-l.ensures.0 c.layout_at-m.ensures.0 c.words_of-w.ensures in
    (is, kept_put a.slots.now c.put_slot.new.slots a.source_half.now a.destination_half.now k a.source_type a.destination_type c.requires.0 c.requires.3 put.0 (put.1 ∙ is) put.2 put.3)

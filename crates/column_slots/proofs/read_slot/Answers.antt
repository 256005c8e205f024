-- `column_slots::read_slot` meets its contract. Assumes nothing.
use Rattle.column_slots.proofs.Slots.{slot_read}
use Rattle.column_slots.proofs.read_slot.Goals as goal

pub returns : goal.returns
returns c = slot_read _ _ c.order_of.ensures c.order_of-2.ensures

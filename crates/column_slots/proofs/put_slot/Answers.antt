-- `column_slots::put_slot` meets its contract. Assumes nothing.
use Rattle.column_slots.proofs.Slots.{slot_put}
use Rattle.column_slots.proofs.put_slot.Goals as goal

pub returns : goal.returns
returns c = slot_put c.args.slots.now c.args.k c.args.pair c.args.w c.order_code-source_code.ensures c.order_code-code.ensures c.requires.0 c.requires.1 c.requires.2 c.put.ensures

-- `table::read::layout_at` meets its contract. Assumes nothing.
use Rattle.table.proofs.Coded.{layout_read}
use Rattle.table.proofs.read.layout_at.Goals as goal

pub returns : goal.returns
returns c = (
  layout_read _ _ c.type_word.ensures c.class_of-class.ensures c.type_word-size.ensures
      c.type_word-2.ensures c.order_of-order.ensures
      c.type_word-offset.ensures c.type_word-precision.ensures
      c.type_word-3.ensures c.pad_of-lsb.ensures
      c.type_word-4.ensures c.pad_of-msb.ensures
      c.type_word-5.ensures c.flag_of-signed.ensures,
  c.type_word-size.ensures.small,
)

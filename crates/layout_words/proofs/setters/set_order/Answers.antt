-- `layout_words::setters::set_order` meets its contract. Assumes nothing.
use Rattle.layout.specs.Setters.Edit.{order}
use Rattle.layout_words.proofs.Edits.{size_fits}
use Rattle.layout_words.proofs.setters.set_order.Goals as goal

pub put-requires : goal.put-requires
put-requires c = size_fits _ (order _) c.set_order-e.ensures c.layout_of.ensures.size_bound

pub returns : goal.returns
returns c = simp (c.both.ensures, c.is_coded.ensures, c.set_order-e.ensures, c.order_of.ensures, c.layout_of.ensures.value) at c.put.ensures

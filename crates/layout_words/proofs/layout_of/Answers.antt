-- `layout_words::layout_of` meets its contract. Assumes nothing.
use Rattle.layout_words.specs.Codes.{layout_of}
use borrow.Author.Rules.{rules}
use Rattle.layout_words.proofs.layout_of.Goals as goal

pub returns : goal.returns
unfolding layout_of
returns c = record { value = rw (c.class_of-class.ensures, c.wide-size.ensures.0, c.order_of-order.ensures, c.pad_of-lsb.ensures, c.pad_of-msb.ensures); size_bound = search rules }

-- `layout_words::layout_words` meets its contract. Assumes nothing.
use Rattle.layout_words.proofs.layout_words.Goals as goal

pub returns : goal.returns
returns c = rw (c.class_code.ensures, c.order_code.ensures, c.pad_code.ensures, c.pad_code-2.ensures, c.sign_code.ensures)

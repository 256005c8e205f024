-- `pair_words::is_whole` meets its contract. Assumes nothing.
use borrow.Author.Tests.{eq-eqb, ne_eqb}
use Rattle.pair_words.proofs.is_whole.Goals as goal

pub returns-then-m-ne0 : goal.returns-then-m-ne0
returns-then-m-ne0 c = rw (ne_eqb _ 0 c.if-m-ne0.true)

pub returns : goal.returns
returns c = rw (eq-eqb _ 0 c.if-m-ne0.false, c.bits_of.ensures)

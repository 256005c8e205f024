-- `layout_words::order_of` meets its contract. Assumes nothing.
use borrow.Author.Tests.{eq-eqb, ne_eqb}
use Rattle.layout_words.proofs.order_of.Goals as goal

pub returns-then-n-eq-LE : goal.returns-then-n-eq-LE
returns-then-n-eq-LE c = rw (eq-eqb _ _ c.if-n-eq-LE.true)

pub returns-else-n-eq-LE : goal.returns-else-n-eq-LE
returns-else-n-eq-LE c = rw (ne_eqb _ _ c.if-n-eq-LE.false)

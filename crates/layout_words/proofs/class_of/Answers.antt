-- `layout_words::class_of` meets its contract. Assumes nothing.
use borrow.Author.Tests.{eq-eqb, ne_eqb}
use Rattle.layout_words.proofs.class_of.Goals as goal

pub returns-then-n-eq-INT : goal.returns-then-n-eq-INT
returns-then-n-eq-INT c = rw (eq-eqb _ _ c.if-n-eq-INT.true)

pub returns-else-n-eq-INT : goal.returns-else-n-eq-INT
returns-else-n-eq-INT c = rw (ne_eqb _ _ c.if-n-eq-INT.false)

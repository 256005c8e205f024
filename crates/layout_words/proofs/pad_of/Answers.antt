-- `layout_words::pad_of` meets its contract. Assumes nothing.
use borrow.Author.Tests.{eq-eqb, ne_eqb}
use Rattle.layout_words.proofs.pad_of.Goals as goal

pub returns-then-n-eq-ZERO : goal.returns-then-n-eq-ZERO
returns-then-n-eq-ZERO c = rw (eq-eqb _ _ c.if-n-eq-ZERO.true)

pub returns-then-n-eq-ONE : goal.returns-then-n-eq-ONE
returns-then-n-eq-ONE c = rw (ne_eqb _ _ c.if-n-eq-ZERO.false, eq-eqb _ _ c.if-n-eq-ONE.true)

pub returns-else-n-eq-ONE : goal.returns-else-n-eq-ONE
returns-else-n-eq-ONE c = rw (ne_eqb _ _ c.if-n-eq-ZERO.false, ne_eqb _ _ c.if-n-eq-ONE.false)

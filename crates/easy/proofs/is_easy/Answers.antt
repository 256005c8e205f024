-- `easy::is_easy` meets its contract. Assumes nothing.
use mathlib.Core.Path.{sym, ◌∙◌}
use borrow.Author.Tests.{eq-eqb, ne_eqb}
use Rattle.easy.proofs.is_easy.Goals as goal

pub returns-then-m-ne0 : goal.returns-then-m-ne0
returns-then-m-ne0 c = rw (ne_eqb _ 0 c.if-m-ne0.true)

pub returns-then-m-bits_of : goal.returns-then-m-bits_of
returns-then-m-bits_of c = rw (eq-eqb _ 0 c.if-m-ne0.false, ne_eqb _ _ (λ e. c.if-m-bits_of.true (e ∙ sym c.bits_of.ensures)))

pub returns : goal.returns
returns c = rw (eq-eqb _ 0 c.if-m-ne0.false, eq-eqb _ _ (c.if-m-bits_of.false ∙ c.bits_of.ensures)) c.inside.ensures

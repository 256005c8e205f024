-- `same_bytes::is_same_word` meets its contract. Assumes nothing.
use mathlib.Core.Path.{sym, ◌∙◌}
use borrow.Author.Tests.{eqb-true}
use Rattle.same_bytes.proofs.is_same_word.Goals as goal

pub returns : goal.returns
returns c e = sym c.type_word-a.ensures.is ∙ eqb-true _ _ e ∙ c.type_word-b.ensures.is

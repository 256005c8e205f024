-- `easy::put_words` meets its contract. Assumes nothing.
use mathlib.Core.Path.{sym, ◌∙◌}
use borrow.Author.Rules.{rules}
use Rattle.easy.proofs.Words.{has_words}
use Rattle.easy.proofs.put_words.Goals as goal

pub put_easy-requires : goal.put_easy-requires
put_easy-requires c =
    let h = has_words _ _ (sym c.have_words.ensures ∙ c.if-have_words.true) in
    (h.0, h.1, h.2, search rules)

pub returns-then-have_words : goal.returns-then-have_words
returns-then-have_words c = rw (sym c.have_words.ensures ∙ c.if-have_words.true) c.put_easy.ensures

pub returns : goal.returns
returns c = rw (sym c.have_words.ensures ∙ c.if-have_words.false) c.put_four.ensures

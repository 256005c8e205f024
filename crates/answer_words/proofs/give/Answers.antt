-- `answer_words::give` meets its contract. Assumes nothing.
use mathlib.Core.Path.{refl}
use borrow.Author.Rules.{rules}
use Rattle.answer_words.proofs.give.Goals as goal

pub returns : goal.returns
returns c = record { number = search rules; written = rw (c.number_of-number.ensures, c.values_of-v.ensures) refl }

-- `text::name_at` meets its contract. Assumes nothing.
use borrow.Author.Rules.{rules}
use Rattle.text.specs.Field.{name}
use Rattle.text.specs.Place.{name_at}
use Rattle.text.proofs.Scans.{asked, end_fits}
use Rattle.text.proofs.name_at.Goals as goal

pub overflow_add-at : goal.overflow_add-at
overflow_add-at c = rw c.field_at-name.ensures (search (rules, end_fits))

pub returns : goal.returns
unfolding name_at name
returns c = rw (c.then_some.ensures, c.is_name.ensures, c.field_at-name.ensures) (asked _ _ _)

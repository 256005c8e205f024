-- `name_compare::has_name` meets its contract. Assumes nothing.
use mathlib.Core.Path.{sym, ◌∙◌}
use Rattle.table.proofs.Same.{same_length}
use Rattle.name_compare.proofs.has_name.Goals as goal

pub returns-else-len-n : goal.returns-else-len-n
returns-else-len-n c = sym (same_length _ _ _ _ _ _ (λ e. c.if-len-n.false (e ∙ sym c.row_word-n.ensures.is)))

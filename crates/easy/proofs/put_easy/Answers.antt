-- `easy::put_easy` meets its contract. Assumes nothing.
use mathlib.Core.Path.{◌∙◌}
use Rattle.easy.proofs.put_easy.Goals as goal

pub returns : goal.returns
returns c = c.put_four.ensures ∙ rw (c.carry_of-carry.ensures, c.pack_easy-code.ensures)

-- `layout_words::setters::set_sign` meets its contract. Assumes nothing.
use Rattle.layout.specs.Setters.Edit.{sign}
use Rattle.layout_words.proofs.Edits.{size_fits}
use Rattle.layout_words.proofs.setters.set_sign.Goals as goal

pub put-requires : goal.put-requires
put-requires c = size_fits _ (sign _) c.set_sign-e.ensures c.layout_of.ensures.size_bound

pub returns : goal.returns
returns c = simp (c.both.ensures, c.is_coded.ensures, c.set_sign-e.ensures, c.layout_of.ensures.value) at c.put.ensures

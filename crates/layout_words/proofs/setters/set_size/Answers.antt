-- `layout_words::setters::set_size` meets its contract. Assumes nothing.
use Rattle.layout.specs.Setters.Edit.{size}
use Rattle.layout_words.proofs.Edits.{size_fits}
use Rattle.layout_words.proofs.setters.set_size.Goals as goal

pub put-requires : goal.put-requires
put-requires c = size_fits _ (size _) c.set_size-e.ensures c.layout_of.ensures.size_bound

pub returns : goal.returns
returns c = simp (c.is_coded.ensures, c.set_size-e.ensures, c.layout_of.ensures.value) at c.put.ensures

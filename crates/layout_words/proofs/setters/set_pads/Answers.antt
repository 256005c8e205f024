-- `layout_words::setters::set_pads` meets its contract. Assumes nothing.
use Rattle.layout.specs.Setters.Edit.{pads}
use Rattle.layout_words.proofs.Edits.{size_fits}
use Rattle.layout_words.proofs.setters.set_pads.Goals as goal

pub put-requires : goal.put-requires
put-requires c = size_fits _ (pads _ _) c.set_pads-e.ensures c.layout_of.ensures.size_bound

pub returns : goal.returns
returns c = simp (c.both-2.ensures, c.both.ensures, c.is_coded.ensures, c.set_pads-e.ensures, c.pad_of-2.ensures, c.pad_of.ensures, c.layout_of.ensures.value) at c.put.ensures

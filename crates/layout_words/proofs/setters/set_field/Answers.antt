-- `layout_words::setters::set_field` meets its contract. Assumes nothing.
use Rattle.layout.specs.Setters.Edit.{field}
use Rattle.layout_words.proofs.Edits.{size_fits}
use Rattle.layout_words.proofs.setters.set_field.Goals as goal

pub put-requires : goal.put-requires
put-requires c = size_fits _ (field _ _) c.set_field-e.ensures c.layout_of.ensures.size_bound

pub returns : goal.returns
returns c = simp (c.is_coded.ensures, c.set_field-e.ensures, c.layout_of.ensures.value) at c.put.ensures

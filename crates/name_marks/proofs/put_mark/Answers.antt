-- `name_marks::put_mark` meets its contract. Assumes nothing.
use mathlib.Core.Path.{refl}
use Rattle.name_marks.specs.Marks.{mark_put}
use Rattle.name_marks.proofs.put_mark.Goals as goal

pub returns : goal.returns
unfolding mark_put
returns c = refl

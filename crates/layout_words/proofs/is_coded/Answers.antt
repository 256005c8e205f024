-- `layout_words::is_coded` meets its contract. Assumes nothing.
use Rattle.layout_words.specs.Codes.{is_coded}
use Rattle.layout_words.proofs.is_coded.Goals as goal

pub returns : goal.returns
unfolding is_coded
returns c = simp (c.both-named.ensures, c.both-pads.ensures, c.both.ensures) at c.both-2.ensures

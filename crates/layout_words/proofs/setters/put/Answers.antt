-- `layout_words::setters::put` meets its contract. Assumes nothing.
use Rattle.layout_words.proofs.Edits.{put_ends}
use Rattle.layout_words.proofs.setters.put.Goals as goal

pub returns-then-not-coded : goal.returns-then-not-coded
returns-then-not-coded c = search put_ends

pub returns : goal.returns
returns c = search put_ends

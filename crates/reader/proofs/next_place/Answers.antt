-- `reader::next_place` meets its contract: the line from i on ends where the whole line ends. Assumes nothing.
use Rattle.reader.proofs.Lines.{next_laws}
use Rattle.reader.proofs.next_place.Goals as goal

pub returns-then-s-i-eq10 : goal.returns-then-s-i-eq10
returns-then-s-i-eq10 c = search next_laws

pub loop-i-preserved : goal.loop-i-preserved
loop-i-preserved c = search next_laws

pub returns : goal.returns
returns c = search next_laws

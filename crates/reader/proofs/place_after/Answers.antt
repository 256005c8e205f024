-- `reader::place_after` meets its contract: from the place, the lines that are left lead to the same place as all lines from the start. Assumes nothing.
use Rattle.reader.proofs.Lines.{skip_laws}
use Rattle.reader.proofs.place_after.Goals as goal

pub loop-init : goal.loop-init
loop-init c = search skip_laws

pub loop-preserved : goal.loop-preserved
loop-preserved c = search skip_laws

pub returns : goal.returns
returns c = search skip_laws

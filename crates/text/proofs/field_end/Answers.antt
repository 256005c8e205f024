-- `text::field_end` meets its contract: the field from i on ends where the whole field ends. Assumes nothing.
use Rattle.text.proofs.Scans.{end_laws}
use Rattle.text.proofs.field_end.Goals as goal

pub returns-then-ends : goal.returns-then-ends
returns-then-ends c = search end_laws

pub loop-i-preserved : goal.loop-i-preserved
loop-i-preserved c = search end_laws

pub returns : goal.returns
returns c = search end_laws

-- `reader::line_numbered` meets its contract: what the three calls say of their results, put together.
use Rattle.reader.proofs.Lines.{numbered}
use Rattle.reader.proofs.line_numbered.Goals as goal

pub returns : goal.returns
returns c = cc (numbered c.args.k 0 c.args.sheet.now)

-- `difference_text::put_header` meets its contract. Assumes nothing.
use Rattle.text.proofs.Written.{wrote}
use Rattle.difference_text.proofs.put_header.Goals as goal

pub returns : goal.returns
returns c = wrote c.args.list.now 0 c.requires c.put_bytes.ensures

-- `fitting::given_raw` meets its contract: what it picks (`Given`). Assumes nothing.
use Rattle.fitting.proofs.Given.{given_picked}
use Rattle.fitting.proofs.given_raw.Goals as goal

pub returns : goal.returns
returns c = rw c.ones.ensures (given_picked c.args.p c.args.raw c.requires.0 c.requires.2)

-- `planning::put_entry` meets its contract. Assumes nothing.
use borrow.Author.Rules.{rules}
use Rattle.paths.specs.Plan.{entry_put}
use Rattle.planning.proofs.put_entry.Goals as goal

pub returns : goal.returns
unfolding entry_put
returns c = search rules

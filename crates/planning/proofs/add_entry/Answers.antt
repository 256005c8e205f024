-- `planning::add_entry` meets its contract. Assumes nothing.
use Rattle.paths.proofs.Entries.{add_laws}
use Rattle.planning.proofs.add_entry.Goals as goal

pub returns : goal.returns
returns c = search add_laws

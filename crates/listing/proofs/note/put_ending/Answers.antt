-- `listing::note::put_ending` meets its contract. Assumes nothing.
use Rattle.listing.proofs.Writes.{ending_laws}
use Rattle.listing.proofs.note.put_ending.Goals as goal

pub returns-then-ended : goal.returns-then-ended
returns-then-ended c = search ending_laws

pub returns : goal.returns
returns c = search ending_laws

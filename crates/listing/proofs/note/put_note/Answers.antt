-- `listing::note::put_note` meets its contract. Assumes nothing.
use Rattle.listing.proofs.Writes.{note_laws}
use Rattle.listing.proofs.note.put_note.Goals as goal

pub returns-then-k-eq0 : goal.returns-then-k-eq0
returns-then-k-eq0 c = search note_laws

pub put_line-requires : goal.put_line-requires
put_line-requires c = search note_laws

pub returns : goal.returns
returns c = search note_laws

-- `listing::note::put_shown` meets its contract: the first k bytes are written. Assumes nothing.
use Rattle.std.proofs.Common.{◌≡◌, length, map}
use lib.Seq.{paste}
use Rattle.listing.specs.Note.{shown}
use Rattle.listing.proofs.note.put_shown.Given as goal

abbrev pub invariant-loop-k : goal.invariant-loop-k
invariant-loop-k l = (length l.out ≡ length l.initial.out) × (l.out ≡ paste l.initial.out l.at (map shown l.line) l.k)

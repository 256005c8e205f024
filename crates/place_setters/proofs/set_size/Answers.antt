-- `place_setters::set_size` meets its contract. Assumes nothing.
use mathlib.Core.Path.{ap}
use mathlib.Core.Bool.{not}
use Rattle.layout.specs.Setters.{set_size}
use Rattle.layout.proofs.Edits.{holds}
use Rattle.place_setters.proofs.set_size.Goals as goal

pub returns : goal.returns
unfolding set_size
returns c =
    let s = holds c.size_allowed.ensures (ap not c.if-not-size_allowed.false) in
    rw s (simp (c.bits_of-whole.ensures, c.min-precision.ensures, c.min.ensures) at c.changed.ensures)

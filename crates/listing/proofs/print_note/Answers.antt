-- The note lies at the front of the buffer. Assumes nothing.
use mathlib.Core.Path.{sym, subst}
use native.Mathlib.Omega.{arith}
use lib.Seq.{length-take-le}
use Rattle.std.specs.Io.KnownBytes.{Appends}
use Rattle.listing.proofs.Outputs.{wrote_inside}
use Rattle.listing.proofs.Whole.{front, on_ok}
use Rattle.listing.proofs.print_note.Goals as goal

pub slice_bounds-note-end : goal.slice_bounds-note-end
slice_bounds-note-end g c = wrote_inside c.put_note-n.ensures

pub slice_bounds-write_all-end : goal.slice_bounds-write_all-end
slice_bounds-write_all-end g c = sym (length-take-le _ _ (wrote_inside c.put_note-n.ensures))

pub returns : goal.returns
returns g c =
    let w = c.put_note-n.ensures in
    on_ok _ (subst (Appends _ _) (front _ _ w.is (omega (arith, w.ends)))) c.write_all.ensures.bytes

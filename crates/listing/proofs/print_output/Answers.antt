-- What is printed lies at the front of the buffer. Assumes nothing.
use mathlib.Core.Path.{sym, subst}
use lib.Seq.{length-take-le}
use Rattle.std.specs.Io.KnownBytes.{Appends}
use Rattle.std.proofs.KnownBytes.{Appends-nil}
use Rattle.listing.proofs.Outputs.{output_inside}
use Rattle.listing.proofs.Whole.{output_printed, nothing_said, fault_said, known_ok, on_ok}
use Rattle.listing.proofs.print_output.Goals as goal

pub slice_bounds-bytes-end : goal.slice_bounds-bytes-end
slice_bounds-bytes-end g c =
    let p = c.put_output-output in
    output_inside _ _ p.auto.out p.ensures.long p.ensures.bytes

pub slice_bounds-write_all-end : goal.slice_bounds-write_all-end
slice_bounds-write_all-end g c =
    let p = c.put_output-output in
    sym (length-take-le _ _ (output_inside _ _ p.auto.out p.ensures.long p.ensures.bytes))

pub returns-in-Some-clause-printed : goal.returns-in-Some-clause-printed
returns-in-Some-clause-printed g c =
    let p = c.put_output-output in
    known_ok _ (subst (Appends _ _) (output_printed _ _ p.ensures.long p.ensures.bytes) c.in_ok-write_all.ensures.bytes)

pub returns-in-Some-clause-said : goal.returns-in-Some-clause-said
returns-in-Some-clause-said g c =
    let p = c.put_output-output in
    on_ok _ (subst (Appends _ _) (sym (fault_said _ p.ensures.faulty c.in-Some.is))) c.print_note.ensures

pub returns-in-None-clause-printed : goal.returns-in-None-clause-printed
returns-in-None-clause-printed g c =
    let p = c.put_output-output in
    subst (Appends _ _) (output_printed _ _ p.ensures.long p.ensures.bytes) c.in_ok-write_all.ensures.bytes

pub returns-in-None-clause-said : goal.returns-in-None-clause-said
returns-in-None-clause-said g c =
    let p = c.put_output-output in
    subst (Appends _ _) (sym (nothing_said _ p.ensures.faulty c.in-None.is)) (Appends-nil _)

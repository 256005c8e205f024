-- `converting::convert_planned` meets its contract. Assumes nothing.
use Rattle.conversion.specs.Call.{form_of, source_of, background_of}
use Rattle.conversion.proofs.Checking.{target_is}
use Rattle.conversion.proofs.Parts.{converts, stops_with}
use Rattle.converting.proofs.convert_planned.Goals as goal

pub stopped_by-requires : goal.stopped_by-requires
stopped_by-requires c = (c.args.destination_size, c.requires.0, c.requires.1)

pub returns-in-Some : goal.returns-in-Some
returns-in-Some c =
    let a = c.args in
    let source = source_of a.in_place a.out.now a.other.now in
    λ j h few decided.
    rw (target_is a.in_place a.out.now a.other.now) at
    (stops_with (form_of a.in_place) a.count source (background_of a.in_place a.out.now a.other.now) j.source j.destination h
    (rw c.in-Some.is at (c.stopped_by.ensures _ j h few decided)))

pub returns : goal.returns
returns c =
    let a = c.args in
    let source = source_of a.in_place a.out.now a.other.now in
    λ j h few decided.
    converts (form_of a.in_place) a.count source (background_of a.in_place a.out.now a.other.now) j.source j.destination h _ _
    (rw c.in_default.is at (c.stopped_by.ensures _ j h few decided)) (c.convert_records.ensures j)

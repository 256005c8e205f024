-- `converting::stopped_by` meets its contract. Assumes nothing.
use mathlib.Core.Path.{ap, subst, ◌∙◌}
use mathlib.Core.List.{List}
use Rattle.loops.specs.Stops.{stop_by}
use Rattle.records.specs.Plan.{Entry}
use Rattle.conversion.specs.Call.{source_of, Decided}
use Rattle.conversion.proofs.Parts.{stop_says}
use Rattle.obeying.proofs.StopMatches.{whole_plan}
use Rattle.converting.proofs.stopped_by.Goals as goal

pub returns-then-scan : goal.returns-then-scan
returns-then-scan c =
    let a = c.args in
    let source = source_of a.in_place a.out.now a.other.now in
    λ d j h few decided.
    stop_says a.count source j.source j.destination h a.source_size few j.source_size
    (c.first_stop.ensures d j
    ∙ ap (λ (es : List Entry). stop_by es a.source_size source 0 a.count)
    (whole_plan h j.destination j.destination_formed (subst (Decided h j.source j.destination a.count source) c.if-scan.true decided) j.source))

pub returns : goal.returns
returns c =
    let a = c.args in
    let source = source_of a.in_place a.out.now a.other.now in
    λ d j h few decided. subst (Decided h j.source j.destination a.count source) c.if-scan.false decided

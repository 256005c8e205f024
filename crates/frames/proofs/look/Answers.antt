-- `frames::look` meets its contract. Assumes nothing.
use Rattle.conversion.specs.Call.{source_of}
use Rattle.conversion.proofs.Parts.{obeys_decided}
use Rattle.frames.proofs.look.Goals as goal

pub returns-in-Some : goal.returns-in-Some
returns-in-Some c = rw c.in-Some.is at c.look_by_plan.ensures

pub returns-in-None : goal.returns-in-None
returns-in-None c = rw c.in-None.is at c.look_by_plan.ensures

pub returns : goal.returns
returns c =
    let a = c.args in
    obeys_decided a.x.handling _ _ a.x.count (source_of a.x.in_place a.out.now a.other.now) c.requires.1
    (λ b. c.asks_other.ensures c.if-asks_other.false _ b)

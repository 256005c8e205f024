-- `enum_leaf::raw_code` meets its contract: by the route. Assumes nothing.
use Rattle.plans.proofs.LeafSteps.{spanned, looked_up}
use Rattle.enum_leaf.proofs.raw_code.Goals as goal

pub returns-then-route_in-lt-LOOKED_UP : goal.returns-then-route_in-lt-LOOKED_UP
returns-then-route_in-lt-LOOKED_UP c = spanned _ _ _ _ _ _ _ c.at.ensures c.route_in.ensures.0 (rw (← c.requires.1) c.requires.2) c.requires.4 c.if-route_in-lt-LOOKED_UP.true c.span_code.ensures.0

pub returns : goal.returns
returns c = looked_up _ _ _ _ _ _ _ c.at.ensures c.route_in.ensures.0 c.number_of.result c.split-z.result c.if-route_in-lt-LOOKED_UP.false c.requires.1 c.number_of.ensures c.split-z.ensures c.looked_code.ensures

-- `planning::stop_match` meets its contract. Assumes nothing.
use Rattle.obeying.proofs.StopMatches.{match_clamped}
use Rattle.planning.proofs.stop_match.Goals as goal

pub returns-then-obeyed-eq-CLAMP : goal.returns-then-obeyed-eq-CLAMP
returns-then-obeyed-eq-CLAMP c =
    λ ws ts i td E fs fd of found.
    match_clamped _ _ _ _ c.handling_at-obeyed.ensures _ ws ts i td E fs fd of found c.if-obeyed-eq-CLAMP.true c.step_of.ensures

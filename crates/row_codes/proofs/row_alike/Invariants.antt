-- `row_codes::row_alike` meets its contract. The invariant: the row is among those that are left. Assumes nothing.
use mathlib.Core.Path.{◌≡◌}
use Rattle.plans.specs.PlanWords.{row_alike}
use Rattle.row_codes.proofs.row_alike.Given as goal

abbrev pub invariant-loop-i : goal.invariant-loop-i
invariant-loop-i l = row_alike l.words l.id l.first l.n ≡ row_alike l.words l.id l.first l.i

-- `name_ids::none_looked_up` meets its contract. The invariant: the first i entries have other routes. Assumes nothing.
use Prim.Native.Nat.{ℕ, ◌<◌}
use lib.ListN.{get_or}
use Rattle.entry_code.specs.Code.{route_in}
use Rattle.plans.specs.PlanWords.{words_place}
use Rattle.name_ids.proofs.none_looked_up.Given as goal

abbrev pub invariant-loop-i : goal.invariant-loop-i
invariant-loop-i l = (t : ℕ) → t < l.i → route_in (get_or l.words (words_place t) 0) < 7

-- `obeying::asks_other` meets its contract. The invariant: no type so far has a member that asks for another handling. Assumes nothing.
use Rattle.obeying.proofs.NoOther.{TypesObey}
use Rattle.obeying.proofs.asks_other.Given as goal

abbrev pub invariant-loop-k : goal.invariant-loop-k
invariant-loop-k l = TypesObey l.half l.handling l.k

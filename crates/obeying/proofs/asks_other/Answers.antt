-- `obeying::asks_other` meets its contract. The invariant: no type so far has a member that asks for another handling. Assumes nothing.
use native.Mathlib.Omega.{arith}
use Rattle.obeying.proofs.NoOther.{types_more, obeys_call, obeys_call_all}
use Rattle.obeying.proofs.asks_other.Goals as goal

pub returns-then-type_number-k : goal.returns-then-type_number-k
returns-then-type_number-k c = λ e. obeys_call _ _ _ _ c.if-type_number-k.true c.loop-k.invariant

pub loop-k-preserved : goal.loop-k-preserved
loop-k-preserved c = types_more _ _ _ c.loop-k.invariant (c.type_asks.ensures c.if-type_asks.false)

pub returns : goal.returns
returns c = λ e. obeys_call_all _ _ _ _ (omega arith) c.loop-k.invariant

-- `one_record::write_record` meets its contract. The loop's invariant: what is left to write and to count, from entry i on. Assumes nothing.
use mathlib.Core.Path.{◌∙◌}
use native.Mathlib.Omega.{arith}
use Rattle.plans.proofs.Entries.{entry_ready, left_turn, left_end}
use Rattle.one_record.proofs.write_record.Goals as goal

pub write_entry-kind-requires : goal.write_entry-kind-requires
write_entry-kind-requires c = rw c.loop-i.invariant.0 (entry_ready _ _ _ _ _ _ _ c.requires c.loop-i.i (omega arith) _ c.entry-e.ensures.0)

pub loop-i-preserved : goal.loop-i-preserved
loop-i-preserved c =
    let call = c.write_entry-kind in
    (call.auto.dst ∙ c.loop-i.invariant.0, omega arith, λ p. left_turn _ _ _ _ _ _ _ p _ _ c.loop-i.i c.loop-i.raised _ c.loop-i.dst _ (omega arith) (c.loop-i.invariant.2 p) c.entry-e.ensures.0 call.ensures c.counted-raised.ensures.0)

pub returns : goal.returns
returns c = λ p. left_end _ _ _ _ _ _ _ p _ _ c.loop-i.i c.loop-i.raised c.loop-i.dst (omega arith) (c.loop-i.invariant.2 p)

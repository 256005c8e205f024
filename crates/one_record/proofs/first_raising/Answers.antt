-- `one_record::first_raising` meets its contract. The loop's invariant: the first that raises is among the entries from i on. Assumes nothing.
use native.Mathlib.Omega.{arith}
use Rattle.plans.proofs.Entries.{entry_ready, first_turn, first_found, first_end}
use Rattle.one_record.proofs.first_raising.Goals as goal

pub entry_kind-kind-requires : goal.entry_kind-kind-requires
entry_kind-kind-requires c = (_, entry_ready _ _ _ _ _ _ _ c.requires.1 c.loop-i.i (omega arith) _ c.entry-e.ensures.0)

pub given_at-given-requires : goal.given_at-given-requires
given_at-given-requires c =
    let h = entry_ready _ _ _ _ _ _ _ c.requires.1 c.loop-i.i (omega arith) _ c.entry-e.ensures.0 in
    ((h.pair.source_text, h.pair.source), h.read)

pub returns-then-kind-ne0 : goal.returns-then-kind-ne0
returns-then-kind-ne0 c = λ d p. first_found _ _ _ _ _ _ _ p _ c.loop-i.i _ (omega arith) (c.loop-i.invariant d p) c.entry-e.ensures.0 c.entry_kind-kind.ensures c.if-kind-ne0.true c.given_at-given.ensures

pub loop-i-preserved : goal.loop-i-preserved
loop-i-preserved c = λ d p. first_turn _ _ _ _ _ _ _ p _ c.loop-i.i _ (omega arith) (c.loop-i.invariant d p) c.entry-e.ensures.0 c.entry_kind-kind.ensures c.if-kind-ne0.false

pub returns : goal.returns
returns c = λ d p. first_end _ _ _ _ _ _ _ p _ c.loop-i.i (omega arith) (c.loop-i.invariant d p)

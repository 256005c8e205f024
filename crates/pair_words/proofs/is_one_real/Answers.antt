-- `pair_words::is_one_real` meets its contract. Assumes nothing.
use Rattle.plans.proofs.Spans.{one_from, one_to}
use Rattle.pair_words.proofs.is_one_real.Goals as goal

pub returns-then-from-eq-REAL : goal.returns-then-from-eq-REAL
returns-then-from-eq-REAL c = one_from _ _ _ _ c.type_word-from.ensures c.type_word-to.ensures c.if-from-eq-REAL.true

pub returns-else-from-eq-REAL : goal.returns-else-from-eq-REAL
returns-else-from-eq-REAL c = one_to _ _ _ _ c.type_word-from.ensures c.type_word-to.ensures c.if-from-eq-REAL.false

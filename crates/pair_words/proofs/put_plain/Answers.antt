-- `pair_words::put_plain` meets its contract. Assumes nothing.
use mathlib.Core.Path.{◌∙◌}
use Rattle.plans.specs.PlanEntries.{plain_words}
use Rattle.pair_words.proofs.put_plain.Goals as goal

pub put_real-requires : goal.put_real-requires
put_real-requires c = (rw c.layout_at-l.ensures.0 c.requires.0, rw c.layout_at-m.ensures.0 c.requires.1, c.requires.2)

pub returns-then-is_one_real : goal.returns-then-is_one_real
unfolding plain_words
returns-then-is_one_real c = rw (← c.is_one_real.ensures, c.if-is_one_real.true) (c.put_real.ensures ∙ rw (c.is_real-from_real.ensures, c.layout_at-m.ensures.0, c.layout_at-l.ensures.0))

pub returns : goal.returns
unfolding plain_words
returns c = rw (← c.is_one_real.ensures, c.if-is_one_real.false) (c.put_words.ensures ∙ rw (c.layout_at-m.ensures.0, c.layout_at-l.ensures.0))

-- `pair_words::span_word` meets its contract: by the tests for bits beside the number. Assumes nothing.
use mathlib.Core.Path.{◌∙◌}
use native.Mathlib.Omega.{arith}
use Rattle.plans.proofs.Spans.{word_slow, word_read}
use Rattle.pair_words.proofs.span_word.Goals as goal

pub returns-then-m-ne0 : goal.returns-then-m-ne0
returns-then-m-ne0 c = word_slow _ _

pub bits_of-requires : goal.bits_of-requires
bits_of-requires c = rw c.layout_at-m.ensures.0 (omega (arith, c.requires.1.sized))

pub returns-then-m-bits_of : goal.returns-then-m-bits_of
returns-then-m-bits_of c = word_slow _ _

pub fast_word-requires : goal.fast_word-requires
fast_word-requires c = rw (c.layout_at.ensures.0, c.layout_at-m.ensures.0) c.requires

pub returns : goal.returns
returns c = word_read _ _ _ _ c.requires c.layout_at.ensures.0 c.layout_at-m.ensures.0 c.if-m-ne0.false (c.if-m-bits_of.false ∙ c.bits_of.ensures) c.fast_word.ensures

-- `enum_spans::span_of` meets its contract: with nothing between the ends there are no rows. Assumes nothing.
use native.Mathlib.Omega.{arith}
use Rattle.plans.proofs.Spans.{rows_asked, span_some, span_none}
use Rattle.enum_spans.proofs.span_of.Goals as goal

pub ends_of-e-requires : goal.ends_of-e-requires
ends_of-e-requires c = rows_asked _ _ c.type_word-first.ensures c.symbol_rows.ensures c.layout_at-l.ensures.0 c.requires c.if-l-gt-WORD_BITS.false

pub returns-then-end-low : goal.returns-then-end-low
returns-then-end-low c = span_none _ _ c.type_word-first.ensures c.symbol_rows.ensures c.layout_at-l.ensures.0 c.ends_of-e.ensures.0 _ c.if-end-low.true

pub returns : goal.returns
returns c =
    span_some _ _ c.type_word-first.ensures c.symbol_rows.ensures c.layout_at-l.ensures.0 c.ends_of-e.ensures.0 _ _ (omega (arith, c.if-end-low.false)) c.ends_of-e.ensures.2
    c.min.ensures c.if-min-end.false

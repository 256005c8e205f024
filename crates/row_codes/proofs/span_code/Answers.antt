-- `row_codes::span_code` meets its contract: below the span, in it, and above it. Assumes nothing.
use Rattle.plans.proofs.LeafSteps.{span_below, span_above, span_inside}
use Rattle.row_codes.proofs.span_code.Goals as goal

pub returns-then-raw-lowest : goal.returns-then-raw-lowest
returns-then-raw-lowest c = span_below _ _ _ c.at-lowest.ensures c.if-raw-lowest.true

pub returns-then-i-at : goal.returns-then-i-at
returns-then-i-at c = span_inside _ _ _ c.at-lowest.ensures c.if-raw-lowest.false c.at.ensures c.if-i-at.true c.at-then-i-at.ensures c.word.ensures

pub returns : goal.returns
returns c = span_above _ _ _ c.at-lowest.ensures c.if-raw-lowest.false c.at.ensures c.if-i-at.false

-- `enum_spans::put_symbols` meets its contract. The loop's invariant: the words are as the first i rows tell. Assumes nothing.
use native.Mathlib.Omega.{arith}
use Rattle.plans.proofs.Spans.{symbols_begin, symbols_more, symbols_all}
use Rattle.enum_spans.proofs.put_symbols.Goals as goal

pub loop-i-init : goal.loop-i-init
loop-i-init c = symbols_begin _ _ _ _ _ _ _ _ _ c.type_word-first.ensures c.symbol_rows-rows.ensures c.layout_at-l.ensures.0 _ c.requires.5

pub loop-i-preserved : goal.loop-i-preserved
loop-i-preserved c =
    let o = c.loop-i in
    symbols_more _ _ _ _ _ _ _ _ _ c.type_word-first.ensures c.symbol_rows-rows.ensures c.layout_at-l.ensures.0 _ o.i o.words _ c.requires.0 c.requires.3 c.loop-i-test.true o.invariant c.value_bits-bits.ensures
    c.named_row-code.ensures c.put_code.ensures

pub returns : goal.returns
returns c =
    let o = c.loop-i in
    symbols_all _ _ _ _ _ _ _ _ _ c.type_word-first.ensures c.symbol_rows-rows.ensures c.layout_at-l.ensures.0 _ _ (omega arith) (omega arith) o.invariant

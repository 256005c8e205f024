-- `enum_spans::put_symbols` meets its contract. The loop's invariant: the words are as the first i rows tell. Assumes nothing.
use Prim.Native.Nat.{◌+◌}
use Rattle.plans.specs.Spans.{WordsPut, code_among}
use Rattle.enum_spans.proofs.put_symbols.Given as goal

abbrev pub invariant-loop-i : goal.invariant-loop-i
invariant-loop-i l = WordsPut l.initial.words l.base l.count (λ q. code_among l.source_half l.source_sheet l.destination_half l.destination_sheet l.source_type l.destination_type l.i (l.low + q)) l.words

-- `pair_words::put_enum` meets its contract: by whether there is a span, and room for it. Assumes nothing.
use mathlib.Core.Path.{subst}
use native.Mathlib.Omega.{arith}
use Rattle.datatype.specs.WellFormed.{WellFormedLeaf}
use Rattle.namesakes.proofs.Named.{symbols_once}
use Rattle.plans.proofs.LeafSteps.{leaf_enum}
use Rattle.plans.proofs.Spans.{symbols_formed, pair_valid, span_asked, put_looked, put_spanned}
use Rattle.pair_words.proofs.put_enum.Goals as goal

pub span_of-requires : goal.span_of-requires
span_of-requires c = symbols_formed _ _ _ _ _ _ c.requires.0

pub returns-in_default : goal.returns-in_default
returns-in_default c = (put_looked _ _ _ _ _ _ _ _ _ c.requires.2 c.requires.1 c.put_four.ensures, c.requires.2.within)

pub span_word-code-requires : goal.span_word-code-requires
span_word-code-requires c = pair_valid _ _ _ _ _ _ c.requires.0

pub put_span-requires : goal.put_span-requires
put_span-requires c =
    let room = span_asked _ _ _ _ _ _ _ _ _ _ c.requires.2 c.requires.0 (rw c.in-Some.is at c.span_of.ensures) c.put_four-2.ensures in
    (room.0, room.1, symbols_once _ _ _ _ _ (subst WellFormedLeaf (leaf_enum _ _ _ c.requires.1) c.requires.0.destination).symbols, room.2, room.3)

pub returns : goal.returns
returns c =
    let of = rw c.in-Some.is at c.span_of.ensures in
    (put_spanned _ _ _ _ _ _ _ _ _ c.requires.2 c.requires.1 c.span_word-code.ensures of c.put_four-2.ensures c.put_span.ensures, omega (arith, of.few, c.requires.2.within))

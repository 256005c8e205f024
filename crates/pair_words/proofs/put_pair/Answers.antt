-- `pair_words::put_pair` meets its contract: by the class of the destination. Assumes nothing.
use native.Mathlib.Omega.{arith}
use Rattle.plans.proofs.Spans.{pair_valid, put_plain}
use Rattle.pair_words.proofs.put_pair.Goals as goal

pub put_plain-requires : goal.put_plain-requires
put_plain-requires c =
    let valid = pair_valid _ _ _ _ _ _ c.requires.0 in
    (valid.0, valid.1, omega (arith, c.requires.1.before, c.requires.1.within))

pub returns : goal.returns
returns c = (put_plain _ _ _ _ _ _ _ _ _ c.requires.1 c.requires.0 c.type_word.ensures c.if-type_word-eq-ENUM.false c.put_plain.ensures, c.requires.1.within)

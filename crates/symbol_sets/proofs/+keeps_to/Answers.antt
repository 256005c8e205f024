-- `symbol_sets::keeps_to` meets its contract. The calls go down by the depth; the loop's invariant: the answer is that of the rows that are left, and `seen`
-- says of pairs of enums what is so. Assumes nothing.
use mathlib.Core.Path.{refl, sym, ◌∙◌}
use native.Mathlib.Nat.{pos_of_ne-zero}
use native.Mathlib.Omega.{arith}
use Rattle.paths.proofs.Shapes.{type_low}
use Rattle.paths.proofs.Turns.{ask_deep, turned, lists_start, both_formed, lists_fail, lists_pass, lists_done}
use Rattle.symbol_sets.proofs.Turns.{keeps_parts}
use Rattle.symbol_sets.proofs.+keeps_to.Goals as goal

pub returns-then-depth-eq0 : goal.returns-then-depth-eq0
returns-then-depth-eq0 t c = (sym (ask_deep keeps_parts _ _ _ _ _ _ _ c.if-depth-eq0.true), c.requires.2)

pub symbol_turn-requires : goal.symbol_turn-requires
symbol_turn-requires t c = (type_low _ _ _ _ c.requires.0, type_low _ _ _ _ c.requires.1, c.requires.2)

pub overflow_sub-depth : goal.overflow_sub-depth
overflow_sub-depth t c = pos_of_ne-zero c.if-depth-eq0.false

pub keeps_to-requires : goal.keeps_to-requires
keeps_to-requires t c =
    let onward = (turned _ _ _ _ _ _ _ c.if-depth-eq0.false (c.requires.0, c.requires.1) c.symbol_turn.ensures.0 c.in-Bases.is).onward in
    (omega (arith, pos_of_ne-zero c.if-depth-eq0.false), (onward.0, onward.1, c.symbol_turn.ensures.1))

pub loop-i-init : goal.loop-i-init
loop-i-init t c = (
  lists_start keeps_parts _ _ _ _ _ _ _ (turned _ _ _ _ _ _ _ c.if-depth-eq0.false (c.requires.0, c.requires.1) c.symbol_turn.ensures.0 c.in-Lists.is)
      c.type_word-first.ensures c.type_word-n.ensures,
  omega arith,
  c.symbol_turn.ensures.1,
)

pub overflow_sub-depth-in-Some : goal.overflow_sub-depth-in-Some
overflow_sub-depth-in-Some t c = pos_of_ne-zero c.if-depth-eq0.false

pub keeps_to-requires-in-Some : goal.keeps_to-requires-in-Some
keeps_to-requires-in-Some t c =
    let formed = both_formed keeps_parts _ _ _ _ _ _ _ _ _ c.loop-i.invariant.0 c.loop-i-test.true c.symbol_types.ensures c.in-Some.is in
    (omega (arith, pos_of_ne-zero c.if-depth-eq0.false), (formed.0, formed.1, c.loop-i.invariant.2))

pub shape_of-seen-then-not-keeps_to : goal.shape_of-seen-then-not-keeps_to
shape_of-seen-then-not-keeps_to t c = c.keeps_to-in-Some.ensures.1.pairs ∙ sym c.requires.2.pairs

pub returns-then-not-keeps_to : goal.returns-then-not-keeps_to
returns-then-not-keeps_to t c = (
  sym (lists_fail keeps_parts _ _ _ _ _ _ _ _ _ c.loop-i.invariant.0 c.loop-i-test.true c.symbol_types.ensures c.in-Some.is c.keeps_to-in-Some.ensures.0 c.if-not-keeps_to.true),
  c.keeps_to-in-Some.ensures.1,
)

pub loop-i-preserved-else-not-keeps_to : goal.loop-i-preserved-else-not-keeps_to
loop-i-preserved-else-not-keeps_to t c = (
  lists_pass keeps_parts _ _ _ _ _ _ _ _ _ c.loop-i.invariant.0 c.loop-i-test.true c.symbol_types.ensures c.in-Some.is c.keeps_to-in-Some.ensures.0 c.if-not-keeps_to.false,
  omega arith,
  c.keeps_to-in-Some.ensures.1,
)

pub loop-i-preserved : goal.loop-i-preserved
loop-i-preserved t c = (
  lists_pass keeps_parts _ _ _ _ _ _ _ _ _ c.loop-i.invariant.0 c.loop-i-test.true c.symbol_types.ensures c.in_default.is refl refl,
  omega arith,
  c.loop-i.invariant.2,
)

pub shape_of-seen-in-Answer : goal.shape_of-seen-in-Answer
shape_of-seen-in-Answer t c = c.symbol_turn.ensures.1.pairs ∙ sym c.requires.2.pairs

pub returns-in-Answer : goal.returns-in-Answer
returns-in-Answer t c = (sym (turned _ _ _ _ _ _ _ c.if-depth-eq0.false (c.requires.0, c.requires.1) c.symbol_turn.ensures.0 c.in-Answer.is).is, c.symbol_turn.ensures.1)

pub shape_of-seen-in-Bases : goal.shape_of-seen-in-Bases
shape_of-seen-in-Bases t c = c.keeps_to.ensures.1.pairs ∙ sym c.requires.2.pairs

pub returns-in-Bases : goal.returns-in-Bases
returns-in-Bases t c = (c.keeps_to.ensures.0 ∙ sym (turned _ _ _ _ _ _ _ c.if-depth-eq0.false (c.requires.0, c.requires.1) c.symbol_turn.ensures.0 c.in-Bases.is).is, c.keeps_to.ensures.1)

pub shape_of-seen-after-loop-i : goal.shape_of-seen-after-loop-i
shape_of-seen-after-loop-i t c = c.loop-i.invariant.2.pairs ∙ sym c.requires.2.pairs

pub returns-after-loop-i : goal.returns-after-loop-i
returns-after-loop-i t c = (sym (lists_done keeps_parts _ _ _ _ _ _ _ _ _ c.loop-i.invariant.0 c.loop-i-test.false), c.loop-i.invariant.2)

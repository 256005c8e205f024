-- `path_search::path_to` meets its contract. The calls go down by the depth; the loop's invariant: the answer is that of the rows that are left.
-- Assumes nothing.
use mathlib.Core.Path.{refl, sym, ◌∙◌}
use native.Mathlib.Nat.{pos_of_ne-zero}
use native.Mathlib.Omega.{arith}
use Rattle.datatype.specs.Paths.{has_path}
use Rattle.paths.proofs.Turns.{path_parts, ask_deep, turned, lists_start, both_formed, lists_fail, lists_pass, lists_done}
use Rattle.path_search.proofs.+path_to.Goals as goal

pub returns-then-depth-eq0 : goal.returns-then-depth-eq0
returns-then-depth-eq0 t c = sym (ask_deep path_parts _ _ _ _ _ _ _ c.if-depth-eq0.true)

pub path_to-requires : goal.path_to-requires
path_to-requires t c = (
  omega (arith, pos_of_ne-zero c.if-depth-eq0.false),
  (turned _ _ _ _ _ _ _ c.if-depth-eq0.false c.requires (c.path_turn.ensures _ _) c.in-Bases.is).onward,
)

pub loop-i-init : goal.loop-i-init
loop-i-init t c = (
  lists_start path_parts _ _ _ _ _ _ _
      (turned _ _ _ _ _ _ _ c.if-depth-eq0.false c.requires (c.path_turn.ensures _ _) c.in-Lists.is)
      c.type_word-first.ensures c.type_word-n.ensures,
  omega arith,
)

pub path_to-requires-in-Some : goal.path_to-requires-in-Some
path_to-requires-in-Some t c = (
  omega (arith, pos_of_ne-zero c.if-depth-eq0.false),
  both_formed path_parts _ _ _ _ _ _ _ _ _ c.loop-i.invariant.0 c.loop-i-test.true (c.inner_types.ensures has_path) c.in-Some.is,
)

pub returns-then-not-path_to : goal.returns-then-not-path_to
returns-then-not-path_to t c =
    sym
    (lists_fail path_parts _ _ _ _ _ _ _ _ _ c.loop-i.invariant.0 c.loop-i-test.true (c.inner_types.ensures has_path)
    c.in-Some.is c.path_to-in-Some.ensures c.if-not-path_to.true)

pub loop-i-preserved-else-not-path_to : goal.loop-i-preserved-else-not-path_to
loop-i-preserved-else-not-path_to t c = (
  lists_pass path_parts _ _ _ _ _ _ _ _ _ c.loop-i.invariant.0 c.loop-i-test.true (c.inner_types.ensures has_path)
      c.in-Some.is c.path_to-in-Some.ensures c.if-not-path_to.false,
  omega arith,
)

pub loop-i-preserved : goal.loop-i-preserved
loop-i-preserved t c = (
  lists_pass path_parts _ _ _ _ _ _ _ _ _ c.loop-i.invariant.0 c.loop-i-test.true (c.inner_types.ensures has_path) c.in_default.is refl refl,
  omega arith,
)

pub returns-in-Answer : goal.returns-in-Answer
returns-in-Answer t c = sym (turned _ _ _ _ _ _ _ c.if-depth-eq0.false c.requires (c.path_turn.ensures _ _) c.in-Answer.is).is

pub returns-in-Bases : goal.returns-in-Bases
returns-in-Bases t c =
    c.path_to.ensures
    ∙ sym (turned _ _ _ _ _ _ _ c.if-depth-eq0.false c.requires (c.path_turn.ensures _ _) c.in-Bases.is).is

pub returns-after-loop-i : goal.returns-after-loop-i
returns-after-loop-i t c = sym (lists_done path_parts _ _ _ _ _ _ _ _ _ c.loop-i.invariant.0 c.loop-i-test.false)

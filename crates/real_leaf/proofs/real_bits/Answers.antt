-- `real_leaf::real_bits` meets its contract: by the class of the source. Assumes nothing.
use mathlib.Core.Path.{◌≡◌, ◌∙◌}
use mathlib.Core.Bool.{true, false, cond}
use mathlib.Core.List.{List}
use Prim.Native.Nat.{ℕ}
use lib.IntN.{ℤ}
use Rattle.layout.specs.declared.Layout.{Layout}
use Rattle.number.specs.declared.Fitted.{Fitted}
use Rattle.number.specs.Number.{valued, number_at}
use Rattle.number.specs.Place.{raw_at}
use Rattle.reals.specs.Convert.{int_to_real, real_to_int}
use Rattle.table.specs.Table.{layout_at}
use Rattle.plans.specs.PlanWords.{is_real}
use Rattle.plans.proofs.LeafSteps.{class_real, class_other}
use Rattle.real_leaf.proofs.real_bits.Goals as goal

module _ (ws src : List ℕ) (s a : ℕ) (m : Layout) {l : Layout} {raw : ℕ} (el : l ≡ layout_at ws s) (er : raw ≡ raw_at l a src) where
  int_is : {r : Fitted} → is_real ws s ≡ true → r ≡ real_to_int m raw
      → r ≡ cond (is_real ws s) (real_to_int m (raw_at (layout_at ws s) a src)) (int_to_real (number_at (layout_at ws s) a src))
  int_is e h = h ∙ rw (e, er, el)

  real_is : {r : Fitted} {z : ℤ} → is_real ws s ≡ false → z ≡ valued l.signed l.precision raw → r ≡ int_to_real z
      → r ≡ cond (is_real ws s) (real_to_int m (raw_at (layout_at ws s) a src)) (int_to_real (number_at (layout_at ws s) a src))
  real_is e hz h = h ∙ rw (e, hz, er, el)

pub raw_at-raw-requires : goal.raw_at-raw-requires
raw_at-raw-requires c = rw c.layout_at-l.ensures.0 (c.requires.0, c.requires.2)

pub returns-then-type_word-eq-REAL : goal.returns-then-type_word-eq-REAL
returns-then-type_word-eq-REAL c =
    let is = class_real _ _ c.type_word.ensures c.if-type_word-eq-REAL.true in
    let a = c.args in
    (int_is a.source_half.now a.src.now a.source_type a.source_byte a.m c.layout_at-l.ensures.0 c.raw_at-raw.ensures.0 is c.to_int.ensures.0, c.to_int.ensures.1)

pub number_of-requires : goal.number_of-requires
number_of-requires c =
    let v = c.requires.0 in
    (rw c.layout_at-l.ensures.0 v.some, rw c.layout_at-l.ensures.0 v.most, c.raw_at-raw.ensures.1)

pub returns : goal.returns
returns c =
    let is = class_other _ _ c.type_word.ensures c.if-type_word-eq-REAL.false in
    let a = c.args in
    (real_is a.source_half.now a.src.now a.source_type a.source_byte a.m c.layout_at-l.ensures.0 c.raw_at-raw.ensures.0 is c.number_of.ensures c.to_real.ensures.0, rw (c.requires.3 is) c.to_real.ensures.1)

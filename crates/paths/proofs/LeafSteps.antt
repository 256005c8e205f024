-- How the leaf at a byte of a type follows from the type's words, level by level. Assumes nothing.
use mathlib.Core.Path.{◌≡◌, refl, sym, ap, ◌∙◌}
use mathlib.Core.Bool.{cond}
use mathlib.Core.List.{List}
use mathlib.Core.Option.{Option as MathOption, none, some}
use Prim.Native.Nat.{ℕ, zero, suc, ◌+◌, ◌-◌, ◌%◌, ◌≤◌, ◌<◌}
use native.Mathlib.Nat.{not-suc-le-zero}
use lib.Dec.{eqb, ltb}
use borrow.Author.Rules.{rules}
use borrow.Author.Tests.{ne_eqb, eq-eqb, lt-ltb, le-ltb}
use Rattle.datatype.specs.Datatype.{Leaf, Datatype}
use Rattle.datatype.specs.Leaves.{leaf_at, leaf_in}
use Rattle.std.specs.Prelude.{Option, Some, None}
use Rattle.table.specs.Table.{size_word, base_word, first_word, rows_word, offset_word, member_type_word, members_at, node, decode}
use Rattle.table.specs.Words.{Reads}
use Rattle.paths.specs.declared.Step.{Step}
use Rattle.paths.specs.declared.Step.TheVariants.{Go, Here, Gone}
use Rattle.paths.specs.Leaf.{leaf_of_type}
use Rattle.paths.specs.Steps.{Sized, kind_at, covers, row_over, leaf_after, LeafStep}
use Rattle.paths.proofs.Shapes.{compound_node, array_node, leaf_node, decode_step, size_decode}
use Rattle.paths.proofs.Rows.{cond_push}

abbrev leaf_over : (ℕ → Datatype) → List ℕ → ℕ → Option ℕ → MathOption Leaf
leaf_over D w b (Some j) = leaf_at (D (member_type_word w j)) (b - offset_word w j)
leaf_over D w b None = none

members_leaf : (D : ℕ → Datatype) (w t : List ℕ) → Sized D w → (first n b : ℕ) → leaf_in (members_at D w t first n) b ≡ leaf_over D w b (row_over w first n b)
unfolding members_at row_over leaf_at
members_leaf D w t sized first zero b = refl
members_leaf D w t sized first (suc n) b =
    rw (sized (member_type_word w (first + n)))
    (ap (cond (covers w (first + n) b) (leaf_at (D (member_type_word w (first + n))) (b - offset_word w (first + n)))) (members_leaf D w t sized first n b)
    ∙ cond_push (leaf_over D w b) (Some (first + n)) (row_over w first n b) (covers w (first + n) b))

-- ---- one step

module _ (w : List ℕ) (i b : ℕ) {kind : ℕ} (hc : kind ≡ kind_at w i) where
  module _ (h : kind ≡ 3) {first n : ℕ} {r : Option ℕ} (hf : Reads (first_word w i) first) (hn : Reads (rows_word w i) n) (hr : r ≡ row_over w first n b) where
    compound_leaf : (D : ℕ → Datatype) (t : List ℕ) → Sized D w → leaf_at (node D w t i) b ≡ leaf_over D w b r
    unfolding leaf_at
    compound_leaf D t sized = rw (compound_node D w t i (sym hc ∙ h), ← hf.is, ← hn.is, hr) (members_leaf D w t sized first n b)

    pub compound_gone : r ≡ None → LeafStep w i b Gone
    compound_gone e D t sized = compound_leaf D t sized ∙ ap (leaf_over D w b) e

    pub compound_go : {j k o a : ℕ} → r ≡ Some j → Reads (member_type_word w j) k → Reads (offset_word w j) o → a ≡ b - o → LeafStep w i b (Go k a)
    compound_go e hk ho ha D t sized = compound_leaf D t sized ∙ ap (leaf_over D w b) e ∙ rw (ha, hk.is, ho.is) refl

  module _ (h : kind ≡ 4) {z k y : ℕ} (hz : Reads (size_word w i) z) (hk : Reads (base_word w i) k) (hy : Reads (size_word w k) y) where
    array_leaf : (D : ℕ → Datatype) (t : List ℕ) → Sized D w → leaf_at (node D w t i) b ≡ cond (ltb b z) (leaf_at (D k) (b % y)) none
    unfolding leaf_at
    array_leaf D t sized = rw (array_node D w t i (sym hc ∙ h), ← hk.is, sized k, ← hz.is, ← hy.is) refl

    pub array_go : {a : ℕ} → b < z → a ≡ b % y → LeafStep w i b (Go k a)
    array_go l ha D t sized = array_leaf D t sized ∙ rw (lt-ltb _ _ l, ha) refl

    pub array_gone : z ≤ b → LeafStep w i b Gone
    array_gone l D t sized = array_leaf D t sized ∙ rw (le-ltb _ _ l) refl

  module _ (h : kind ≡ 3 → ⊥) (k : kind ≡ 4 → ⊥) where
    leaf_leaf : (D : ℕ → Datatype) (t : List ℕ) → leaf_at (node D w t i) b ≡ cond (eqb b 0) (some (leaf_of_type w t i)) none
    unfolding leaf_at
    leaf_leaf D t = rw (leaf_node D w t i (λ e. h (hc ∙ e)) (λ e. k (hc ∙ e))) refl

    pub leaf_here : b ≡ 0 → LeafStep w i b Here
    leaf_here e D t sized = leaf_leaf D t ∙ rw (eq-eqb _ _ e) refl

    pub leaf_gone : (b ≡ 0 → ⊥) → LeafStep w i b Gone
    leaf_gone e D t sized = leaf_leaf D t ∙ rw (ne_eqb _ _ e) refl

pub ruleset step_laws = (rules, compound_gone, compound_go, array_go, array_gone, leaf_here, leaf_gone)

-- ---- one level after the other

module _ (f : ℕ) (w t : List ℕ) (i b : ℕ) where
  pub leaf_turn : (r v : Step) → 0 < f → LeafStep w i b r → r ≡ v → leaf_at (decode f w t i) b ≡ leaf_after (decode (f - 1) w t) (leaf_of_type w t i) v
  leaf_turn r v h step e =
      rw (decode_step f w t i h) (step (decode (f - 1) w t) t (size_decode (f - 1) w t) ∙ ap (leaf_after (decode (f - 1) w t) (leaf_of_type w t i)) e)

pub leaf_out : (f : ℕ) (w t : List ℕ) (i b : ℕ) → f ≤ 0 → leaf_at (decode f w t i) b ≡ none
unfolding decode leaf_at
leaf_out zero w t i b h = refl
leaf_out (suc f) w t i b h = absurd (not-suc-le-zero h)

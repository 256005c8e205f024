-- Types by their kinds, and what a well-formed one is made of. Assumes nothing.
use mathlib.Core.Path.{◌≡◌, refl, ap, ◌∙◌}
use mathlib.Core.Bool.{Bool, true, false, cond}
use mathlib.Core.List.{List}
use Prim.Native.Nat.{ℕ, zero, suc, ◌-◌, ◌≤◌, ◌<◌}
use native.Mathlib.Nat.{not-suc-le-zero}
use native.Mathlib.Numerals.{sub-one}
use native.Mathlib.Omega.{arith}
use lib.Dec.{eqb, ltb}
use borrow.Author.Tests.{ne_eqb, eqb-true, ltb-true}
use Rattle.layout.specs.declared.Class.{Class}
use Rattle.layout.specs.declared.Class.TheVariants.{Int, Bits}
use Rattle.datatype.specs.Datatype.{Leaf, Datatype}
use Rattle.datatype.specs.Datatype.Leaf.{atomic, enumeration, real}
use Rattle.datatype.specs.Datatype.Datatype.{leaf, compound, array}
use Rattle.datatype.specs.WellFormed.{CompoundSize, ArraySize, WellFormed, WellFormedIn}
use Rattle.datatype.proofs.Matches.{size_some}
use Rattle.table.specs.Table.{type_word, class_word, size_word, base_word, first_word, rows_word, layout_at, symbols_at, dimensions_at, node, decode}
use Rattle.table.specs.Records.{class_code}
use Rattle.table.proofs.Made.{node_array, node_compound, node_size}
use Rattle.paths.specs.Leaf.{leaf_of_type}
use Rattle.paths.specs.Steps.{Sized, Whole, kind_of, kind_at, members_of_type}

-- ---- kinds

pub kind_low : (c : ℕ) → c < 6 → c ≡ kind_of c
unfolding kind_of
kind_low zero h = refl
kind_low (suc zero) h = refl
kind_low (suc (suc zero)) h = refl
kind_low (suc (suc (suc zero))) h = refl
kind_low (suc (suc (suc (suc zero)))) h = refl
kind_low (suc (suc (suc (suc (suc zero))))) h = refl
kind_low (suc (suc (suc (suc (suc (suc c)))))) h = absurd (omega arith)

pub kind_high : (c : ℕ) → 6 ≤ c → 0 ≡ kind_of c
unfolding kind_of
kind_high c h =
    rw (
      ne_eqb c 4 (λ e. omega arith),
      ne_eqb c 3 (λ e. omega arith),
      ne_eqb c 2 (λ e. omega arith),
      ne_eqb c 5 (λ e. omega arith),
      ne_eqb c 1 (λ e. omega arith),
    )

pub kind_is : (c k : ℕ) → 2 ≤ k → kind_of c ≡ k → c ≡ k
unfolding kind_of
kind_is c k h = go (eqb c 4) (eqb c 3) (eqb c 2) (eqb c 5) (eqb c 1) refl refl refl refl
  where
    go : (x y u r v : Bool) → eqb c 4 ≡ x → eqb c 3 ≡ y → eqb c 2 ≡ u → eqb c 5 ≡ r → cond x 4 (cond y 3 (cond u 2 (cond r 5 (cond v 1 0)))) ≡ k → c ≡ k
    go true y u r v p q m o e = eqb-true c 4 p ∙ e
    go false true u r v p q m o e = eqb-true c 3 q ∙ e
    go false false true r v p q m o e = eqb-true c 2 m ∙ e
    go false false false true v p q m o e = eqb-true c 5 o ∙ e
    go false false false false true p q m o e = absurd (omega arith)
    go false false false false false p q m o e = absurd (omega arith)

abbrev pub leaf_kind : Leaf → ℕ
leaf_kind (atomic l) = class_code l.class
leaf_kind (enumeration l ss) = 2
leaf_kind (real l) = 5

class_low : (c : Class) → class_code c ≤ 1
class_low Int = omega arith
class_low Bits = omega arith

-- no leaf has the kind of a compound or of an array
pub leaf_kind_lem : (x : Leaf) → (leaf_kind x ≡ 3 → ⊥) × (leaf_kind x ≡ 4 → ⊥)
leaf_kind_lem (atomic l) = (λ e. omega (arith, class_low l.class), λ e. omega (arith, class_low l.class))
leaf_kind_lem (enumeration l ss) = (λ e. omega arith, λ e. omega arith)
leaf_kind_lem (real l) = (λ e. omega arith, λ e. omega arith)

abbrev pub tree_kind : Datatype → ℕ
tree_kind (leaf x) = leaf_kind x
tree_kind (compound z ms) = 3
tree_kind (array z ds T) = 4

module _ (D : ℕ → Datatype) (w t : List ℕ) (i : ℕ) where
  pub tree_kind_lem : tree_kind (node D w t i) ≡ kind_at w i
  unfolding node leaf_of_type kind_of layout_at
  tree_kind_lem = go (eqb (class_word w i) 4) (eqb (class_word w i) 3) (eqb (class_word w i) 2) (eqb (class_word w i) 5) (eqb (class_word w i) 1) refl
    where
      go : (x y u r v : Bool) → eqb (class_word w i) 1 ≡ v
          → tree_kind (cond x (array (size_word w i) (dimensions_at w i) (D (base_word w i)))
          (cond y (compound (size_word w i) (members_of_type D w t i))
          (leaf (cond u (enumeration (layout_at w i) (symbols_at w t (first_word w i) (rows_word w i))) (cond r (real (layout_at w i)) (atomic (layout_at w i)))))))
          ≡ cond x 4 (cond y 3 (cond u 2 (cond r 5 (cond v 1 0))))
      go true y u r v e = refl
      go false true u r v e = refl
      go false false true r v e = refl
      go false false false true v e = refl
      go false false false false true e = rw e
      go false false false false false e = rw e

  pub compound_node : kind_at w i ≡ 3 → node D w t i ≡ compound (size_word w i) (members_of_type D w t i)
  compound_node e = node_compound D w t i (kind_is _ 3 (omega arith) e)

  pub array_node : kind_at w i ≡ 4 → node D w t i ≡ array (size_word w i) (dimensions_at w i) (D (base_word w i))
  array_node e = node_array D w t i (kind_is _ 4 (omega arith) e)

  pub leaf_node : (kind_at w i ≡ 3 → ⊥) → (kind_at w i ≡ 4 → ⊥) → node D w t i ≡ leaf (leaf_of_type w t i)
  unfolding node kind_of
  leaf_node h k = rw (ne_eqb (class_word w i) 4 (λ e. k (ap kind_of e)), ne_eqb (class_word w i) 3 (λ e. h (ap kind_of e))) refl

-- ---- levels

pub decode_step : (f : ℕ) (w t : List ℕ) (i : ℕ) → 0 < f → decode f w t i ≡ node (decode (f - 1) w t) w t i
unfolding decode
decode_step zero w t i h = absurd (not-suc-le-zero h)
decode_step (suc f) w t i h = rw sub-one

pub size_decode : (f : ℕ) (w t : List ℕ) → Sized (decode f w t) w
unfolding decode
size_decode zero w t i = refl
size_decode (suc f) w t i = node_size (decode f w t) w t i

pub whole : (f : ℕ) (w t : List ℕ) (i : ℕ) → 0 < f → WellFormed (decode f w t i) → Whole (decode (f - 1) w t) w t i
whole f w t i h g = record { sized = size_decode (f - 1) w t; formed = rw (decode_step f w t i h) at g }

-- ---- well-formed types

-- a number past the table's types has no bytes
pub type_low : (f : ℕ) (w t : List ℕ) (i : ℕ) → WellFormed (decode f w t i) → i < 64
unfolding type_word
type_low f w t i g = go (ltb i 64) refl (rw (size_decode f w t i) at (size_some (decode f w t i) g))
  where
    go : (x : Bool) → ltb i 64 ≡ x → 1 ≤ size_word w i → i < 64
    go true e h = omega (arith, ltb-true i 64 e)
    go false e h = absurd (omega (arith, rw e at h))

module _ (D : ℕ → Datatype) (w t : List ℕ) (i : ℕ) (whole : Whole D w t i) where
  pub formed_compound : kind_at w i ≡ 3 → CompoundSize (size_word w i) × WellFormedIn (size_word w i) (members_of_type D w t i)
  formed_compound e = rw (compound_node D w t i e) at whole.formed

  pub formed_array : kind_at w i ≡ 4 → ArraySize (size_word w i) (dimensions_at w i) (size_word w (base_word w i)) × WellFormed (D (base_word w i))
  formed_array e = rw (← (whole.sized (base_word w i))) (rw (array_node D w t i e) at whole.formed)

  pub element_some : kind_at w i ≡ 4 → 1 ≤ size_word w (base_word w i)
  element_some e = rw (whole.sized (base_word w i)) at (size_some (D (base_word w i)) (formed_array e).1)

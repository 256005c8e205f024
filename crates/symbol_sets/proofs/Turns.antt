-- How the question whether a destination keeps the symbols of a source follows from the words of two types. Assumes nothing.
use mathlib.Core.Path.{◌≡◌, refl, sym, ◌∙◌}
use mathlib.Core.Bool.{Bool, true, not, false≢true}
use mathlib.Core.List.{List}
use Prim.Native.Nat.{ℕ, zero, suc}
use native.Mathlib.Omega.{arith}
use borrow.Author.Rules.{rules}
use Rattle.layout.proofs.Edits.{fails}
use Rattle.datatype.specs.Datatype.{Leaf, Datatype, same}
use Rattle.datatype.specs.Datatype.Leaf.{atomic, enumeration, real}
use Rattle.datatype.specs.Datatype.Datatype.{leaf, compound, array}
use Rattle.datatype.specs.Datatype.Members.{member}
use Rattle.datatype.specs.Paths.{Lookup, on_found, member_named}
use Rattle.datatype.specs.Paths.Lookup.{missing, found}
use Rattle.datatype.specs.SymbolSets.{leaf_keeps, keeps_symbols, keeps_in}
use Rattle.datatype.proofs.SymbolSets.{none_found}
use Rattle.table.specs.Table.{member_type_word, dimensions_at, node, decode}
use Rattle.table.specs.Words.{Reads}
use Rattle.plans.proofs.LeafSteps.{leaf_enum}
use Rattle.paths.specs.declared.Turn.TheVariants.{Answer}
use Rattle.std.specs.Prelude.{None}
use Rattle.paths.specs.Steps.{kind_at, Turns, Inside}
use Rattle.paths.proofs.Shapes.{kind_is, leaf_kind, tree_kind, tree_kind_lem, array_node, leaf_node}
use Rattle.paths.proofs.Turns.{ByParts, turn_lists, turn_bases}
use Rattle.symbol_sets.specs.Seen.{all_stand, is_number}

pub keeps_parts : ByParts keeps_symbols keeps_in
unfolding keeps_symbols
keeps_parts =
    record {
      none = λ ss. refl;
      more = λ ss x offset T word ms. refl;
      compounds = λ z y ss ds. refl;
      arrays = λ z y es ds S T e. rw e refl;
    }

-- ---- by kinds

leaves_differ : (x y : Leaf) → (leaf_kind y ≡ leaf_kind x → ⊥) → leaf_keeps x y ≡ true
leaves_differ (atomic l) y h = refl
leaves_differ (enumeration l ss) (atomic k) h = refl
leaves_differ (enumeration l ss) (enumeration k ts) h = absurd (h refl)
leaves_differ (enumeration l ss) (real k) h = refl
leaves_differ (real l) y h = refl

kinds_differ : (S T : Datatype) → (tree_kind T ≡ tree_kind S → ⊥) → keeps_symbols S T ≡ true
unfolding keeps_symbols
kinds_differ (leaf x) (leaf y) h = leaves_differ x y h
kinds_differ (leaf x) (compound z ms) h = none_found ms
kinds_differ (leaf x) (array z ds T) h = refl
kinds_differ (compound y ss) (leaf x) h = refl
kinds_differ (compound y ss) (compound z ms) h = absurd (h refl)
kinds_differ (compound y ss) (array z ds T) h = refl
kinds_differ (array y es S) (leaf x) h = refl
kinds_differ (array y es S) (compound z ms) h = none_found ms
kinds_differ (array y es S) (array z ds T) h = absurd (h refl)

leaf_number : (x y : Leaf) → (leaf_kind y ≡ 2 → ⊥) → leaf_keeps x y ≡ true
leaf_number (atomic l) y h = refl
leaf_number (enumeration l ss) (atomic k) h = refl
leaf_number (enumeration l ss) (enumeration k ts) h = absurd (h refl)
leaf_number (enumeration l ss) (real k) h = refl
leaf_number (real l) y h = refl

-- whatever the source, a destination that is an int, bits or a real loses no symbol
pub number_keeps : (S T : Datatype) → (tree_kind T ≡ 2 → ⊥) → (tree_kind T ≡ 3 → ⊥) → (tree_kind T ≡ 4 → ⊥) → keeps_symbols S T ≡ true
unfolding keeps_symbols
number_keeps (leaf x) (leaf y) h k m = leaf_number x y h
number_keeps (compound z ss) (leaf y) h k m = refl
number_keeps (array z es S) (leaf y) h k m = refl
number_keeps S (compound z ms) h k m = absurd (k refl)
number_keeps S (array z ds T) h k m = absurd (m refl)

-- ---- one turn

module _ (ws ts : List ℕ) (s : ℕ) (wd td : List ℕ) (d : ℕ) {from to : ℕ} (hs : from ≡ kind_at ws s) (hd : to ≡ kind_at wd d) where
  pub keep_differ : (to ≡ from → ⊥) → Turns keeps_symbols keeps_in ws ts s wd td d (Answer true)
  keep_differ h S D fs fd =
      record {
        is = kinds_differ (node S ws ts s) (node D wd td d) (λ e. h (hd ∙ sym (tree_kind_lem D wd td d) ∙ e ∙ tree_kind_lem S ws ts s ∙ sym hs));
        onward = tt;
      }

  pub keep_enums : to ≡ from → to ≡ 2 → {a : Bool} → a ≡ all_stand ws ts s wd td d → Turns keeps_symbols keeps_in ws ts s wd td d (Answer a)
  unfolding keeps_symbols
  keep_enums same h e S D fs fd =
      let ks : kind_at ws s ≡ 2 = sym hs ∙ sym same ∙ h in
      let kd : kind_at wd d ≡ 2 = sym hd ∙ h in
      record {
        is =
            rw (
              leaf_node S ws ts s (λ q. omega (arith, sym ks ∙ q)) (λ q. omega (arith, sym ks ∙ q)),
              leaf_node D wd td d (λ q. omega (arith, sym kd ∙ q)) (λ q. omega (arith, sym kd ∙ q)),
              leaf_enum ws ts s (kind_is _ 2 (omega arith) ks),
              leaf_enum wd td d (kind_is _ 2 (omega arith) kd),
            ) (sym e);
        onward = tt;
      }

  pub keep_numbers : (to ≡ 2 → ⊥) → (to ≡ 3 → ⊥) → (to ≡ 4 → ⊥) → Turns keeps_symbols keeps_in ws ts s wd td d (Answer true)
  keep_numbers h k m S D fs fd =
      let is : tree_kind (node D wd td d) ≡ to = tree_kind_lem D wd td d ∙ sym hd in
      record { is = number_keeps (node S ws ts s) (node D wd td d) (λ e. h (sym is ∙ e)) (λ e. k (sym is ∙ e)) (λ e. m (sym is ∙ e)); onward = tt }

  pub keep_others : to ≡ from → to ≡ 4 → {r : Bool} → r ≡ same (dimensions_at ws s) (dimensions_at wd d) → not r ≡ true
      → Turns keeps_symbols keeps_in ws ts s wd td d (Answer true)
  unfolding keeps_symbols
  keep_others same h {r} alike e S D fs fd =
      let ks : kind_at ws s ≡ 4 = sym hs ∙ sym same ∙ h in
      let kd : kind_at wd d ≡ 4 = sym hd ∙ h in
      record { is = rw (array_node S ws ts s ks, array_node D wd td d kd, ← alike, fails {t = r} refl e) refl; onward = tt }

pub ruleset keep_laws = (rules, keeps_parts, keep_differ, keep_enums, turn_lists, keep_numbers, keep_others, turn_bases)

-- ---- into a member

pub all_found : (T : Datatype) → ((S : Datatype) → keeps_symbols S T ≡ true) → (m : Lookup) → on_found (λ o S. keeps_symbols S T) true m ≡ true
all_found T h missing = refl
all_found T h (found offset S) = h S

number_kinds : (k : ℕ) → is_number k ≡ true → (k ≡ 2 → ⊥) × (k ≡ 3 → ⊥) × (k ≡ 4 → ⊥)
unfolding is_number
number_kinds k e = (
  λ (q : k ≡ 2). false≢true (rw q at e),
  λ (q : k ≡ 3). false≢true (rw q at e),
  λ (q : k ≡ 4). false≢true (rw q at e),
)

pub number_type : (w t : List ℕ) (k f : ℕ) → is_number (kind_at w k) ≡ true → (S : Datatype) → keeps_symbols S (decode f w t k) ≡ true
unfolding decode keeps_symbols
number_type w t k zero e S = refl
number_type w t k (suc f) e S =
    let is : tree_kind (node (decode f w t) w t k) ≡ kind_at w k = tree_kind_lem (decode f w t) w t k in
    let n = number_kinds (kind_at w k) e in
    number_keeps S (node (decode f w t) w t k) (λ q. n.0 (sym is ∙ q)) (λ q. n.1 (sym is ∙ q)) (λ q. n.2 (sym is ∙ q))

pub number_inside : (ws ts : List ℕ) (s : ℕ) (wd td : List ℕ) (j : ℕ) {k kind : ℕ} {r : Bool} → Reads (member_type_word wd j) k → kind ≡ kind_at wd k → r ≡ is_number kind
    → r ≡ true → Inside keeps_symbols ws ts s wd td j None
number_inside ws ts s wd td j hk hm hr e f z fs fd =
    record {
      is = all_found (decode f wd td (member_type_word wd j)) (number_type wd td (member_type_word wd j) f (rw (← hk.is, ← hm, ← hr) e)) (member_named _ _);
      onward = tt;
    }

-- Each kind of line, judged in the table's words. Assumes nothing.
use Rattle.std.specs.Prelude.{Option, Some, None}
use mathlib.Core.Path.{◌≡◌, refl, sym, ap, ◌∙◌, subst}
use mathlib.Core.Bool.{Bool, true, false, not, ◌||◌, false≢true}
use mathlib.Core.List.{List, [], ◌∷◌}
use mathlib.Core.Option.{none}
use Prim.Native.Nat.{ℕ, zero, suc, ◌+◌, ◌-◌, ◌*◌, ◌<◌, ◌≤◌}
use native.Mathlib.Numerals.{sub-one}
use native.Mathlib.Omega.{arith}
use borrow.Author.Tests.{lt-ltb, le-ltb, le-leb, lt-leb, eq-eqb, ne_eqb, eqb-true, eqb-false}
use lib.Dec.{eqb, ltb, leb}
use lib.IntN.{ℤ}
use lib.ListN.{get_or, length}
use Rattle.bits.specs.declared.Order.{Order}
use Rattle.layout.specs.declared.Class.{Class}
use Rattle.layout.specs.declared.Class.TheVariants.{Int, Bits}
use Rattle.layout.specs.declared.Layout.{Layout}
use Rattle.layout.specs.Layout.{valid}
use Rattle.layout.specs.Setters.{is_int}
use Rattle.number.specs.Parts.{signed_by}
use Rattle.datatype.specs.Datatype.{binary64, Datatype, size, elements}
use Rattle.datatype.specs.Datatype.Leaf.{atomic, enumeration, real}
use Rattle.datatype.specs.Datatype.Datatype.{leaf, compound, array}
use Rattle.datatype.specs.declared.Word.{Word}
use Rattle.datatype.specs.Datatype.Members.{member}
use Rattle.text.specs.Field.{when, ◌>>=◌}
use Rattle.line.specs.Line.Line.{atomic_line, enum_line, value_line, compound_line, member_line, array_line, real_line}
use Rattle.table.specs.Table.{class_word, size_word, base_word, dimensions_at, first_word, rows_word, class_of, layout_at, bytes_at, symbols_at, members_at, up_to_zero, node, type_at, types_at, Holds}
use Rattle.table.specs.Records.{class_code, layout_record, atomic_record, real_record, enum_record, compound_record, array_record, value_record, member_record}
use Rattle.layout.proofs.Edits.{fails, holds}
use Rattle.table.proofs.Keeps.{type_is}
use Rattle.table.proofs.Made.{node_array, node_compound, node_enum, node_real, node_leaf, atomic_made, real_made, enum_made, compound_made, array_made, member_made, value_made}
use Rattle.sheet_steps.specs.declared.Counts.{Counts}
use Rattle.sheet.specs.Sheet.{SoFar, enum_of, with_value, with_member, may_list, may_place, add_type, add_row, type_numbered, judged_after}
use Rattle.name_marks.specs.Marks.{mark_of, end_raised}
use Rattle.sheet_steps.specs.Noted.{Noted}
use Rattle.sheet_steps.specs.Judged.{so_far_at, Judges}
use Rattle.sheet_steps.specs.Steps.{TypeAdded, RowAdded, is_int_at, total_of}
use Rattle.sheet_steps.proofs.Numbered.{type_numbered_lem, type_size}
use Rattle.sheet_steps.proofs.Totals.{some_dimension, few_dimensions, each_dimension, no_dimension, total_fits, total_large}
use Rattle.sheet_steps.proofs.Notes.{end_kept, end_raised_lem}
use Rattle.sheet_steps.proofs.Added.{typed, rowed}

-- ---- atomic types

no_four : (k : Class) → class_code k ≡ 4 → ⊥
no_four Int e = omega arith
no_four Bits e = omega arith

pub atomic_judged : {w v r : List ℕ} {n m : ℕ} {j : Option Counts} {b : Bool} (t : List ℕ) (l : Layout) → Holds w n m → Noted w t n m → b ≡ valid l → not b ≡ false → r ≡ atomic_record l m → TypeAdded w v n m r j
    → Judges v t (judged_after (so_far_at w t n m) (atomic_line l)) j
unfolding layout_record
atomic_judged {w} {n = n} {m = m} t l h noted test kept e added =
    rw (holds test kept) (typed t h noted (rw e at added) refl (λ x. absurd (no_four l.class x)) refl refl (λ x. atomic_made w n x h.words (type_at w t) t l m))

-- ---- reals

pub real_size : {l : Layout} (o : Order) → l ≡ binary64 o → l.size.0 < 4294967296
real_size o e = rw e (omega arith)

pub real_judged : {w v r : List ℕ} {n m z : ℕ} {j : Option Counts} {l : Layout} (t : List ℕ) (o : Order) → Holds w n m → Noted w t n m → z ≡ 8 → l ≡ binary64 o → r ≡ real_record l m → TypeAdded w v n m r j
    → Judges v t (judged_after (so_far_at w t n m) (real_line z o)) j
unfolding layout_record
real_judged {w} {n = n} {m = m} {z = z} t o h noted e is er added =
    rw (eq-eqb z 8 e) (typed t h noted (rw (er, is) at added) refl (λ x. omega arith) refl refl (λ x. real_made w n x h.words (type_at w t) t (binary64 o) m refl))

pub real_other : {z : ℕ} (s : SoFar) (o : Order) → (z ≡ 8 → ⊥) → judged_after s (real_line z o) ≡ none
real_other {z} s o ne = rw (ne_eqb z 8 ne)

-- ---- enums

int_is : (c : ℕ) → (c ≡ 4 → ⊥) → (c ≡ 3 → ⊥) → (c ≡ 2 → ⊥) → (c ≡ 5 → ⊥) → is_int (class_of c) ≡ (eqb c 0 || ltb 5 c)
int_is zero x y z u = refl
int_is (suc zero) x y z u = refl
int_is (suc (suc zero)) x y z u = absurd (z refl)
int_is (suc (suc (suc zero))) x y z u = absurd (y refl)
int_is (suc (suc (suc (suc zero)))) x y z u = absurd (x refl)
int_is (suc (suc (suc (suc (suc zero))))) x y z u = absurd (u refl)
int_is (suc (suc (suc (suc (suc (suc c)))))) x y z u =
    let k : ℕ = suc (suc (suc (suc (suc (suc c))))) in
    rw (ne_eqb k 1 (λ e. omega arith), ne_eqb k 0 (λ e. omega arith), lt-ltb 5 k (omega arith)) refl

module _ (D : ℕ → Datatype) (w t : List ℕ) (i : ℕ) where
  -- what holds of a type of each class holds of type i
  by_class : (P : Datatype → Type 0)
      → (class_word w i ≡ 4 → P (array (size_word w i) (dimensions_at w i) (D (base_word w i))))
      → (class_word w i ≡ 3 → P (compound (size_word w i) (members_at D w t (first_word w i) (rows_word w i))))
      → (class_word w i ≡ 2 → P (leaf (enumeration (layout_at w i) (symbols_at w t (first_word w i) (rows_word w i)))))
      → (class_word w i ≡ 5 → P (leaf (real (layout_at w i))))
      → ((class_word w i ≡ 4 → ⊥) → (class_word w i ≡ 3 → ⊥) → (class_word w i ≡ 2 → ⊥) → (class_word w i ≡ 5 → ⊥) → P (leaf (atomic (layout_at w i))))
      → P (node D w t i)
  by_class P a b c d f = go (eqb (class_word w i) 4) (eqb (class_word w i) 3) (eqb (class_word w i) 2) (eqb (class_word w i) 5) refl refl refl refl
    where
      go : (x y z u : Bool) → eqb (class_word w i) 4 ≡ x → eqb (class_word w i) 3 ≡ y → eqb (class_word w i) 2 ≡ z → eqb (class_word w i) 5 ≡ u → P (node D w t i)
      go true y z u p q r s = subst P (sym (node_array D w t i (eqb-true _ _ p))) (a (eqb-true _ _ p))
      go false true z u p q r s = subst P (sym (node_compound D w t i (eqb-true _ _ q))) (b (eqb-true _ _ q))
      go false false true u p q r s = subst P (sym (node_enum D w t i (eqb-true _ _ r))) (c (eqb-true _ _ r))
      go false false false true p q r s = subst P (sym (node_real D w t i (eqb-true _ _ s))) (d (eqb-true _ _ s))
      go false false false false p q r s =
          subst P (sym (node_leaf D w t i (eqb-false _ _ p) (eqb-false _ _ q) (eqb-false _ _ r) (eqb-false _ _ s))) (f (eqb-false _ _ p) (eqb-false _ _ q) (eqb-false _ _ r) (eqb-false _ _ s))

  enum_of_lem : enum_of (node D w t i) ≡ when (is_int_at w i) (leaf (enumeration (layout_at w i) []))
  unfolding is_int_at layout_at
  enum_of_lem =
      by_class (λ (T : Datatype). enum_of T ≡ when (is_int_at w i) (leaf (enumeration (layout_at w i) []))) (λ e. rw e) (λ e. rw e) (λ e. rw e) (λ e. rw e)
      (λ a b c d. ap (λ (x : Bool). when x (leaf (enumeration (layout_at w i) []))) (int_is (class_word w i) a b c d))

  int_class : is_int_at w i ≡ true → (layout_at w i).class ≡ Int
  unfolding is_int_at layout_at
  int_class e = go (class_word w i) e
    where
      go : (c : ℕ) → (eqb c 0 || ltb 5 c) ≡ true → class_of c ≡ Int
      go zero e = refl
      go (suc zero) e = absurd (false≢true e)
      go (suc (suc c)) e = rw (ne_eqb (suc (suc c)) 1 (λ x. omega arith)) refl

pub enum_judged : {w v r : List ℕ} {n m k : ℕ} {j : Option Counts} {l : Layout} {b : Bool} (t : List ℕ) → Holds w n m → Noted w t n m → k < n → b ≡ is_int_at w k → not b ≡ false → l ≡ layout_at w k → r ≡ enum_record l m → TypeAdded w v n m r j
    → Judges v t (judged_after (so_far_at w t n m) (enum_line k)) j
unfolding layout_record
enum_judged {w} {n = n} {m = m} {k = k} {l = l} t h noted below test kept e er added =
    let int = holds test kept in
    let c : l.class ≡ Int = rw e (int_class (type_at w t) w t k int) in
    rw (type_numbered_lem w t k n, lt-ltb k n below, type_is t h k below, enum_of_lem (type_at w t) w t k, int, ← e)
    (typed t h noted (rw er at added) refl (λ x. omega arith) refl refl (λ x. enum_made w n x h.words (type_at w t) t l m c))

pub enum_high : (w t : List ℕ) {n k : ℕ} (m : ℕ) → n ≤ k → judged_after (so_far_at w t n m) (enum_line k) ≡ none
enum_high w t {n} {k} m h = rw (type_numbered_lem w t k n, le-ltb k n h)

pub enum_other : {w : List ℕ} {n m k : ℕ} {b : Bool} (t : List ℕ) → Holds w n m → k < n → b ≡ is_int_at w k → not b ≡ true → judged_after (so_far_at w t n m) (enum_line k) ≡ none
enum_other {w} {n} {m} {k} t h below test e = rw (type_numbered_lem w t k n, lt-ltb k n below, type_is t h k below, enum_of_lem (type_at w t) w t k, fails test e)

-- ---- compounds

pub compound_judged : {w v r : List ℕ} {n m z : ℕ} {j : Option Counts} (t : List ℕ) → Holds w n m → Noted w t n m → 1 ≤ z → z ≤ 4096 → r ≡ compound_record z m → TypeAdded w v n m r j
    → Judges v t (judged_after (so_far_at w t n m) (compound_line z)) j
unfolding compound_record
compound_judged {w} {n = n} {m = m} {z = z} t h noted low high e added =
    rw (le-leb 1 z low, le-leb z 4096 high)
    (typed t h noted (rw e at added) refl (λ x. omega arith) refl refl (λ x. compound_made w n x h.words (type_at w t) t z m))

pub compound_none : {z : ℕ} (s : SoFar) → z < 1 → judged_after s (compound_line z) ≡ none
compound_none {z} s h = rw (lt-leb 1 z h)

pub compound_large : {z : ℕ} (s : SoFar) → 1 ≤ z → 4096 < z → judged_after s (compound_line z) ≡ none
compound_large {z} s low h = rw (le-leb 1 z low, lt-leb z 4096 h)

-- ---- arrays

pub array_high : (w t : List ℕ) {n k : ℕ} (m : ℕ) (ds : List ℕ) → n ≤ k → judged_after (so_far_at w t n m) (array_line k ds) ≡ none
array_high w t {n} {k} m ds h = rw (type_numbered_lem w t k n, le-ltb k n h)

-- ds up to the first 0, where the first is not 0
pub array_line_lem : {w : List ℕ} {n m k : ℕ} (t ds : List ℕ) → Holds w n m → k < n → length ds ≡ 4 → (get_or ds 0 0 ≡ 0 → ⊥)
    → judged_after (so_far_at w t n m) (array_line k (up_to_zero ds))
    ≡ (when (leb (elements (up_to_zero ds) * size_word w k) 4096) (array (elements (up_to_zero ds) * size_word w k) (up_to_zero ds) (type_at w t k)) >>= add_type (so_far_at w t n m))
array_line_lem {w} {n} {m} {k} t ds h below four ne =
    rw (
      type_numbered_lem w t k n,
      lt-ltb k n below,
      type_size t h k below,
      le-leb 1 (length (up_to_zero ds)) (some_dimension ds (omega arith) ne),
      le-leb (length (up_to_zero ds)) 4 (omega (arith, few_dimensions ds)),
      each_dimension ds,
    ) refl

pub array_judged : {w v r : List ℕ} {n m k z y : ℕ} {j : Option Counts} {o : Option ℕ} (t ds : List ℕ) → Holds w n m → Noted w t n m → k < n → length ds ≡ 4 → (get_or ds 0 0 ≡ 0 → ⊥)
    → y ≡ size_word w k → o ≡ total_of ds y → o ≡ Some z → r ≡ array_record z k m ds → TypeAdded w v n m r j
    → Judges v t (judged_after (so_far_at w t n m) (array_line k (up_to_zero ds))) j
unfolding array_record
array_judged {w} {n = n} {m = m} {k = k} {z = z} t ds h noted below four ne size answer bytes e added =
    let total : Some z ≡ total_of ds (size_word w k) = rw (← size) (sym bytes ∙ answer) in
    rw (array_line_lem t ds h below four ne, (total_fits ds (size_word w k) total).0, ← (total_fits ds (size_word w k) total).1)
    (typed t h noted (rw e at added) refl (λ x. below) refl refl (λ x. array_made w n x h.words (type_at w t) t z k m ds four))

pub array_large : {w : List ℕ} {n m k y : ℕ} {o : Option ℕ} (t ds : List ℕ) → Holds w n m → k < n → length ds ≡ 4 → (get_or ds 0 0 ≡ 0 → ⊥)
    → y ≡ size_word w k → o ≡ total_of ds y → o ≡ None → judged_after (so_far_at w t n m) (array_line k (up_to_zero ds)) ≡ none
array_large {w} {k = k} t ds h below four ne size answer many =
    let total : None ≡ total_of ds (size_word w k) = rw (← size) (sym many ∙ answer) in
    rw (array_line_lem t ds h below four ne, total_large ds (size_word w k) total)

pub array_none : {w : List ℕ} {n m k : ℕ} (t ds : List ℕ) → Holds w n m → k < n → length ds ≡ 4 → get_or ds 0 0 ≡ 0
    → judged_after (so_far_at w t n m) (array_line k (up_to_zero ds)) ≡ none
array_none {w} {n} {m} {k} t ds h below four e = rw (type_numbered_lem w t k n, lt-ltb k n below, no_dimension ds e)

-- ---- rows of the newest type

module _ {w : List ℕ} {i m : ℕ} (t : List ℕ) (h : Holds w (suc i) m) where
  newest_is : type_at w t i ≡ node (type_at w t) w t i
  newest_is = type_is t h i (omega arith)

  value_line_lem : (x : List ℕ) (z : ℤ) → judged_after (so_far_at w t (suc i) m) (value_line x z) ≡ (with_value x z (node (type_at w t) w t i) >>= add_row (so_far_at w t (suc i) m) (types_at w t i))
  unfolding types_at
  value_line_lem x z = ap (λ (T : Datatype). with_value x z T >>= add_row (so_far_at w t (suc i) m) (types_at w t i)) newest_is

  member_line_lem : (x : List ℕ) (offset k : ℕ) (word : Word) → k < i
      → judged_after (so_far_at w t (suc i) m) (member_line x offset k word) ≡ (with_member x offset (type_at w t k) word (node (type_at w t) w t i) >>= add_row (so_far_at w t (suc i) m) (types_at w t i))
  unfolding types_at
  member_line_lem x offset k word below =
      rw (type_numbered_lem w t k i, lt-ltb k i below)
      (ap (λ (T : Datatype). with_member x offset (type_at w t k) word T >>= add_row (so_far_at w t (suc i) m) (types_at w t i)) newest_is)

  member_high : (x : List ℕ) (offset k : ℕ) (word : Word) → i ≤ k → judged_after (so_far_at w t (suc i) m) (member_line x offset k word) ≡ none
  unfolding types_at
  member_high x offset k word high = rw (type_numbered_lem w t k i, le-ltb k i high)

module _ (D : ℕ → Datatype) (w t : List ℕ) (i : ℕ) where
  no_value : (x : List ℕ) (z : ℤ) → (class_word w i ≡ 2 → ⊥) → with_value x z (node D w t i) ≡ none
  no_value x z ne = by_class D w t i (λ (T : Datatype). with_value x z T ≡ none) (λ e. refl) (λ e. refl) (λ e. absurd (ne e)) (λ e. refl) (λ a b c d. refl)

  no_member : (x : List ℕ) (offset : ℕ) (U : Datatype) (word : Word) → (class_word w i ≡ 3 → ⊥) → with_member x offset U word (node D w t i) ≡ none
  no_member x offset U word ne = by_class D w t i (λ (T : Datatype). with_member x offset U word T ≡ none) (λ e. refl) (λ e. absurd (ne e)) (λ e. refl) (λ e. refl) (λ a b c d. refl)

-- no type is there to get a row
pub value_first : (w t : List ℕ) {n : ℕ} (m : ℕ) (x : List ℕ) (z : ℤ) → n ≡ 0 → judged_after (so_far_at w t n m) (value_line x z) ≡ none
unfolding types_at
value_first w t m x z e = rw e

pub member_first : (w t : List ℕ) {n : ℕ} (m : ℕ) (x : List ℕ) (offset k : ℕ) (word : Word) → n ≡ 0 → judged_after (so_far_at w t n m) (member_line x offset k word) ≡ none
unfolding types_at type_numbered
member_first w t m x offset k word e = rw e

-- ---- values

pub value_other : {w : List ℕ} (n : ℕ) {m : ℕ} (t x : List ℕ) (z : ℤ) → Holds w n m → (n ≡ 0 → ⊥) → (class_word w (n - 1) ≡ 2 → ⊥)
    → judged_after (so_far_at w t n m) (value_line x z) ≡ none
value_other zero t x z h ne other = absurd (ne refl)
value_other {w} (suc i) t x z h ne other = value_line_lem t h x z ∙ rw (no_value (type_at w t) w t i x z (rw sub-one at other))

value_in : {w : List ℕ} (n : ℕ) {m : ℕ} (t x : List ℕ) (z : ℤ) → Holds w n m → (n ≡ 0 → ⊥) → class_word w (n - 1) ≡ 2
    → judged_after (so_far_at w t n m) (value_line x z)
    ≡ (when (may_list (layout_at w (n - 1)) (symbols_at w t (first_word w (n - 1)) (rows_word w (n - 1))) x z)
    (leaf (enumeration (layout_at w (n - 1)) (record { name = x; number = z } ∷ symbols_at w t (first_word w (n - 1)) (rows_word w (n - 1)))))
    >>= add_row (so_far_at w t n m) (types_at w t (n - 1)))
value_in zero t x z h ne e = absurd (ne refl)
value_in {w} (suc i) t x z h ne e = value_line_lem t h x z ∙ rw (sub-one, node_enum (type_at w t) w t i (rw sub-one at e)) refl

pub value_refused : {w : List ℕ} (n : ℕ) {m : ℕ} {b : Bool} (t x : List ℕ) (z : ℤ) → Holds w n m → (n ≡ 0 → ⊥) → class_word w (n - 1) ≡ 2
    → b ≡ may_list (layout_at w (n - 1)) (symbols_at w t (first_word w (n - 1)) (rows_word w (n - 1))) x z → not b ≡ true
    → judged_after (so_far_at w t n m) (value_line x z) ≡ none
value_refused n t x z h ne e may test = value_in n t x z h ne e ∙ rw (fails may test)

pub value_judged : {w v r : List ℕ} (n : ℕ) {m mark : ℕ} {j : Option Counts} {b : Bool} (t : List ℕ) (start len : ℕ) (negative : Bool) (d : ℕ) → Holds w n m → Noted w t n m → (n ≡ 0 → ⊥) → class_word w (n - 1) ≡ 2
    → b ≡ may_list (layout_at w (n - 1)) (symbols_at w t (first_word w (n - 1)) (rows_word w (n - 1))) (bytes_at t start len) (signed_by negative d) → not b ≡ false
    → mark ≡ mark_of (bytes_at t start len) → r ≡ value_record start len negative d → RowAdded w v mark n m r j
    → Judges v t (judged_after (so_far_at w t n m) (value_line (bytes_at t start len) (signed_by negative d))) j
unfolding value_record
value_judged zero t start len negative d h noted ne e may test marked er added = absurd (ne refl)
value_judged {w} {v} (suc i) {m} t start len negative d h noted ne e may test marked er added =
    let class : class_word w i ≡ 2 = rw sub-one at e in
    rw (value_in (suc i) t (bytes_at t start len) (signed_by negative d) h ne e, holds may test, sub-one)
    (rowed {e = 0} t h noted marked (rw er at added) (λ long. end_kept v i) refl refl (λ x. absurd (omega arith)) (λ x. value_made t start len negative d h x (type_at w t) class))

-- ---- members

pub member_late : {w : List ℕ} (n : ℕ) {m : ℕ} (t x : List ℕ) (offset k : ℕ) (word : Word) → Holds w n m → (n ≡ 0 → ⊥) → n - 1 ≤ k
    → judged_after (so_far_at w t n m) (member_line x offset k word) ≡ none
member_late zero t x offset k word h ne high = absurd (ne refl)
member_late (suc i) t x offset k word h ne high = member_high t h x offset k word (rw sub-one at high)

pub member_other : {w : List ℕ} (n : ℕ) {m : ℕ} (t x : List ℕ) (offset k : ℕ) (word : Word) → Holds w n m → (n ≡ 0 → ⊥) → k < n - 1 → (class_word w (n - 1) ≡ 3 → ⊥)
    → judged_after (so_far_at w t n m) (member_line x offset k word) ≡ none
member_other zero t x offset k word h ne below other = absurd (ne refl)
member_other {w} (suc i) t x offset k word h ne below other =
    member_line_lem t h x offset k word (rw sub-one at below) ∙ rw (no_member (type_at w t) w t i x offset (type_at w t k) word (rw sub-one at other))

member_in : {w : List ℕ} (n : ℕ) {m : ℕ} (t x : List ℕ) (offset k : ℕ) (word : Word) → Holds w n m → (n ≡ 0 → ⊥) → k < n - 1 → class_word w (n - 1) ≡ 3
    → judged_after (so_far_at w t n m) (member_line x offset k word)
    ≡ (when (may_place (size_word w (n - 1)) (members_at (type_at w t) w t (first_word w (n - 1)) (rows_word w (n - 1))) x offset (size_word w k))
    (compound (size_word w (n - 1)) (member x offset (type_at w t k) word (members_at (type_at w t) w t (first_word w (n - 1)) (rows_word w (n - 1)))))
    >>= add_row (so_far_at w t n m) (types_at w t (n - 1)))
member_in zero t x offset k word h ne below e = absurd (ne refl)
member_in {w} (suc i) t x offset k word h ne below e =
    let lower : k < i = rw sub-one at below in
    member_line_lem t h x offset k word lower ∙ rw (sub-one, node_compound (type_at w t) w t i (rw sub-one at e), type_size t h k (omega arith)) refl

pub member_refused : {w : List ℕ} (n : ℕ) {m : ℕ} {b : Bool} (t x : List ℕ) (offset k : ℕ) (word : Word) {width : ℕ} → Holds w n m → (n ≡ 0 → ⊥) → k < n - 1 → class_word w (n - 1) ≡ 3 → width ≡ size_word w k
    → b ≡ may_place (size_word w (n - 1)) (members_at (type_at w t) w t (first_word w (n - 1)) (rows_word w (n - 1))) x offset width → not b ≡ true
    → judged_after (so_far_at w t n m) (member_line x offset k word) ≡ none
member_refused n t x offset k word h ne below e size may test = member_in n t x offset k word h ne below e ∙ rw (← size, fails may test)

pub member_judged : {w v u r : List ℕ} (n : ℕ) {m mark : ℕ} {j : Option Counts} {b : Bool} (t : List ℕ) (start len offset k : ℕ) (word : Word) {width : ℕ} → Holds w n m → Noted w t n m → (n ≡ 0 → ⊥) → k < n - 1 → class_word w (n - 1) ≡ 3 → width ≡ size_word w k
    → b ≡ may_place (size_word w (n - 1)) (members_at (type_at w t) w t (first_word w (n - 1)) (rows_word w (n - 1))) (bytes_at t start len) offset width → not b ≡ false
    → mark ≡ mark_of (bytes_at t start len) → r ≡ member_record start len offset k word → RowAdded w v mark n m r j → u ≡ end_raised v (n - 1) (offset + width)
    → Judges u t (judged_after (so_far_at w t n m) (member_line (bytes_at t start len) offset k word)) j
unfolding member_record
member_judged zero t start len offset k word h noted ne below e size may test marked er added ended = absurd (ne refl)
member_judged {w} {v} (suc i) {m} t start len offset k word {width} h noted ne below e size may test marked er added ended =
    let class : class_word w i ≡ 3 = rw sub-one at e in
    rw (member_in (suc i) t (bytes_at t start len) offset k word h ne below e, ← size, holds may test, sub-one)
    (rowed {e = offset + width} t h noted marked (rw er at added) (λ long. rw (ended, sub-one) (end_raised_lem v i (offset + width) h.types long)) refl refl (λ x. (rw sub-one at below, omega (arith, size))) (λ x. member_made t start len offset k word h x (type_at w t) class))

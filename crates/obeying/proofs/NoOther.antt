-- Where no member's word asks for another handling than the call's, each leaf obeys the call. Assumes nothing.
use mathlib.Core.Path.{◌≡◌, refl, sym, ap, ◌∙◌}
use mathlib.Core.Bool.{Bool, true, false, cond}
use mathlib.Core.List.{List}
use Prim.Native.Nat.{ℕ, zero, suc, ◌+◌, ◌-◌, ◌%◌, ◌≤◌, ◌<◌}
use native.Mathlib.Omega.{arith}
use borrow.Author.Tests.{eqb-true, ltb-true, ltb-false, leb-false}
use lib.Dec.{eqb, leb, ltb}
use Rattle.datatype.specs.declared.Word.{Word}
use Rattle.datatype.specs.Datatype.{Datatype, size}
use Rattle.datatype.specs.Datatype.Datatype.{leaf, compound, array}
use Rattle.datatype.specs.Leaves.{within}
use Rattle.datatype.specs.Handling.{asked, or_outer, word_at, word_in, handling_at}
use Rattle.datatype.proofs.Handling.{asked_outer}
use Rattle.table.specs.Table.{type_word, class_word, size_word, base_word, first_word, rows_word, offset_word, member_type_word, row_word, word_of, word_at_row, leaf_of_type, dimensions_at, members_at, node, decode, type_at}
use Rattle.table.specs.Words.{Reads}
use Rattle.obeying.specs.Obeying.{RowsObey, TypeObeys}

module _ (w t : List ℕ) (h n : ℕ) (obey : (i : ℕ) → i < n → TypeObeys w h i) where
  module _ (D : ℕ → Datatype) (inner : (i b : ℕ) → i < n → asked (word_at (D i) b) h ≡ h) where
    members_none : (i first m b : ℕ) → i < n → RowsObey w h i first m → asked (word_in (members_at D w t first m) b) h ≡ h
    unfolding members_at word_at
    members_none i first zero b l rows = refl
    members_none i first (suc m) b l rows =
        go (within (offset_word w (first + m)) (size (D (member_type_word w (first + m)))) b) (members_none i first m b l (λ j less. rows j (omega arith)))
      where
        last : (asked (word_at_row w (first + m)) h ≡ h) × (member_type_word w (first + m) < i)
        last = rows m (omega arith)

        go : (y : Bool) → asked (word_in (members_at D w t first m) b) h ≡ h
            → asked (cond y (or_outer (word_at (D (member_type_word w (first + m))) (b - offset_word w (first + m))) (word_at_row w (first + m))) (word_in (members_at D w t first m) b)) h ≡ h
        go true later =
            asked_outer (word_at (D (member_type_word w (first + m))) (b - offset_word w (first + m))) (word_at_row w (first + m)) h
            ∙ ap (asked (word_at (D (member_type_word w (first + m))) (b - offset_word w (first + m)))) last.0
            ∙ inner (member_type_word w (first + m)) (b - offset_word w (first + m)) (omega (arith, last.1, l))
        go false later = later

    node_none : (i b : ℕ) → i < n → asked (word_at (node D w t i) b) h ≡ h
    unfolding node word_at
    node_none i b l = go (eqb (class_word w i) 4) (eqb (class_word w i) 3) refl refl
      where
        go : (x y : Bool) → eqb (class_word w i) 4 ≡ x → eqb (class_word w i) 3 ≡ y
            → asked (word_at (cond x (array (size_word w i) (dimensions_at w i) (D (base_word w i))) (cond y (compound (size_word w i) (members_at D w t (first_word w i) (rows_word w i))) (leaf (leaf_of_type w t i)))) b) h ≡ h
        go true y d e =
            let less : base_word w i < i = (obey i l).elements (eqb-true (class_word w i) 4 d) in
            inner (base_word w i) (b % size (D (base_word w i))) (omega (arith, less, l))
        go false true d e = members_none i (first_word w i) (rows_word w i) b l ((obey i l).members (eqb-true (class_word w i) 3 e))
        go false false d e = refl

  decode_none : (f i b : ℕ) → i < n → asked (word_at (decode f w t i) b) h ≡ h
  unfolding decode word_at
  decode_none zero i b l = refl
  decode_none (suc f) i b l = node_none (decode f w t) (decode_none f) i b l

outside : (w : List ℕ) (i : ℕ) → ltb i 64 ≡ false → class_word w i ≡ 0
unfolding type_word
outside w i e = rw e refl

module _ (w : List ℕ) (h : ℕ) where
  -- ---- the rows of a type

  pub rows_none : (i first : ℕ) → RowsObey w h i first 0
  rows_none i first j l = absurd (omega arith)

  pub rows_more : (i first n : ℕ) {c g d : ℕ} {word : Word} → RowsObey w h i first n → Reads (row_word w (first + n) 5) c → word ≡ word_of c → g ≡ asked word h → g ≡ h
      → Reads (row_word w (first + n) 3) d → d < i → RowsObey w h i first (n + 1)
  rows_more i first n {c} {g} {d} {word} none hc hw hg same hd less j l = go (ltb j n) refl
    where
      go : (y : Bool) → ltb j n ≡ y → (asked (word_at_row w (first + j)) h ≡ h) × (member_type_word w (first + j) < i)
      go true e = none j (ltb-true j n e)
      go false e =
          let at : j ≡ n = omega (arith, ltb-false j n e) in
          rw (at, ← hc.is, ← hw, ← hg, ← hd.is) (same, less)

  pub rows_all : (i first n q : ℕ) → n ≤ q → RowsObey w h i first q → RowsObey w h i first n
  rows_all i first n q l rows j m = rows j (omega arith)

  -- ---- the types

  pub type_rows : (i : ℕ) {c first n : ℕ} → Reads (class_word w i) c → c ≡ 3 → Reads (first_word w i) first → Reads (rows_word w i) n → RowsObey w h i first n → TypeObeys w h i
  type_rows i hc three hf hn rows =
      record {
        members = λ e. rw (← hf.is, ← hn.is) rows;
        elements = λ e. absurd (let z : ◌≡◌ {A = ℕ} 3 4 = sym three ∙ hc.is ∙ e in omega arith);
      }

  pub type_elements : (i : ℕ) {c d : ℕ} → Reads (class_word w i) c → ¬ (c ≡ 3) → Reads (base_word w i) d → leb i d ≡ false → TypeObeys w h i
  type_elements i {c} {d} hc n hd e =
      record { members = λ three. absurd (n (hc.is ∙ three)); elements = λ four. rw (← hd.is) (leb-false i d e) }

  pub type_other : (i : ℕ) {c : ℕ} → Reads (class_word w i) c → ¬ (c ≡ 3) → ¬ (c ≡ 4) → TypeObeys w h i
  type_other i hc n m = record { members = λ e. absurd (n (hc.is ∙ e)); elements = λ e. absurd (m (hc.is ∙ e)) }

  -- none of the first n types has a member that asks for another handling
  abbrev pub TypesObey : ℕ → Type 0
  TypesObey n = (i : ℕ) → i < n → TypeObeys w h i

  pub types_none : TypesObey 0
  types_none i l = absurd (omega arith)

  pub types_more : (n : ℕ) → TypesObey n → TypeObeys w h n → TypesObey (n + 1)
  types_more n types last i l = go (ltb i n) refl
    where
      go : (y : Bool) → ltb i n ≡ y → TypeObeys w h i
      go true e = types i (ltb-true i n e)
      go false e = let at : i ≡ n = omega (arith, ltb-false i n e) in rw at last

  -- a type behind the records is a leaf
  types_all : (n : ℕ) → 64 ≤ n → TypesObey n → (i : ℕ) → TypeObeys w h i
  types_all n most types i = go (ltb i 64) refl
    where
      go : (y : Bool) → ltb i 64 ≡ y → TypeObeys w h i
      go true e = types i (omega (arith, ltb-true i 64 e))
      go false e =
          record {
            members = λ three. absurd (let z : ◌≡◌ {A = ℕ} 0 3 = sym (outside w i e) ∙ three in omega arith);
            elements = λ four. absurd (let z : ◌≡◌ {A = ℕ} 0 4 = sym (outside w i e) ∙ four in omega arith);
          }

  pub obeys_call : (n k : ℕ) → k < n → TypesObey n → (t : List ℕ) (b : ℕ) → handling_at h (type_at w t k) b ≡ h
  unfolding handling_at
  obeys_call n k l types t b = decode_none w t h n types 64 k b l

  pub obeys_call_all : (n k : ℕ) → 64 ≤ n → TypesObey n → (t : List ℕ) (b : ℕ) → handling_at h (type_at w t k) b ≡ h
  obeys_call_all n k most types t b = obeys_call (suc k) k (omega arith) (λ i l. types_all n most types i) t b

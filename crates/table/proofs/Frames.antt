-- What a type depends on: the types inside it, and its own words and rows. Assumes nothing.
use mathlib.Core.Path.{◌≡◌, refl, ap, ap₂, ◌∙◌}
use mathlib.Core.List.{List, ◌∷◌}
use mathlib.Core.Bool.{Bool, true, false, cond}
use Prim.Native.Nat.{ℕ, zero, suc, ◌+◌, ◌<◌, ◌≤◌}
use native.Mathlib.Nat.{not-suc-le-zero}
use native.Mathlib.Omega.{arith}
use borrow.Author.Tests.{eqb-true}
use lib.Dec.{eqb, lit<}
use Rattle.datatype.specs.Datatype.{Symbol, Datatype, Members}
use Rattle.datatype.specs.Datatype.Datatype.{leaf, compound, array}
use Rattle.datatype.specs.Datatype.Members.{empty, member}
use Rattle.table.specs.Table.{type_word, row_word, class_word, size_word, base_word, first_word, rows_word, offset_word, member_type_word, word_at_row, layout_at, name_at, value_at, symbols_at, leaf_of_type, members_at, dimensions_at, node, decode, type_at, types_at, Low}

-- w and v agree on the types below n and the rows below m
pub record Agree (w v : List ℕ) (n m : ℕ) : Type 0 where
  pub types : (i q : ℕ) → i < n → q < 16 → type_word w i q ≡ type_word v i q
  pub rows : (j q : ℕ) → j < m → q < 8 → row_word w j q ≡ row_word v j q

-- ---- the types inside

module _ (w t : List ℕ) (D E : ℕ → Datatype) where
  members_cong : (first n : ℕ) → ((j : ℕ) → first ≤ j → j < first + n → D (member_type_word w j) ≡ E (member_type_word w j)) → members_at D w t first n ≡ members_at E w t first n
  unfolding members_at
  members_cong first zero h = refl
  members_cong first (suc n) h =
      ap₂ (λ (T : Datatype) (ms : Members). member (name_at w t (first + n)) (offset_word w (first + n)) T (word_at_row w (first + n)) ms)
      (h (first + n) (omega arith) (omega arith))
      (members_cong first n (λ j a b. h j a (omega arith)))

  pub node_cong : {m i : ℕ} → Low w m i → ((k : ℕ) → k < i → D k ≡ E k) → node D w t i ≡ node E w t i
  unfolding node
  node_cong {i = i} low h = go (eqb (class_word w i) 4) (eqb (class_word w i) 3) refl refl
    where
      go : (a b : Bool) → eqb (class_word w i) 4 ≡ a → eqb (class_word w i) 3 ≡ b
          → cond a (array (size_word w i) (dimensions_at w i) (D (base_word w i)))
          (cond b (compound (size_word w i) (members_at D w t (first_word w i) (rows_word w i)))
          (leaf (leaf_of_type w t i)))
          ≡ cond a (array (size_word w i) (dimensions_at w i) (E (base_word w i)))
          (cond b (compound (size_word w i) (members_at E w t (first_word w i) (rows_word w i)))
          (leaf (leaf_of_type w t i)))
      go true b p q = ap (array (size_word w i) (dimensions_at w i)) (h (base_word w i) (low.base (eqb-true _ _ p)))
      go false true p q =
          ap (compound (size_word w i))
          (members_cong (first_word w i) (rows_word w i) (λ j x y. h (member_type_word w j) (low.inner (eqb-true _ _ q) j x y)))
      go false false p q = refl

-- the depth does not matter, where it is deep enough
pub decode_deep : (w t : List ℕ) (n m : ℕ) → ((i : ℕ) → i < n → Low w m i) → (f g i : ℕ) → i < f → i < g → i < n → decode f w t i ≡ decode g w t i
unfolding decode
decode_deep w t n m lows zero g i a b c = absurd (not-suc-le-zero a)
decode_deep w t n m lows (suc f) zero i a b c = absurd (not-suc-le-zero b)
decode_deep w t n m lows (suc f) (suc g) i a b c =
    node_cong w t (decode f w t) (decode g w t) (lows i c) (λ k x. decode_deep w t n m lows f g k (omega arith) (omega arith) (omega arith))

pub type_node : (w t : List ℕ) (n m : ℕ) → ((i : ℕ) → i < n → Low w m i) → n ≤ 64 → (i : ℕ) → i < n → type_at w t i ≡ node (type_at w t) w t i
unfolding decode
type_node w t n m lows h i x =
    node_cong w t (decode 63 w t) (decode 64 w t) (lows i x) (λ k y. decode_deep w t n m lows 63 64 k (omega arith) (omega arith) (omega arith))

-- ---- the words

module _ (w v t : List ℕ) {n m : ℕ} (ag : Agree w v n m) where
  pub layout_frame : (i : ℕ) → i < n → layout_at w i ≡ layout_at v i
  unfolding layout_at
  layout_frame i h =
      rw (
        ag.types i 0 h (lit< tt),
        ag.types i 1 h (lit< tt),
        ag.types i 2 h (lit< tt),
        ag.types i 3 h (lit< tt),
        ag.types i 4 h (lit< tt),
        ag.types i 5 h (lit< tt),
        ag.types i 6 h (lit< tt),
        ag.types i 7 h (lit< tt),
      ) refl

  pub members_frame : (D : ℕ → Datatype) (first k : ℕ) → first + k ≤ m → members_at D w t first k ≡ members_at D v t first k
  unfolding members_at
  members_frame D first zero h = refl
  members_frame D first (suc k) h =
      let x : first + k < m = omega arith in
      rw (
        ag.rows (first + k) 0 x (lit< tt),
        ag.rows (first + k) 1 x (lit< tt),
        ag.rows (first + k) 2 x (lit< tt),
        ag.rows (first + k) 3 x (lit< tt),
        ag.rows (first + k) 5 x (lit< tt),
      )
      (ap (member (name_at v t (first + k)) (offset_word v (first + k)) (D (member_type_word v (first + k))) (word_at_row v (first + k))) (members_frame D first k (omega arith)))

  pub symbols_frame : (first k : ℕ) → first + k ≤ m → symbols_at w t first k ≡ symbols_at v t first k
  unfolding symbols_at
  symbols_frame first zero h = refl
  symbols_frame first (suc k) h =
      let x : first + k < m = omega arith in
      rw (
        ag.rows (first + k) 0 x (lit< tt),
        ag.rows (first + k) 1 x (lit< tt),
        ag.rows (first + k) 2 x (lit< tt),
        ag.rows (first + k) 3 x (lit< tt),
        ag.rows (first + k) 4 x (lit< tt),
      )
      (ap (λ (ss : List Symbol). record { name = name_at v t (first + k); number = value_at v (first + k) } ∷ ss) (symbols_frame first k (omega arith)))

  leaf_frame : (i : ℕ) → i < n → first_word w i + rows_word w i ≤ m → leaf_of_type w t i ≡ leaf_of_type v t i
  unfolding leaf_of_type
  leaf_frame i h r =
      rw (
        symbols_frame (first_word w i) (rows_word w i) r,
        layout_frame i h,
        ag.types i 0 h (lit< tt),
        ag.types i 9 h (lit< tt),
        ag.types i 10 h (lit< tt),
      ) refl

  pub node_frame : (D : ℕ → Datatype) (i : ℕ) → i < n → first_word w i + rows_word w i ≤ m → node D w t i ≡ node D v t i
  unfolding node
  node_frame D i h r =
      rw (
        members_frame D (first_word w i) (rows_word w i) r,
        leaf_frame i h r,
        ag.types i 0 h (lit< tt),
        ag.types i 1 h (lit< tt),
        ag.types i 8 h (lit< tt),
        ag.types i 9 h (lit< tt),
        ag.types i 10 h (lit< tt),
        ag.types i 11 h (lit< tt),
        ag.types i 12 h (lit< tt),
        ag.types i 13 h (lit< tt),
        ag.types i 14 h (lit< tt),
      ) refl

  pub low_frame : (m' i : ℕ) → m ≤ m' → i < n → Low w m i → Low v m' i
  low_frame m' i le h low =
      record {
        base = λ e. rw (← (ag.types i 8 h (lit< tt))) (low.base (ag.types i 0 h (lit< tt) ∙ e));
        room = rw (← (ag.types i 9 h (lit< tt)), ← (ag.types i 10 h (lit< tt))) (omega (arith, low.room));
        inner = λ e j a b.
            let x : j < first_word w i + rows_word w i = rw (ag.types i 9 h (lit< tt), ag.types i 10 h (lit< tt)) b in
            rw (← (ag.rows j 3 (omega (arith, low.room)) (lit< tt)))
            (low.inner (ag.types i 0 h (lit< tt) ∙ e) j (rw (ag.types i 9 h (lit< tt)) a) x);
      }

  pub decode_frame : ((i : ℕ) → i < n → Low w m i) → (f i : ℕ) → i < n → decode f w t i ≡ decode f v t i
  unfolding decode
  decode_frame lows zero i h = ap (λ (z : ℕ). compound z empty) (ag.types i 1 h (lit< tt))
  decode_frame lows (suc f) i h =
      node_cong w t (decode f w t) (decode f v t) (lows i h) (λ k x. decode_frame lows f k (omega arith))
      ∙ node_frame (decode f v t) i h (lows i h).room

  pub types_frame : ((i : ℕ) → i < n → Low w m i) → (k : ℕ) → k ≤ n → types_at w t k ≡ types_at v t k
  unfolding types_at
  types_frame lows zero h = refl
  types_frame lows (suc k) h =
      ap₂ (λ (T : Datatype) (ts : List Datatype). T ∷ ts) (decode_frame lows 64 k h) (types_frame lows k (omega arith))

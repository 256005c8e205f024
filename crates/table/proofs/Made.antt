-- What each record decodes to once it is stored. Assumes nothing.
use mathlib.Core.Path.{◌≡◌, refl, sym, ap, ◌∙◌}
use mathlib.Core.List.{List, [], ◌∷◌}
use mathlib.Core.Bool.{Bool, true, false, cond}
use Prim.Native.Nat.{ℕ, suc, ◌+◌, ◌*◌, ◌/◌, ◌%◌, ◌<◌}
use native.Mathlib.Nat.{div-add-mod'}
use native.Mathlib.Numerals.{add-one}
use native.Mathlib.Omega.{arith}
use borrow.Author.Tests.{ne_eqb}
use lib.Dec.{eqb, lit<}
use lib.ListN.{get_or, length}
use lib.Seq.{paste}
use Rattle.layout.specs.declared.Class.{Class}
use Rattle.layout.specs.declared.Class.TheVariants.{Int, Bits}
use Rattle.layout.specs.declared.Layout.{Layout}
use Rattle.number.specs.Parts.{signed_by}
use Rattle.datatype.specs.declared.Word.{Word}
use Rattle.datatype.specs.Datatype.{Datatype, size}
use Rattle.datatype.specs.Datatype.Leaf.{atomic, enumeration, real}
use Rattle.datatype.specs.Datatype.Datatype.{leaf, compound, array}
use Rattle.datatype.specs.Datatype.Members.{empty, member}
use Rattle.table.specs.Table.{type_word, class_of, flag_of, word_of, class_word, size_word, base_word, first_word, rows_word, layout_at, bytes_at, symbols_at, leaf_of_type, members_at, up_to_zero, dimensions_at, node, Holds}
use Rattle.table.specs.Records.{class_code, layout_record, atomic_record, real_record, enum_record, compound_record, array_record, value_record, member_record, row_added}
use Rattle.table.proofs.Coded.{order_back, pad_back, flag_back, class_back, word_back}
use Rattle.table.proofs.Frames.{Agree, members_frame, symbols_frame}
use Rattle.table.proofs.Stores.{type_made, row_made, row_before, row_types, row_counted}

-- ---- a type by its class

module _ (D : ℕ → Datatype) (w t : List ℕ) (i : ℕ) where
  pub node_array : class_word w i ≡ 4 → node D w t i ≡ array (size_word w i) (dimensions_at w i) (D (base_word w i))
  unfolding node
  node_array e = rw e

  pub node_compound : class_word w i ≡ 3 → node D w t i ≡ compound (size_word w i) (members_at D w t (first_word w i) (rows_word w i))
  unfolding node
  node_compound e = rw e

  pub node_enum : class_word w i ≡ 2 → node D w t i ≡ leaf (enumeration (layout_at w i) (symbols_at w t (first_word w i) (rows_word w i)))
  unfolding node leaf_of_type
  node_enum e = rw e

  pub node_real : class_word w i ≡ 5 → node D w t i ≡ leaf (real (layout_at w i))
  unfolding node leaf_of_type
  node_real e = rw e

  -- any other class reads as an atomic one
  pub node_leaf : (class_word w i ≡ 4 → ⊥) → (class_word w i ≡ 3 → ⊥) → (class_word w i ≡ 2 → ⊥) → (class_word w i ≡ 5 → ⊥)
      → node D w t i ≡ leaf (atomic (layout_at w i))
  unfolding node leaf_of_type
  node_leaf e f g h = rw (ne_eqb _ _ e, ne_eqb _ _ f, ne_eqb _ _ g, ne_eqb _ _ h)

  pub node_atomic : (k : Class) → class_word w i ≡ class_code k → node D w t i ≡ leaf (atomic (layout_at w i))
  node_atomic Int e = node_leaf (λ x. omega arith) (λ x. omega arith) (λ x. omega arith) (λ x. omega arith)
  node_atomic Bits e = node_leaf (λ x. omega arith) (λ x. omega arith) (λ x. omega arith) (λ x. omega arith)

  -- every type says its size
  pub node_size : size (node D w t i) ≡ size_word w i
  unfolding node leaf_of_type layout_at
  node_size = go (eqb (class_word w i) 4) (eqb (class_word w i) 3) (eqb (class_word w i) 2) (eqb (class_word w i) 5)
    where
      go : (a b c d : Bool) → size (cond a (array (size_word w i) (dimensions_at w i) (D (base_word w i)))
          (cond b (compound (size_word w i) (members_at D w t (first_word w i) (rows_word w i)))
          (leaf (cond c (enumeration (layout_at w i) (symbols_at w t (first_word w i) (rows_word w i))) (cond d (real (layout_at w i)) (atomic (layout_at w i)))))))
          ≡ size_word w i
      go true b c d = refl
      go false true c d = refl
      go false false true d = refl
      go false false false true = refl
      go false false false false = refl

-- ---- records of types

four : (ds : List ℕ) → length ds ≡ 4 → get_or ds 0 0 ∷ get_or ds 1 0 ∷ get_or ds 2 0 ∷ get_or ds 3 0 ∷ [] ≡ ds
four [] e = absurd (omega arith)
four (a ∷ []) e = absurd (omega arith)
four (a ∷ b ∷ []) e = absurd (omega arith)
four (a ∷ b ∷ c ∷ []) e = absurd (omega arith)
four (a ∷ b ∷ c ∷ d ∷ []) e = refl
four (a ∷ b ∷ c ∷ d ∷ x ∷ xs) e = absurd (omega arith)

module _ (w : List ℕ) (i : ℕ) (room : i < 64) (words : length w ≡ 4096) where
  layout_made : (c : ℕ) (l : Layout) (first : ℕ) → class_of c ≡ l.class → layout_at (paste w (16 * i) (layout_record c l first) 16) i ≡ l
  unfolding layout_at layout_record
  layout_made c l first e =
      let made = type_made w (layout_record c l first) i room words refl in
      rw (
        made 0 (lit< tt),
        made 1 (lit< tt),
        made 2 (lit< tt),
        made 3 (lit< tt),
        made 4 (lit< tt),
        made 5 (lit< tt),
        made 6 (lit< tt),
        made 7 (lit< tt),
        e,
        order_back l.order,
        pad_back l.lsb,
        pad_back l.msb,
        flag_back l.signed,
      ) refl

  pub atomic_made : (D : ℕ → Datatype) (t : List ℕ) (l : Layout) (first : ℕ) → node D (paste w (16 * i) (atomic_record l first) 16) t i ≡ leaf (atomic l)
  unfolding layout_record
  atomic_made D t l first =
      let v = paste w (16 * i) (atomic_record l first) 16 in
      node_atomic D v t i l.class (type_made w (atomic_record l first) i room words refl 0 (lit< tt))
      ∙ ap (λ (k : Layout). leaf (atomic k)) (layout_made (class_code l.class) l first (class_back l.class))

  pub real_made : (D : ℕ → Datatype) (t : List ℕ) (l : Layout) (first : ℕ) → l.class ≡ Int → node D (paste w (16 * i) (real_record l first) 16) t i ≡ leaf (real l)
  unfolding layout_record
  real_made D t l first e =
      let made = type_made w (real_record l first) i room words refl in
      node_real D (paste w (16 * i) (real_record l first) 16) t i (made 0 (lit< tt))
      ∙ ap (λ (k : Layout). leaf (real k)) (layout_made 5 l first (sym e))

  pub enum_made : (D : ℕ → Datatype) (t : List ℕ) (l : Layout) (first : ℕ) → l.class ≡ Int → node D (paste w (16 * i) (enum_record l first) 16) t i ≡ leaf (enumeration l [])
  unfolding layout_record symbols_at
  enum_made D t l first e =
      let made = type_made w (enum_record l first) i room words refl in
      node_enum D (paste w (16 * i) (enum_record l first) 16) t i (made 0 (lit< tt))
      ∙ rw (layout_made 2 l first (sym e), made 10 (lit< tt)) refl

  pub compound_made : (D : ℕ → Datatype) (t : List ℕ) (z first : ℕ) → node D (paste w (16 * i) (compound_record z first) 16) t i ≡ compound z empty
  unfolding compound_record members_at
  compound_made D t z first =
      let made = type_made w (compound_record z first) i room words refl in
      node_compound D (paste w (16 * i) (compound_record z first) 16) t i (made 0 (lit< tt))
      ∙ rw (made 1 (lit< tt), made 10 (lit< tt)) refl

  pub array_made : (D : ℕ → Datatype) (t : List ℕ) (z base first : ℕ) (ds : List ℕ) → length ds ≡ 4
      → node D (paste w (16 * i) (array_record z base first ds) 16) t i ≡ array z (up_to_zero ds) (D base)
  unfolding array_record
  array_made D t z base first ds e =
      let made = type_made w (array_record z base first ds) i room words refl in
      node_array D (paste w (16 * i) (array_record z base first ds) 16) t i (made 0 (lit< tt))
      ∙ rw (made 1 (lit< tt), made 8 (lit< tt), made 11 (lit< tt), made 12 (lit< tt), made 13 (lit< tt), made 14 (lit< tt))
      (ap (λ (es : List ℕ). array z (up_to_zero es) (D base)) (four ds e))

-- ---- records of rows, of type i, the newest

module _ {w : List ℕ} {i m : ℕ} (t r : List ℕ) (h : Holds w (suc i) m) (whole : length r ≡ 8) (room : m < 256) where
  i64 : i < 64
  i64 = h.types

  kept : (q : ℕ) → q < 16 → (q ≡ 10 → ⊥) → type_word (row_added w i m r) i q ≡ type_word w i q
  kept q x ne = sym (row_types w r i m i64 room h.words whole i q i64 x (λ z. ne (omega arith)))

  -- below row m the tables agree
  ag : Agree w (row_added w i m r) 0 m
  ag = record { types = λ k q a b. omega arith; rows = λ j q a b. row_before w r i m i64 room h.words whole j q a b }

  counted : rows_word (row_added w i m r) i ≡ rows_word w i + 1
  counted = row_counted w r i m i64 room h.words whole

  last : first_word w i + rows_word w i ≡ m
  last = h.newest i refl

  layout_kept : layout_at (row_added w i m r) i ≡ layout_at w i
  unfolding layout_at
  layout_kept =
      rw (
        kept 0 (lit< tt) (λ z. omega arith),
        kept 1 (lit< tt) (λ z. omega arith),
        kept 2 (lit< tt) (λ z. omega arith),
        kept 3 (lit< tt) (λ z. omega arith),
        kept 4 (lit< tt) (λ z. omega arith),
        kept 5 (lit< tt) (λ z. omega arith),
        kept 6 (lit< tt) (λ z. omega arith),
        kept 7 (lit< tt) (λ z. omega arith),
      ) refl

  -- a compound gets a member
  member_added : (D : ℕ → Datatype) → class_word w i ≡ 3
      → node D (row_added w i m r) t i
      ≡ compound (size_word w i) (member (bytes_at t (get_or r 0 0) (get_or r 1 0)) (get_or r 2 0) (D (get_or r 3 0)) (word_of (get_or r 5 0)) (members_at D w t (first_word w i) (rows_word w i)))
  unfolding members_at
  member_added D e =
      let v = row_added w i m r in
      let made = row_made w r i m i64 room h.words whole in
      node_compound D v t i (kept 0 (lit< tt) (λ z. omega arith) ∙ e)
      ∙ rw (
        kept 1 (lit< tt) (λ z. omega arith),
        kept 9 (lit< tt) (λ z. omega arith),
        counted,
        add-one,
        last,
        made 0 (lit< tt),
        made 1 (lit< tt),
        made 2 (lit< tt),
        made 3 (lit< tt),
        made 5 (lit< tt),
        members_frame w v t ag D (first_word w i) (rows_word w i) (omega (arith, last)),
      ) refl

  -- an enum gets a value
  value_added : (D : ℕ → Datatype) → class_word w i ≡ 2
      → node D (row_added w i m r) t i
      ≡ leaf (enumeration (layout_at w i) (record { name = bytes_at t (get_or r 0 0) (get_or r 1 0); number = signed_by (flag_of (get_or r 2 0)) (get_or r 3 0 + get_or r 4 0 * 4294967296) } ∷ symbols_at w t (first_word w i) (rows_word w i)))
  unfolding symbols_at
  value_added D e =
      let v = row_added w i m r in
      let made = row_made w r i m i64 room h.words whole in
      node_enum D v t i (kept 0 (lit< tt) (λ z. omega arith) ∙ e)
      ∙ rw (
        layout_kept,
        kept 9 (lit< tt) (λ z. omega arith),
        counted,
        add-one,
        last,
        made 0 (lit< tt),
        made 1 (lit< tt),
        made 2 (lit< tt),
        made 3 (lit< tt),
        made 4 (lit< tt),
        symbols_frame w v t ag (first_word w i) (rows_word w i) (omega (arith, last)),
      ) refl

pub member_made : {w : List ℕ} {i m : ℕ} (t : List ℕ) (start len offset k : ℕ) (word : Word) → Holds w (suc i) m → m < 256 → (D : ℕ → Datatype) → class_word w i ≡ 3
    → node D (row_added w i m (member_record start len offset k word)) t i
    ≡ compound (size_word w i) (member (bytes_at t start len) offset (D k) word (members_at D w t (first_word w i) (rows_word w i)))
unfolding member_record
member_made {w} {i} t start len offset k word h room D e =
    member_added t (member_record start len offset k word) h refl room D e
    ∙ ap (λ (v : Word). compound (size_word w i) (member (bytes_at t start len) offset (D k) v (members_at D w t (first_word w i) (rows_word w i)))) (word_back word)

pub value_made : {w : List ℕ} {i m : ℕ} (t : List ℕ) (start len : ℕ) (negative : Bool) (d : ℕ) → Holds w (suc i) m → m < 256 → (D : ℕ → Datatype) → class_word w i ≡ 2
    → node D (row_added w i m (value_record start len negative d)) t i
    ≡ leaf (enumeration (layout_at w i) (record { name = bytes_at t start len; number = signed_by negative d } ∷ symbols_at w t (first_word w i) (rows_word w i)))
unfolding value_record
value_made {w} {i} t start len negative d h room D e =
    let whole : d % 4294967296 + d / 4294967296 * 4294967296 ≡ d = omega (arith, div-add-mod' d 4294967296) in
    value_added t (value_record start len negative d) h refl room D e
    ∙ rw (flag_back negative, whole) refl

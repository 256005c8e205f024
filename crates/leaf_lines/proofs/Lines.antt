-- The lines of a type's leaves, one more at a time. Assumes nothing.
use mathlib.Core.Path.{◌≡◌, refl, sym, ap, ◌∙◌}
use mathlib.Core.Bool.{Bool, true, false, cond}
use mathlib.Core.List.{List, [], ◌∷◌, ◌++◌, append_assoc}
use Prim.Native.Nat.{ℕ, suc, ◌+◌, ◌-◌, ◌*◌, ◌≤◌, ◌<◌}
use native.Mathlib.Numerals.{add-one}
use native.Mathlib.Omega.{arith}
use lib.Dec.{eqb}
use lib.ListN.{length, length-append}
use lib.Seq.{paste}
use Rattle.datatype.specs.Datatype.{Datatype}
use Rattle.datatype.specs.Datatype.Leaf.{atomic, enumeration, real}
use Rattle.datatype.specs.Leaves.{leaf_at}
use Rattle.std.specs.Prelude.{Option, Some, None}
use Rattle.table.specs.Table.{class_word, size_word, first_word, rows_word, layout_at, symbols_at, type_at}
use Rattle.table.specs.Words.{Reads}
use Rattle.paths.specs.Leaf.{leaf_of_type, leaf_found}
use Rattle.text.specs.Text.{bytes}
use Rattle.text.specs.Field.{decimal_of}
use Rattle.text.specs.Written.{written, Wrote}
use Rattle.text.proofs.Written.{written_append, wrote, wrote_none}
use Rattle.leaf_columns.specs.Columns.{column, class_column, columns, Length}
use Rattle.leaf_lines.specs.LeafList.{leaf_line, leaf_lines, header, line_at}

-- ---- the line of a leaf

shape : (p q s : List ℕ) → p ++ (9 ∷ q) ++ (9 ∷ s) ++ (10 ∷ []) ≡ p ++ (9 ∷ []) ++ (q ++ (9 ∷ [])) ++ (s ++ (10 ∷ []))
shape p q s = simp append_assoc

pub leaf_columns : (w t : List ℕ) (b k : ℕ) → leaf_line b (leaf_of_type w t k) ≡ columns b (size_word w k) (class_word w k)
unfolding columns column class_column leaf_of_type layout_at
leaf_columns w t b k = go (eqb (class_word w k) 2) (eqb (class_word w k) 5) (eqb (class_word w k) 1) refl
  where
    go : (x u y : Bool) → eqb (class_word w k) 1 ≡ y
        → leaf_line b (cond x (enumeration (layout_at w k) (symbols_at w t (first_word w k) (rows_word w k))) (cond u (real (layout_at w k)) (atomic (layout_at w k))))
        ≡ decimal_of b ++ (9 ∷ []) ++ (decimal_of (size_word w k) ++ (9 ∷ [])) ++ cond x (bytes "enum\n") (cond u (bytes "real\n") (cond y (bytes "bits\n") (bytes "int\n")))
    go true u y e = shape (decimal_of b) (decimal_of (size_word w k)) (bytes "enum")
    go false true y e = shape (decimal_of b) (decimal_of (size_word w k)) (bytes "real")
    go false false true e = rw e (shape (decimal_of b) (decimal_of (size_word w k)) (bytes "bits"))
    go false false false e = rw e (shape (decimal_of b) (decimal_of (size_word w k)) (bytes "int"))

-- ---- the line at a byte

-- o is the leaf that starts at byte b of type i
abbrev pub Starts : List ℕ → ℕ → ℕ → Option ℕ → Type 0
Starts w i b o = (t : List ℕ) → leaf_found w t o ≡ leaf_at (type_at w t i) b

module _ (w : List ℕ) (i b : ℕ) {o : Option ℕ} (starts : Starts w i b o) where
  module _ (e : o ≡ None) (t : List ℕ) where
    no_line : line_at (type_at w t i) b ≡ []
    unfolding line_at
    no_line = rw (← (starts t), e)

    pub no_length : Length (line_at (type_at w t i) b) 0
    no_length = rw no_line record { is = refl; few = omega arith }

    pub no_write : (d : List ℕ) (at : ℕ) → Wrote d at (line_at (type_at w t i) b) d at
    no_write d at = rw no_line (wrote_none d at)

  module _ {k z c : ℕ} (e : o ≡ Some k) (sized : Reads (size_word w k) z) (classed : Reads (class_word w k) c) (t : List ℕ) where
    pub the_line : line_at (type_at w t i) b ≡ columns b z c
    unfolding line_at
    the_line = rw (← (starts t), e, sized.is, classed.is) (leaf_columns w t b k)

    pub the_length : {r : ℕ} → Length (columns b z c) r → Length (line_at (type_at w t i) b) r
    the_length h = rw the_line h

    pub the_write : {d f : List ℕ} {at n : ℕ} → Wrote d at (columns b z c) f n → Wrote d at (line_at (type_at w t i) b) f n
    the_write h = rw the_line h

pub line_fits : (w : List ℕ) (i b : ℕ) {o : Option ℕ} {k z c : ℕ} (at n : ℕ) → Starts w i b o → o ≡ Some k → Reads (size_word w k) z → Reads (class_word w k) c
    → ((t : List ℕ) → at + length (line_at (type_at w t i) b) ≤ n) → at + length (columns b z c) ≤ n
line_fits w i b at n starts e sized classed room = rw (the_line w i b starts e sized classed []) at (room [])

-- ---- the lines from a byte on

module _ (T : Datatype) where
  lines_next : (b k : ℕ) → leaf_lines T b (suc k) ≡ line_at T b ++ leaf_lines T (suc b) k
  unfolding leaf_lines line_at
  lines_next b k = refl

  pub lines_done : (b z : ℕ) → z ≤ b → leaf_lines T b (z - b) ≡ []
  unfolding leaf_lines
  lines_done b z h = let e : z - b ≡ 0 = omega arith in rw e refl

  pub lines_step : (b z : ℕ) → b < z → leaf_lines T b (z - b) ≡ line_at T b ++ leaf_lines T (b + 1) (z - (b + 1))
  lines_step b z h =
      let e : z - b ≡ suc (z - (b + 1)) = omega arith in
      rw (e, add-one b) (lines_next b (z - suc b))

  pub step_length : (b z : ℕ) → b < z → length (leaf_lines T b (z - b)) ≡ length (line_at T b) + length (leaf_lines T (b + 1) (z - (b + 1)))
  step_length b z h = ap length (lines_step b z h) ∙ length-append (line_at T b) (leaf_lines T (b + 1) (z - (b + 1)))

-- ---- the first pass

-- the lines of the leaves that start below byte b of `bytes` have n bytes
pub record Counted (w : List ℕ) (i bytes n b : ℕ) : Type 0 where
  pub is : (t : List ℕ) → n + length (leaf_lines (type_at w t i) b (bytes - b)) ≡ length (leaf_lines (type_at w t i) 0 bytes)
  pub few : n ≤ 47 * b
  pub inside : b ≤ bytes

module _ (w : List ℕ) (i bytes : ℕ) where
  pub counted_start : Counted w i bytes 0 0
  counted_start = record { is = λ t. let e : bytes - 0 ≡ bytes = omega arith in rw e (omega arith); few = omega arith; inside = omega arith }

  module _ {n b : ℕ} (counted : Counted w i bytes n b) where
    pub counted_next : {r : ℕ} → b < bytes → ((t : List ℕ) → Length (line_at (type_at w t i) b) r) → Counted w i bytes (n + r) (b + 1)
    counted_next h line =
        record {
          is = λ t. omega (arith, counted.is t, step_length (type_at w t i) b bytes h, (line t).is);
          few = omega (arith, counted.few, (line []).few);
          inside = omega arith;
        }

    pub counted_done : bytes ≤ 4096 → bytes ≤ b → ((t : List ℕ) → n ≡ length (leaf_lines (type_at w t i) 0 bytes)) × (n ≤ 47 * 4096)
    counted_done k h =
        (λ t. omega (arith, counted.is t, ap length (lines_done (type_at w t i) b bytes h)), omega (arith, counted.few, counted.inside))

-- ---- the second pass

-- with the lines of the leaves from byte b on, the list is whole
pub record Writing (w : List ℕ) (i bytes : ℕ) (before : List ℕ) (start : ℕ) (list : List ℕ) (at b : ℕ) : Type 0 where
  pub is : (t : List ℕ) → written list at (leaf_lines (type_at w t i) b (bytes - b)) ≡ written before start (leaf_lines (type_at w t i) 0 bytes)
  pub room : (t : List ℕ) → at + length (leaf_lines (type_at w t i) b (bytes - b)) ≤ length list
  pub same : length list ≡ length before
  pub inside : b ≤ bytes

module _ (w : List ℕ) (i bytes : ℕ) (before : List ℕ) (start : ℕ) where
  pub writing_start : ((t : List ℕ) → start + length (leaf_lines (type_at w t i) 0 bytes) ≤ length before) → Writing w i bytes before start before start 0
  writing_start h =
      let e : bytes - 0 ≡ bytes = omega arith in
      record { is = λ t. rw e refl; room = λ t. rw e (h t); same = refl; inside = omega arith }

  module _ {list : List ℕ} {at b : ℕ} (writing : Writing w i bytes before start list at b) where
    pub line_room : b < bytes → (t : List ℕ) → at + length (line_at (type_at w t i) b) ≤ length list
    line_room h t = omega (arith, writing.room t, step_length (type_at w t i) b bytes h)

    pub writing_next : {f : List ℕ} {n : ℕ} → b < bytes → ((t : List ℕ) → Wrote list at (line_at (type_at w t i) b) f n)
        → Writing w i bytes before start f n (b + 1)
    writing_next {f} {n} h line =
        record {
          is = λ t.
              let T : Datatype = type_at w t i in
              rw ((line t).ends, (line t).is) (written_append list at (line_at T b) (line_room h t) (leaf_lines T (b + 1) (bytes - (b + 1))))
              ∙ ap (λ (l : List ℕ). written list at l) (sym (lines_step T b bytes h))
              ∙ writing.is t;
          room = λ t. omega (arith, writing.room t, step_length (type_at w t i) b bytes h, (line t).ends, (line t).same);
          same = (line []).same ∙ writing.same;
          inside = omega arith;
        }

    pub writing_done : bytes ≤ b → (t : List ℕ) → list ≡ written before start (leaf_lines (type_at w t i) 0 bytes)
    writing_done h t =
        let none : written list at [] ≡ list = sym (wrote_none list at).is in
        sym none ∙ ap (λ (l : List ℕ). written list at l) (sym (lines_done (type_at w t i) b bytes h)) ∙ writing.is t

-- ---- the header and the lines

pub list_wrote : (d : List ℕ) {e f : List ℕ} {m : ℕ} (lines : List ℕ) → 14 + length lines ≤ length d → (m ≡ 14) × (e ≡ paste d 0 header 14) → f ≡ written e m lines
    → f ≡ written d 0 (header ++ lines)
list_wrote d {e} {f} {m} lines h p q =
    let room : 0 + length header ≤ length d = omega arith in
    let first : Wrote d 0 header e m = wrote d 0 room p in
    q ∙ rw (first.ends, first.is) (written_append d 0 header room lines)

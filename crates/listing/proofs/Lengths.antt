-- How long numbers and lists can be. Assumes nothing.
use mathlib.Core.Path.{◌≡◌, refl, ◌∙◌}
use mathlib.Core.List.{List, [], ◌∷◌, ◌++◌}
use mathlib.Core.Option.{Option, none, some}
use Prim.Native.Nat.{ℕ, zero, suc, ◌+◌, ◌*◌, ◌≤◌, ◌<◌}
use native.Mathlib.Omega.{arith}
use lib.ListN.{length, length-append}
use Rattle.layout.specs.declared.Class.{Class}
use Rattle.layout.specs.declared.Class.TheVariants.{Int, Bits}
use Rattle.datatype.specs.Datatype.{Leaf, leaf_size, Datatype, size}
use Rattle.datatype.specs.Datatype.Leaf.{atomic, enumeration, real}
use Rattle.datatype.specs.Datatype.Datatype.{leaf}
use Rattle.datatype.specs.Symbols.{on_some}
use Rattle.datatype.specs.Leaves.{leaf_at}
use Rattle.datatype.specs.WellFormed.{WellFormed}
use Rattle.datatype.proofs.Ways.{leaf_way, way_formed, valid}
use Rattle.datatype.proofs.Matches.{size_most}
use Rattle.text.specs.Text.{bytes, tab, newline}
use Rattle.text.specs.Field.{decimal_of}
use Rattle.text.proofs.Decimals.{digits_most}
use Rattle.sheet.specs.Sheet.{sheet_of}
use Rattle.sheet.specs.Sheet.Sheet.{of_type}
use Rattle.sheet.proofs.ReadWellFormed.{read_well_formed}
use Rattle.leaf_lines.specs.LeafList.{atomic_name, class_name, leaf_line, leaf_lines, leaf_list}

-- ---- numbers

-- a 32-bit number
pub word_digits : (n : ℕ) → n < 4294967296 → length (decimal_of n) ≤ 10
word_digits n h = digits_most 9 n (omega arith)

-- ---- lists

name_most : (x : Leaf) → length (class_name x) ≤ 4
name_most (atomic l) = go l.class
  where
    go : (c : Class) → length (atomic_name c) ≤ 4
    go Int = omega arith
    go Bits = omega arith
name_most (enumeration l ss) = omega arith
name_most (real l) = omega arith

line_length : (b : ℕ) (x : Leaf) → length (leaf_line b x) ≡ length (decimal_of b) + (1 + length (decimal_of (leaf_size x))) + (1 + length (class_name x)) + 1
line_length b x =
    length-append (decimal_of b ++ (tab ∷ decimal_of (leaf_size x)) ++ (tab ∷ class_name x)) (newline ∷ [])
    ∙ omega (arith, length-append (decimal_of b ++ (tab ∷ decimal_of (leaf_size x))) (tab ∷ class_name x), length-append (decimal_of b) (tab ∷ decimal_of (leaf_size x)))

module _ (T : Datatype) (formed : WellFormed T) where
  line_most : (b : ℕ) → b ≤ 4095 → length (on_some (leaf_line b) [] (leaf_at T b)) ≤ 12
  line_most b h = go (leaf_at T b) refl
    where
      go : (o : Option Leaf) → leaf_at T b ≡ o → length (on_some (leaf_line b) [] o) ≤ 12
      go none e = omega arith
      go (some x) e =
          let f : WellFormed (leaf x) = way_formed (leaf_way T formed e) formed in
          omega (arith, line_length b x, digits_most 3 b (omega arith), digits_most 0 (leaf_size x) (omega (arith, (valid x f).sized)), name_most x)

  lines_most : (b k : ℕ) → b + k ≤ 4096 → length (leaf_lines T b k) ≤ 12 * k
  unfolding leaf_lines
  lines_most b zero h = omega arith
  lines_most b (suc k) h =
      omega (arith, length-append (on_some (leaf_line b) [] (leaf_at T b)) (leaf_lines T (suc b) k), line_most b (omega arith), lines_most (suc b) k (omega arith))

-- the longest list: a header of 14 bytes, and at most 4,096 lines of at most 12 bytes
pub list_most : (text : List ℕ) (T : Datatype) → sheet_of text ≡ of_type T → length (leaf_list T) ≤ 49166
unfolding leaf_list
list_most text T e =
    let f : WellFormed T = read_well_formed text T e in
    omega (arith, length-append (bytes "at\tsize\tclass\n") (leaf_lines T 0 (size T)), size_most T f, lines_most T f 0 (size T) (omega (arith, size_most T f)))

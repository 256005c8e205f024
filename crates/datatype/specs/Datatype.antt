-- Document 01, "Layout sheets": datatypes as trees. A line that names a type by its number takes that type's tree over.
use Rattle.std.specs.Prelude.{Bool, false, cond, List, [], ◌∷◌, ℕ, ◌*◌, eqb, ℤ}
use Rattle.bits.specs.declared.Order.{Order}
use Rattle.layout.specs.declared.Class.TheVariants.{Int}
use Rattle.layout.specs.declared.Pad.TheVariants.{Zero}
use Rattle.layout.specs.declared.Layout.{Layout}
use Rattle.datatype.specs.declared.Word.{Word}
-- names are compared byte by byte
unfoldable pub use Rattle.text.specs.Place.{same_bytes as same}

-- a value line of an enum: a symbol's name and its number
pub record Symbol : Type 0 where
  pub name : List ℕ
  pub number : ℤ

-- "A leaf is an int, bits or enum place", or by document 02, 2026-03, a real. An atomic leaf's layout says whether it is int or bits; an enum has the layout of
-- its base, a real that of its 64 bits.
pub data Leaf : Type 0 where
  atomic : Layout → Leaf
  enumeration : Layout → List Symbol → Leaf
  real : Layout → Leaf

-- "a leaf `real⇥8⇥LE` or `BE`, an IEEE 754 binary64": all bits of its 8 bytes. As its layout is unsigned, the number in it is "its 64 bits", which is "a real's
-- matched number".
abbrev pub binary64 : Order → Layout
binary64 order =
    record {
      class = Int;
      size = record { 0 = 8 };
      order = order;
      offset = record { 0 = 0 };
      precision = 64;
      lsb = Zero;
      msb = Zero;
      signed = false;
    }

-- Each compound and each array says its size in bytes first. An array has its dimensions d1 up to d4 and its base. Symbols and members stand newest first.
mutual
  pub data Datatype : Type 0 where
    leaf : Leaf → Datatype
    compound : ℕ → Members → Datatype
    array : ℕ → List ℕ → Datatype → Datatype

  -- a member's name, its byte offset, its type and its word, and the members before it. Document 02, 2026-12: "A destination `member` line may end in a further field
  -- `clamp` or `stop`"; a member without one is silent
  pub data Members : Type 0 where
    empty : Members
    member : List ℕ → ℕ → Datatype → Word → Members → Members

abbrev pub layout_of : Leaf → Layout
layout_of (atomic l) = l
layout_of (enumeration l ss) = l
layout_of (real l) = l

abbrev pub leaf_size : Leaf → ℕ
leaf_size x = (layout_of x).size.0

abbrev pub size : Datatype → ℕ
size (leaf x) = leaf_size x
size (compound z ms) = z
size (array z ds T) = z

-- how many elements an array has: the product of its dimensions
abbrev pub elements : List ℕ → ℕ
elements [] = 1
elements (d ∷ ds) = d * elements ds

-- document 02, 2026-02: "the rank and every dimension equal, in order"
abbrev pub same_dimensions : List ℕ → List ℕ → Bool
same_dimensions es ds = same es ds

-- the dimensions of an array in four numbers, 0 for none: those up to the first 0
abbrev pub up_to_zero : List ℕ → List ℕ
up_to_zero [] = []
up_to_zero (d ∷ ds) = cond (eqb d 0) [] (d ∷ up_to_zero ds)

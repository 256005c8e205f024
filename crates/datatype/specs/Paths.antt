-- Document 01, "Paths and conversion": between which datatypes a path runs.
use Rattle.std.specs.Prelude.{Bool, true, false, cond, ◌&&◌, List, ℕ}
use Rattle.layout.specs.declared.Class.{Class}
use Rattle.layout.specs.declared.Class.TheVariants.{Int, Bits}
use Rattle.datatype.specs.Datatype.{Leaf, Datatype, Members, same, same_dimensions}
use Rattle.datatype.specs.Datatype.Leaf.{atomic, enumeration, real}
use Rattle.datatype.specs.Datatype.Datatype.{leaf, compound, array}
use Rattle.datatype.specs.Datatype.Members.{empty, member}

abbrev pub is_same_class : Class → Class → Bool
is_same_class Int Int = true
is_same_class Int Bits = false
is_same_class Bits Int = false
is_same_class Bits Bits = true

-- "A path runs from int to int, bits to bits, enum to enum"; document 02, 2026-03: a real, "with paths to and from int and to another real"
abbrev pub leaf_path : Leaf → Leaf → Bool
leaf_path (atomic l) (atomic k) = is_same_class l.class k.class
leaf_path (atomic l) (enumeration k ts) = false
leaf_path (atomic l) (real k) = is_same_class l.class Int
leaf_path (enumeration l ss) (atomic k) = false
leaf_path (enumeration l ss) (enumeration k ts) = true
leaf_path (enumeration l ss) (real k) = false
leaf_path (real l) (atomic k) = is_same_class Int k.class
leaf_path (real l) (enumeration k ts) = false
leaf_path (real l) (real k) = true

-- a member that is looked for by its name: its offset and its type, if it is there
pub data Lookup : Type 0 where
  missing : Lookup
  found : ℕ → Datatype → Lookup

abbrev pub on_found : {A : Type 0} → (ℕ → Datatype → A) → A → Lookup → A
on_found f other missing = other
on_found f other (found offset T) = f offset T

unfoldable pub member_named : List ℕ → Members → Lookup
member_named x empty = missing
member_named x (member y offset T word ms) = cond (same x y) (found offset T) (member_named x ms)

-- ---- what a source is asked for, class by class

abbrev pub is_leaf_like : Datatype → Leaf → Bool
is_leaf_like (leaf x) y = leaf_path x y
is_leaf_like (compound z ms) y = false
is_leaf_like (array z ds T) y = false

abbrev pub is_compound : Datatype → Bool
is_compound (leaf x) = false
is_compound (compound z ms) = true
is_compound (array z ds T) = false

abbrev pub members_of : Datatype → Members
members_of (leaf x) = empty
members_of (compound z ms) = ms
members_of (array z ds T) = empty

-- "from array to array if", by document 02, 2026-02, they have the same dimensions
abbrev pub is_array_like : Datatype → List ℕ → Bool
is_array_like (leaf x) ds = false
is_array_like (compound z ms) ds = false
is_array_like (array z es T) ds = same_dimensions es ds

abbrev pub base_of : Datatype → Datatype
base_of (leaf x) = leaf x
base_of (compound z ms) = compound z ms
base_of (array z ds T) = T

-- ---- the path from the source S to a destination

unfoldable mutual
  pub has_path : Datatype → Datatype → Bool
  has_path S (leaf y) = is_leaf_like S y
  has_path S (compound z ms) = is_compound S && paths_to (members_of S) ms
  has_path S (array z ds T) = is_array_like S ds && has_path (base_of S) T

  -- "from compound to compound if each destination member whose name is in the source has a path from it"
  pub paths_to : Members → Members → Bool
  paths_to ss empty = true
  paths_to ss (member x offset T word ms) = on_found (λ o S. has_path S T) true (member_named x ss) && paths_to ss ms

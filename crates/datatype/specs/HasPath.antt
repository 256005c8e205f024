-- Document 01, "Paths and conversion": which paths exist, in its own words. `hasPath` computes it.
use Rattle.std.specs.Prelude.{◌≡◌, List, ℕ}
use Rattle.layout.specs.declared.Class.TheVariants.{Int}
use Rattle.layout.specs.declared.Layout.{Layout}
use Rattle.datatype.specs.Datatype.{Symbol, Datatype, Members}
use Rattle.datatype.specs.Datatype.Leaf.{atomic, enumeration, real}
use Rattle.datatype.specs.Datatype.Datatype.{leaf, compound, array}
use Rattle.datatype.specs.Paths.{member_named}
use Rattle.datatype.specs.Paths.Lookup.{found}

-- "A path runs .. No other path exists."
pub data HasPath : Datatype → Datatype → Type 0 where
  -- "from int to int, bits to bits"
  same_class : {l k : Layout} → l.class ≡ k.class → HasPath (leaf (atomic l)) (leaf (atomic k))
  -- "enum to enum"
  enums : {l k : Layout} {ss ts : List Symbol} → HasPath (leaf (enumeration l ss)) (leaf (enumeration k ts))
  -- document 02, 2026-03, of a real: "with paths to and from int and to another real"
  int_to_real_lem : {l k : Layout} → l.class ≡ Int → HasPath (leaf (atomic l)) (leaf (real k))
  real_to_int_lem : {l k : Layout} → k.class ≡ Int → HasPath (leaf (real l)) (leaf (atomic k))
  reals : {l k : Layout} → HasPath (leaf (real l)) (leaf (real k))
  -- "from array to array if .. the bases have a path"; document 02, 2026-02: "the rank and every dimension equal, in order"
  arrays : {z w : ℕ} {es ds : List ℕ} {S D : Datatype} → es ≡ ds → HasPath S D → HasPath (array z es S) (array w ds D)
  -- "from compound to compound if each destination member whose name is in the source has a path from it"
  compounds : {z w : ℕ} {ss ms : Members}
      → ((name : List ℕ) (p o : ℕ) (S D : Datatype) → member_named name ms ≡ found o D → member_named name ss ≡ found p S → HasPath S D)
      → HasPath (compound z ss) (compound w ms)

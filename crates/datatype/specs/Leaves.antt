-- The leaves of a datatype, by the byte at which each starts.
use Rattle.std.specs.Prelude.{Bool, cond, ◌&&◌, ℕ, ◌+◌, ◌-◌, ◌%◌, ltb, leb, eqb}
use Rattle.std.proofs.Math.Option.{Option, none, some}
use Rattle.datatype.specs.Datatype.{Leaf, Datatype, Members, size}
use Rattle.datatype.specs.Datatype.Datatype.{leaf, compound, array}
use Rattle.datatype.specs.Datatype.Members.{empty, member}

-- byte b lies in the z bytes from offset on
unfoldable pub within : ℕ → ℕ → ℕ → Bool
within offset z b = leb offset b && ltb b (offset + z)

-- the leaf that starts at byte b. "Arrays go element by element in row-major order": element k of an array starts at byte k × the base's size
unfoldable mutual
  pub leaf_at : Datatype → ℕ → Option Leaf
  leaf_at (leaf x) b = cond (eqb b 0) (some x) none
  leaf_at (compound z ms) b = leaf_in ms b
  leaf_at (array z ds T) b = cond (ltb b z) (leaf_at T (b % size T)) none

  pub leaf_in : Members → ℕ → Option Leaf
  leaf_in empty b = none
  leaf_in (member x offset T word ms) b = cond (within offset (size T) b) (leaf_at T (b - offset)) (leaf_in ms b)

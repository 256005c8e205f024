-- Document 01, "Paths and conversion": which source leaf a destination leaf is matched with.
use Rattle.std.specs.Prelude.{cond, ◌&&◌, ℕ, ◌+◌, ◌-◌, ◌*◌, ◌/◌, ◌%◌, ltb, eqb}
use Rattle.datatype.specs.Datatype.{Leaf, Datatype, Members, size}
use Rattle.datatype.specs.Datatype.Datatype.{leaf, compound, array}
use Rattle.datatype.specs.Datatype.Members.{empty, member}
use Rattle.datatype.specs.Leaves.{within}
use Rattle.datatype.specs.Paths.{on_found, member_named, is_compound, members_of, is_array_like, base_of}

-- the match of a destination leaf: the byte of the source record at which its source leaf starts, the source leaf and the destination leaf
pub data Match : Type 0 where
  unmatched : Match
  matched : ℕ → Leaf → Leaf → Match

abbrev pub on_match : {A : Type 0} → (ℕ → Leaf → Leaf → A) → A → Match → A
on_match f other unmatched = other
on_match f other (matched a x y) = f a x y

-- the same match where the source starts at byte offset of the record
abbrev pub further : ℕ → Match → Match
further offset unmatched = unmatched
further offset (matched a x y) = matched (offset + a) x y

abbrev pub match_leaf : Datatype → Leaf → Match
match_leaf (leaf x) y = matched 0 x y
match_leaf (compound z ms) y = unmatched
match_leaf (array z ds T) y = unmatched

-- "A destination leaf is matched if every member on its way has its name in the source; its matched number is the number in the source leaf on the same way:
-- the same names, and in arrays the same row-major place." The match of the destination leaf that starts at byte b.
unfoldable mutual
  pub match_at : Datatype → Datatype → ℕ → Match
  match_at S (leaf y) b = cond (eqb b 0) (match_leaf S y) unmatched
  match_at S (compound z ms) b = cond (is_compound S) (match_in (members_of S) ms b) unmatched
  match_at S (array z ds T) b =
      cond (is_array_like S ds && ltb b z)
      (further (b / size T * size (base_of S)) (match_at (base_of S) T (b % size T)))
      unmatched

  pub match_in : Members → Members → ℕ → Match
  match_in ss empty b = unmatched
  match_in ss (member x offset T word ms) b =
      cond (within offset (size T) b)
      (on_found (λ o S. further o (match_at S T (b - offset))) unmatched (member_named x ss))
      (match_in ss ms b)

-- The leaves and the matches that type numbers stand for, of half a table w beside its text t.
use Rattle.std.specs.Prelude.{Option, Some, None, ◌≡◌, List, ℕ, ◌+◌, ◌≤◌, ◌<◌}
use Rattle.std.proofs.Math.Option.{Option as MathOption, none, some}
use Rattle.datatype.specs.Datatype.{Leaf, Datatype, size}
use Rattle.datatype.specs.Matches.{Match, match_at}
use Rattle.datatype.specs.Matches.Match.{unmatched, matched}
unfoldable pub use Rattle.table.specs.Table.{leaf_of_type}
use Rattle.table.specs.Table.{type_at}
use Rattle.paths.specs.declared.Pair.{Pair}
use Rattle.paths.specs.declared.Pair.TheVariants.{Matched, Unmatched}

abbrev pub leaf_found : List ℕ → List ℕ → Option ℕ → MathOption Leaf
leaf_found w t (Some k) = some (leaf_of_type w t k)
leaf_found w t None = none

abbrev pub match_of : List ℕ → List ℕ → List ℕ → List ℕ → Pair → Match
match_of ws ts wd td (Matched a s d) = matched a (leaf_of_type ws ts s) (leaf_of_type wd td d)
match_of ws ts wd td (Unmatched n) = unmatched

-- a byte of a record, and two types of a table
abbrev pub Small : Pair → Type 0
Small (Matched a s d) = (a < 4096) × (s < 64) × (d < 64)
Small (Unmatched n) = Unit {0}

-- at n bytes of D, from byte b on, no leaf is matched
pub record NoneMatched (S D : Datatype) (b n : ℕ) : Type 0 where
  pub some : 1 ≤ n
  pub each : (j : ℕ) → j < n → (b + j < size D) × (match_at S D (b + j) ≡ unmatched)

abbrev pub Behind : Datatype → Datatype → ℕ → Pair → Type 0
Behind S D b (Matched a s d) = Unit {0}
Behind S D b (Unmatched n) = NoneMatched S D b n

-- r is the match at byte b from S to D
pub record MatchIn (ws ts wd td : List ℕ) (S D : Datatype) (b : ℕ) (r : Pair) : Type 0 where
  pub is : match_of ws ts wd td r ≡ match_at S D b
  pub small : Small r
  pub behind : Behind S D b r

-- r is the match at byte b from type i to type k
pub record MatchFound (ws ts : List ℕ) (i : ℕ) (wd td : List ℕ) (k b : ℕ) (r : Pair) : Type 0 where
  pub is : match_of ws ts wd td r ≡ match_at (type_at ws ts i) (type_at wd td k) b
  pub small : Small r
  pub behind : Behind (type_at ws ts i) (type_at wd td k) b r

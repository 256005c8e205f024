-- Which bits of a real are significant: of a matched source leaf that is one, each of the 64. Assumes nothing.
use mathlib.Core.Path.{◌≡◌, refl, subst}
use Prim.Native.Nat.{ℕ, ◌+◌, ◌≤◌, ◌<◌}
use native.Mathlib.Omega.{arith}
use Rattle.layout.specs.declared.Layout.{Layout}
use Rattle.datatype.specs.Datatype.{Leaf, layout_of, binary64, Datatype}
use Rattle.datatype.specs.Datatype.Leaf.{real}
use Rattle.datatype.specs.WellFormed.{WellFormedLeaf, WellFormed}
use Rattle.datatype.proofs.Matches.{match_formed}
use Rattle.records.specs.Matched.{MatchedLeaf, SignificantBit}

-- bit k of the leaf m, as the statements on significant bits have it
pub record IsBit {S D : Datatype} {n : ℕ} (m : MatchedLeaf S D n) (k : ℕ) : Type 0 where
  pub bit : SignificantBit S D n
  pub of_leaf_lem : bit.leaf ≡ m
  pub at : bit.at ≡ k

inside : (x : Leaf) (l : Layout) → x ≡ real l → WellFormedLeaf x → (k : ℕ) → k < 64
    → ((layout_of x).offset.0 ≤ k) × (k < (layout_of x).offset.0 + (layout_of x).precision)
inside x l e f k h =
    let form : l ≡ binary64 l.order = subst WellFormedLeaf e f in
    rw (e, form) (omega arith, h)

pub all_significant : (S D : Datatype) → WellFormed S → WellFormed D → {n : ℕ} (m : MatchedLeaf S D n) (l : Layout) → m.source ≡ real l
    → (k : ℕ) → k < 64 → IsBit m k
all_significant S D f g m l e k h =
    let formed = (match_formed S D f g m.to m.from m.source m.destination m.match).0 in
    let b = inside m.source l e formed k h in
    record { bit = record { leaf = m; at = k; from_offset = b.0; within_precision = b.1 }; of_leaf_lem = refl; at = refl }

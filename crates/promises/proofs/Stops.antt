-- The leaf that STOP names is matched, and its number is the one that was given. Assumes nothing.
use mathlib.Core.Path.{◌≡◌, refl, sym, ◌∙◌}
use mathlib.Core.List.{List}
use mathlib.Core.Option.{Option}
use Prim.Native.Nat.{ℕ, ◌≤◌}
use native.Mathlib.Omega.{arith}
use lib.IntN.{ℤ}
use Rattle.answer.specs.declared.Given.{Given}
use Rattle.datatype.specs.Datatype.{Leaf, Datatype, size}
use Rattle.datatype.specs.Matches.{Match, match_at}
use Rattle.datatype.specs.Matches.Match.{unmatched, matched}
use Rattle.datatype.specs.Handling.{handling_at}
use Rattle.records.specs.Leaf.{given_of}
use Rattle.records.specs.Record.{kind_at, given_at}
use Rattle.records.specs.Records.{readings, record_at}
use Rattle.records.specs.Matched.{MatchedLeaf, matched_number}
use Rattle.records.proofs.OneLeaf.{given_matched}
use Rattle.records.proofs.OneRecord.{reading_at}
use Rattle.runs.specs.FirstException.{FirstException}
use Rattle.promises.specs.Runs.{becomes}

-- a leaf that raises one is matched
raising_matched : (S D : Datatype) (f : ℕ → Option ℤ) (b : ℕ) → 1 ≤ kind_at S D f b
    → (a : ℕ) × (x : Leaf) × (y : Leaf) × (match_at S D b ≡ matched a x y)
unfolding kind_at
raising_matched S D f b h = go (match_at S D b) refl
  where
    go : (m : Match) → match_at S D b ≡ m → (a : ℕ) × (x : Leaf) × (y : Leaf) × (match_at S D b ≡ matched a x y)
    go unmatched e = let z : kind_at S D f b ≡ 0 = rw e in absurd (omega (arith, z))
    go (matched a x y) e = (a, x, y, e)

-- its kind is that of what its number becomes
pub kind_of_lem : {S D : Datatype} {n : ℕ} (m : MatchedLeaf S D n) (source : List ℕ) → kind_at S D (readings S D source m.index) m.to ≡ (becomes m source).kind
unfolding kind_at
kind_of_lem {S} {D} m source = rw (m.match, reading_at S D (record_at (size S) m.index source) m.to m.from m.source m.destination m.match)

-- and so is what was given
given_of_lem : {S D : Datatype} {n : ℕ} (m : MatchedLeaf S D n) (source : List ℕ) → given_at S D (readings S D source m.index) m.to ≡ (becomes m source).given
unfolding given_at
given_of_lem {S} {D} m source = rw (m.match, reading_at S D (record_at (size S) m.index source) m.to m.from m.source m.destination m.match)

module _ {h : ℕ} (S D : Datatype) (n : ℕ) (source : List ℕ) {i b k : ℕ} {g : Given} (e : FirstException h S D n (readings S D source) i b k g) where
  -- the leaf of the first exception
  pub first_leaf : MatchedLeaf S D n
  first_leaf =
      let m = raising_matched S D (readings S D source i) b (omega (arith, e.kind, e.raises)) in
      record { index = i; from = m.0; to = b; source = m.1; destination = m.2; in_records_lem = e.in_records_lem; match = m.3 }

  pub first_record : first_leaf.index ≡ i
  unfolding first_leaf
  first_record = refl

  pub first_byte : first_leaf.to ≡ b
  unfolding first_leaf
  first_byte = refl

  pub first_obeys : handling_at h D first_leaf.to ≡ 1
  unfolding first_leaf
  first_obeys = e.obeys

  pub first_raises : 1 ≤ (becomes first_leaf source).kind
  unfolding first_leaf
  first_raises = omega (arith, kind_of_lem first_leaf source, e.kind, e.raises)

  -- what was given is its matched number
  pub first_given : g ≡ given_of first_leaf.source (matched_number first_leaf source)
  unfolding first_leaf
  first_given =
      sym e.given ∙ given_of_lem first_leaf source ∙ given_matched first_leaf.source first_leaf.destination (matched_number first_leaf source)

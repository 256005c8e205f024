-- What the list of differences says: a difference for each matched leaf whose numbers differ and for nothing else, each once, by record and then by byte.
use Rattle.std.specs.Prelude.{◌≡◌, ◌⊎◌, ◌↔◌, true, false, ℕ, ◌<◌, ℤ}
use mathlib.Core.List.{List, [], ◌∷◌, Memᴰ}
use Rattle.datatype.specs.Datatype.{Datatype, size}
use Rattle.records.specs.Leaf.{number_in}
use Rattle.records.specs.Records.{record_at}
use Rattle.records.specs.Matched.{MatchedLeaf, matched_number}
use Rattle.differences.specs.Same.{same_in}
use Rattle.differences.specs.IsSame.{IsSame}
use Rattle.differences.specs.Differences.{Difference, differences}

-- the number of the second log in a matched leaf
abbrev pub second_number : {S D : Datatype} {n : ℕ} → MatchedLeaf S D n → List ℕ → ℤ
second_number {D = D} m second = number_in m.destination m.to (record_at (size D) m.index second)

-- the numbers of a matched leaf are the same in both logs
abbrev pub Same : {S D : Datatype} {n : ℕ} → MatchedLeaf S D n → List ℕ → List ℕ → Type 0
Same m first second = same_in m.source m.destination (matched_number m first) (second_number m second) ≡ true

-- d is the difference of a matched leaf whose numbers are not
pub record IsDifference (S D : Datatype) (n : ℕ) (first second : List ℕ) (d : Difference) : Type 0 where
  pub leaf : MatchedLeaf S D n
  pub differ : same_in leaf.source leaf.destination (matched_number leaf first) (second_number leaf second) ≡ false
  pub index : d.index ≡ leaf.index
  pub at : d.at ≡ leaf.to
  pub first_number : d.first ≡ matched_number leaf first
  pub second_number_lem : d.second ≡ second_number leaf second

-- c stands before d: "Order: record, then byte"
abbrev pub Before : Difference → Difference → Type 0
Before c d = (c.index < d.index) ⊎ ((c.index ≡ d.index) × (c.at < d.at))

-- each stands before all that follow it, so none stands there twice
abbrev pub InOrder : List Difference → Type 0
InOrder [] = Unit {0}
InOrder (c ∷ ds) = ((d : Difference) → Memᴰ d ds → Before c d) × InOrder ds

pub record Says (S D : Datatype) (n : ℕ) (first second : List ℕ) : Type 0 where
  -- "The list is complete", and has nothing else
  pub exactly : (d : Difference) → Memᴰ d (differences S D n first second) ↔ IsDifference S D n first second d
  -- "and has nothing twice", by record and then by byte
  pub in_order : InOrder (differences S D n first second)
  -- it is empty exactly if every matched pair is the same
  pub nothing : differences S D n first second ≡ [] ↔ ((m : MatchedLeaf S D n) → Same m first second)

-- ---- the same without the test that makes the list

-- the numbers of a matched leaf are the same in both logs, as `IsSame` says it
abbrev pub AreSame : {S D : Datatype} {n : ℕ} → MatchedLeaf S D n → List ℕ → List ℕ → Type 0
AreSame m first second = IsSame m.source m.destination (matched_number m first) (second_number m second)

-- d is of a matched leaf whose numbers are not: "record, at, first, second, at in the second layout, then both numbers"
pub record OfDifferentNumbers (S D : Datatype) (n : ℕ) (first second : List ℕ) (d : Difference) : Type 0 where
  pub leaf : MatchedLeaf S D n
  pub differ : ¬ (AreSame leaf first second)
  pub index : d.index ≡ leaf.index
  pub at : d.at ≡ leaf.to
  pub first_number : d.first ≡ matched_number leaf first
  pub second_number_lem : d.second ≡ second_number leaf second

pub record Means (S D : Datatype) (n : ℕ) (first second : List ℕ) : Type 0 where
  -- "list each matched leaf where they differ", and nothing else
  pub exactly : (d : Difference) → Memᴰ d (differences S D n first second) ↔ OfDifferentNumbers S D n first second d
  -- nothing is listed exactly if every matched pair is the same
  pub nothing : differences S D n first second ≡ [] ↔ ((m : MatchedLeaf S D n) → AreSame m first second)

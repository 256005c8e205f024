-- Document 01, "Words of demand 3", which is what the result of a call turns on: the matched numbers of n source records, and the bits that they stand in.
use Rattle.std.specs.Prelude.{◌≡◌, List, ℕ, ◌+◌, ◌≤◌, ◌<◌, ℤ}
use Rattle.bits.specs.Container.{container, bit}
use Rattle.number.specs.Place.{place}
use Rattle.datatype.specs.Datatype.{Leaf, layout_of, Datatype, size}
use Rattle.datatype.specs.Matches.{match_at}
use Rattle.datatype.specs.Matches.Match.{matched}
use Rattle.records.specs.Leaf.{number_in}
use Rattle.records.specs.Records.{record_at}

-- a matched leaf of one of n records: the source leaf, which starts at byte `from`, and the destination leaf, which starts at byte `to`
pub record MatchedLeaf (S D : Datatype) (n : ℕ) : Type 0 where
  pub index : ℕ
  pub from : ℕ
  pub to : ℕ
  pub source : Leaf
  pub destination : Leaf
  pub in_records_lem : index < n
  pub match : match_at S D to ≡ matched from source destination

-- "its matched number is the number in the source leaf": of the source records in a buffer
abbrev pub matched_number : {S D : Datatype} {n : ℕ} → MatchedLeaf S D n → List ℕ → ℤ
matched_number {S} m buffer = number_in m.source m.from (record_at (size S) m.index buffer)

-- "Two runs agree on every matched number if in each of the n records each matched leaf has the same one in both."
abbrev pub Agree : Datatype → Datatype → ℕ → List ℕ → List ℕ → Type 0
Agree S D n p q = (m : MatchedLeaf S D n) → matched_number m p ≡ matched_number m q

-- some matched number is different
abbrev pub Differ : Datatype → Datatype → ℕ → List ℕ → List ℕ → Type 0
Differ S D n p q = (m : MatchedLeaf S D n) × ¬ (matched_number m p ≡ matched_number m q)

-- ---- Which bits of the source records can a call turn on? "The number occupies bits offset to offset + precision − 1":
-- those bits of each matched source leaf, and no other.
pub record SignificantBit (S D : Datatype) (n : ℕ) : Type 0 where
  pub leaf : MatchedLeaf S D n
  pub at : ℕ
  pub from_offset : (layout_of leaf.source).offset.0 ≤ at
  pub within_precision : at < (layout_of leaf.source).offset.0 + (layout_of leaf.source).precision

-- what that bit is in a buffer of source records
abbrev pub bit_in : {S D : Datatype} {n : ℕ} → SignificantBit S D n → List ℕ → ℕ
bit_in {S} s buffer =
    let x = s.leaf.source in
    bit s.at (container (layout_of x).order (place (layout_of x) s.leaf.from (record_at (size S) s.leaf.index buffer)))

-- two buffers of n source records have the same significant bits
abbrev pub SameSignificantBits : Datatype → Datatype → ℕ → List ℕ → List ℕ → Type 0
SameSignificantBits S D n p q = (s : SignificantBit S D n) → bit_in s p ≡ bit_in s q

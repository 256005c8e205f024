-- Demand 2: what a call leaves, over all its records. What stands in each matched leaf; what every other byte of the buffer is; which number a call that is
-- stopped names; that in place gives what a copying call gives. Two more parts of demand 2 have files of their own: WayBack.antt, converting back, and
-- WorkingTable.antt, the table that the caller lends.
use Rattle.std.specs.Prelude.{◌≡◌, ◌⊎◌, ◌↔◌, List, ℕ, ◌+◌, ◌≤◌, ◌<◌, length, take, drop, ℤ}
use Rattle.std.proofs.Math.Option.{none}
use Rattle.answer.specs.declared.Values.{Values}
use Rattle.answer.specs.Answer.{given_sign, given_magnitude}
use Rattle.answer.specs.declared.Given.{Given}
use Rattle.layout.specs.declared.Layout.{Layout}
use Rattle.number.specs.Place.{place, stored}
use Rattle.datatype.specs.Datatype.{Symbol, Leaf, layout_of, leaf_size, Datatype, size}
use Rattle.datatype.specs.Datatype.Leaf.{enumeration}
use Rattle.datatype.specs.Symbols.{symbol_of}
use Rattle.datatype.specs.Matches.{match_at}
use Rattle.datatype.specs.Matches.Match.{matched}
use Rattle.datatype.specs.Handling.{clamp, handling_at}
use Rattle.records.specs.Leaf.{number_in, given_of}
use Rattle.records.specs.Arrival.{stands_for, Arrives}
use Rattle.records.specs.Records.{record_at, readings, exceptions}
use Rattle.records.specs.Matched.{MatchedLeaf, matched_number}
use Rattle.runs.specs.Run.{Run, after}
use Rattle.runs.specs.Run.Form.{copying}
use Rattle.runs.specs.Parts.{cleared_tail, zeros, later_bytes}
use Rattle.runs.specs.FirstException.{FirstException}
use Rattle.promises.specs.Runs.{answer_number, answer_fields, SameAnswer, IsDone, RefusedBeforeStop, Types, before, SameConverted, becomes}

-- ---- each matched leaf

-- record i of `buffer`, where m is a matched leaf of record i
abbrev pub record_of : {S D : Datatype} {n : ℕ} → MatchedLeaf S D n → List ℕ → List ℕ
record_of {D = D} m buffer = record_at (size D) m.index buffer

-- the number in the destination leaf of m
abbrev pub arrived_number : {S D : Datatype} {n : ℕ} → MatchedLeaf S D n → List ℕ → ℤ
arrived_number m buffer = number_in m.destination m.to (record_of m buffer)

-- a matched leaf after a run that is done
pub record Arrived {S D : Datatype} (r : Run) (m : MatchedLeaf S D r.count) : Type 0 where
  -- its bytes are as if it alone had been written over the background
  pub bytes : place (layout_of m.destination) m.to (record_of m (after r))
      ≡ place (layout_of m.destination) m.to (stored (layout_of m.destination) m.to (becomes m r.source).raw (record_of m r.background))
  -- it holds what its matched number became
  pub holds : arrived_number m (after r) ≡ stands_for m.destination (becomes m r.source).raw
  -- where that raised no exception: the number itself, or for an enum the number of its symbol
  pub number : (becomes m r.source).kind ≡ 0 → Arrives m.source m.destination (matched_number m r.source) (arrived_number m (after r))

-- document 02, 2026-07: "Kind 3 remains for numbers without a symbol": of a matched enum, exactly for those
abbrev pub KindThree : {S D : Datatype} (r : Run) → MatchedLeaf S D r.count → Type 0
KindThree r m =
    (l : Layout) (ss : List Symbol) → m.source ≡ enumeration l ss → (becomes m r.source).kind ≡ 3 ↔ symbol_of (matched_number m r.source) ss ≡ none

-- ---- the rest of the buffer, and the count of exceptions

-- no matched leaf covers byte j of a destination record
abbrev pub Uncovered : Datatype → Datatype → ℕ → Type 0
Uncovered S D j = (b a : ℕ) (x y : Leaf) → match_at S D b ≡ matched a x y → (j < b) ⊎ (b + leaf_size y ≤ j)

pub record Kept (r : Run) : Type 0 where
  pub lengths : length (after r) ≡ length (before r)
  -- "A refusal leaves data and list buffers unchanged"
  pub refusals : ¬ (IsDone r) → after r ≡ before r
  -- "n = 0, if no check refuses, is done with no data byte changed."
  pub nothing : r.count ≡ 0 → (RefusedBeforeStop r ⊎ IsDone r) × (after r ≡ before r)
  -- "The count is how many matched leaves, over all records, raised one."
  pub count : (S D : Datatype) → Types r S D → IsDone r → (answer_fields r).count ≡ exceptions S D r.count (readings S D r.source)
  -- document 02, 2026-12: "the count takes all clamped ones": each leaf that raised one obeys clamp
  pub clamped : (S D : Datatype) → Types r S D → IsDone r → (m : MatchedLeaf S D r.count) → 1 ≤ (becomes m r.source).kind
      → handling_at r.handling D m.to ≡ clamp
  -- "bytes nD to nS − 1 (if S is larger) are zero"
  pub cleared : (S D : Datatype) → Types r S D → IsDone r → cleared_tail r.form S D r.count (after r) ≡ zeros r.form S D r.count
  -- "all later ones unchanged", "Copying changes nothing past nD."
  pub later : (S D : Datatype) → Types r S D → IsDone r → later_bytes r.form S D r.count (after r) ≡ later_bytes r.form S D r.count (before r)
  -- "Every destination bit not fixed by a matched leaf is the background's": byte j of record i
  pub background : (S D : Datatype) (i j : ℕ) → Types r S D → IsDone r → i < r.count → Uncovered S D j
      → take 1 (drop j (record_at (size D) i (after r))) ≡ take 1 (drop j (record_at (size D) i r.background))

-- ---- a call that is stopped

-- the fields of an answer name the number g
pub record NamesNumber (fields : Values) (g : Given) : Type 0 where
  pub sign : fields.given ≡ given_sign g
  pub magnitude : fields.magnitude ≡ given_magnitude g

-- what STOP names: document 02, 2026-12: "a leaf that obeys stop raises", and it is "the first such leaf"
pub record Stopped (S D : Datatype) (r : Run) : Type 0 where
  pub given : Given
  pub names : FirstException r.handling S D r.count (readings S D r.source) (answer_fields r).«record» (answer_fields r).at (answer_fields r).kind given
  pub number : NamesNumber (answer_fields r) given
  -- that is the matched number of the named leaf in the named record: its sign and magnitude, or of a real its 64 bits
  pub leaf : MatchedLeaf S D r.count
  pub of_record : leaf.index ≡ (answer_fields r).«record»
  pub at_byte : leaf.to ≡ (answer_fields r).at
  pub is_matched : given ≡ given_of leaf.source (matched_number leaf r.source)

-- ---- in place

-- "The result equals conversion from a copy": the copying run whose source is a copy of r's source, over the same background
abbrev pub from_copy : Run → Run
from_copy r =
    record {
      form = copying;
      handling = r.handling;
      source_sheet = r.source_sheet;
      destination_sheet = r.destination_sheet;
      count = r.count;
      source = r.source;
      background = r.background;
      table = r.table;
    }

-- In place asks for more room. Where it has that, it answers as from a copy, and if done its converted bytes are the same.
pub record AsFromCopy (r : Run) : Type 0 where
  pub answers : ¬ (answer_number r ≡ 7) → SameAnswer r (from_copy r)
  pub converted : (S D : Datatype) → Types r S D → IsDone r → SameConverted D r (from_copy r)

-- A log and what a run made of it without an exception have no difference, and differences turn on matched numbers alone. Assumes nothing.
use mathlib.Core.Path.{◌≡◌, refl, sym, ap₂, ◌∙◌}
use mathlib.Core.List.{List, [], ◌∷◌, ◌++◌}
use mathlib.Core.Bool.{cond}
use Prim.Native.Nat.{ℕ, zero, suc, ◌+◌, ◌≤◌, ◌<◌}
use native.Mathlib.Omega.{arith}
use lib.IntN.{ℤ}
use Rattle.datatype.specs.Datatype.{Leaf, Datatype, size}
use Rattle.datatype.specs.Matches.{Match, on_match, match_at}
use Rattle.datatype.specs.Matches.Match.{unmatched, matched}
use Rattle.datatype.specs.WellFormed.{WellFormed}
use Rattle.datatype.proofs.Ways.{way_starts, match_way}
use Rattle.datatype.proofs.Matches.{match_formed}
use Rattle.sheet.proofs.ReadWellFormed.{read_well_formed}
use Rattle.records.specs.Leaf.{number_in}
use Rattle.records.specs.Records.{record_at, readings, exceptions}
use Rattle.records.specs.Matched.{MatchedLeaf, matched_number}
use Rattle.records.proofs.OneRecord.{none_raised}
use Rattle.records.proofs.ManyRecords.{none_in}
use Rattle.runs.specs.Run.{Run, after}
use Rattle.promises.specs.Runs.{DoneWithoutException, Types, becomes}
use Rattle.promises.proofs.Stops.{kind_of_lem}
use Rattle.promises.proofs.Promises.{arrival, kept}
use Rattle.differences.specs.Differences.{Difference, of_leaf, at_byte, in_record, in_records, differences}
use Rattle.differences.specs.Same as same
use Rattle.differences.specs.Says.{second_number}
use Rattle.differences.proofs.Says.{says}
use Rattle.differences.proofs.Converted.{arrived_same}
use Rattle.difference_promises.specs.Promise.{NoDifference, SameNumbers}

module _ (r : Run) (S D : Datatype) (t : Types r S D) (d : DoneWithoutException r) where
  source_formed_lem : WellFormed S
  source_formed_lem = read_well_formed r.source_sheet S t.source

  destination_formed_lem : WellFormed D
  destination_formed_lem = read_well_formed r.destination_sheet D t.destination

  quiet : (m : MatchedLeaf S D r.count) → (becomes m r.source).kind ≡ 0
  quiet m =
      let none : exceptions S D r.count (readings S D r.source) ≡ 0 = sym ((kept r).count S D t d.done) ∙ d.count in
      sym (kind_of_lem m r.source)
      ∙ none_raised S D (readings S D r.source m.index) (size D) (none_in S D r.count (readings S D r.source) none m.index m.in_records_lem) m.to
      (way_starts (match_way D S destination_formed_lem m.match) destination_formed_lem)

  -- "comparing a log with the converted bytes of any form's run, done without an exception, lists nothing"
  pub no_difference : NoDifference r S D
  no_difference =
      (says S D source_formed_lem destination_formed_lem r.count r.source (after r)).nothing.1
      (λ m. arrived_same m.source m.destination (matched_number m r.source) (second_number m (after r))
      (match_formed S D source_formed_lem destination_formed_lem m.to m.from m.source m.destination m.match).1
      ((arrival r S D t d.done m).number (quiet m)))

-- ---- what the list turns on

module _ (S D : Datatype) (n : ℕ) (first second first' second' : List ℕ) (h : SameNumbers S D n first second first' second') where
  same_byte : (i b : ℕ) → i < n
      → at_byte S D i (record_at (size S) i first) (record_at (size D) i second) b ≡ at_byte S D i (record_at (size S) i first') (record_at (size D) i second') b
  unfolding at_byte
  same_byte i b l = at (match_at S D b) refl
    where
      at : (k : Match) → match_at S D b ≡ k
          → on_match (of_leaf i b (record_at (size S) i first) (record_at (size D) i second)) [] k
          ≡ on_match (of_leaf i b (record_at (size S) i first') (record_at (size D) i second')) [] k
      at unmatched e = refl
      at (matched a x y) e =
          let m : MatchedLeaf S D n = record { index = i; from = a; to = b; source = x; destination = y; in_records_lem = l; match = e } in
          let p : number_in x a (record_at (size S) i first) ≡ number_in x a (record_at (size S) i first') = h.firsts m in
          let q : number_in y b (record_at (size D) i second) ≡ number_in y b (record_at (size D) i second') = h.seconds m in
          ap₂ (of_numbers i b x y) p q
        where
          of_numbers : ℕ → ℕ → Leaf → Leaf → ℤ → ℤ → List Difference
          of_numbers i b x y z w = cond (same.same_in x y z w) [] (record { index = i; at = b; first = z; second = w } ∷ [])

  same_record : (i b k : ℕ) → i < n
      → in_record S D i (record_at (size S) i first) (record_at (size D) i second) b k ≡ in_record S D i (record_at (size S) i first') (record_at (size D) i second') b k
  unfolding in_record
  same_record i b zero l = refl
  same_record i b (suc k) l = ap₂ (λ (xs ys : List Difference). xs ++ ys) (same_byte i b l) (same_record i (suc b) k l)

  same_records : (i k : ℕ) → i + k ≤ n → in_records S D first second i k ≡ in_records S D first' second' i k
  unfolding in_records
  same_records i zero l = refl
  same_records i (suc k) l = ap₂ (λ (xs ys : List Difference). xs ++ ys) (same_record i 0 (size D) (omega arith)) (same_records (suc i) k (omega arith))

  -- the same numbers in every matched leaf: the same differences, whatever else the logs hold
  pub turns_on : differences S D n first second ≡ differences S D n first' second'
  turns_on = same_records 0 n (omega arith)

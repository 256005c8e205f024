-- Records that a conversion raises no exception at and leaves as they are have no difference. Assumes nothing.
use mathlib.Core.Path.{◌≡◌, refl, sym, ap, ◌∙◌, subst}
use mathlib.Core.Bool.{true}
use mathlib.Core.List.{List, []}
use Prim.Native.Nat.{ℕ, zero, suc, ◌*◌, ◌≤◌, ◌<◌}
use native.Mathlib.Omega.{arith}
use lib.IntN.{ℤ}
use lib.ListN.{length, take, length-append}
use lib.Seq.{take_at}
use Rattle.datatype.specs.Datatype.{Leaf, Datatype, size}
use Rattle.datatype.specs.Matches.{Match, on_match, match_at}
use Rattle.datatype.specs.Matches.Match.{unmatched, matched}
use Rattle.datatype.specs.WellFormed.{WellFormed}
use Rattle.datatype.proofs.Ways.{way_starts, match_way}
use Rattle.datatype.proofs.Matches.{match_formed}
use Rattle.records.specs.Leaf.{number_in, converted}
use Rattle.records.specs.Arrival.{stands_for}
use Rattle.records.specs.Record.{reading, converted_record, kind_at, raised_below}
use Rattle.records.specs.Records.{record_at, readings, converted_records, exceptions, copy_result}
use Rattle.records.proofs.OneLeaf.{InRange, read_in_range}
use Rattle.records.proofs.OneRecord.{none_raised, reading_at, read_converted}
use Rattle.records.proofs.ManyRecords.{record_length, same_record, none_in, converted_length, converted_in}
use Rattle.differences.specs.Same.{same_in}
use Rattle.differences.specs.Differences.{of_leaf, at_byte, in_record}
use Rattle.differences.proofs.Converted.{converted_same}

module _ (S D : Datatype) (fs : WellFormed S) (fd : WellFormed D) where
  -- one record: r of the first log and q of the second
  module _ (r q : List ℕ) (whole : length q ≡ size D) (quiet : raised_below S D (reading S D r) (size D) ≡ 0)
      (kept : converted_record S D (reading S D r) q ≡ q) where
    kind_none : (b a : ℕ) (x y : Leaf) → match_at S D b ≡ matched a x y → (converted x y (number_in x a r)).kind ≡ 0
    unfolding kind_at
    kind_none b a x y m =
        let k : kind_at S D (reading S D r) b ≡ 0 = none_raised S D (reading S D r) (size D) quiet b (way_starts (match_way D S fd m) fd) in
        (rw (m, reading_at S D r b a x y m) at k)

    same_leaf : (b a : ℕ) (x y : Leaf) → match_at S D b ≡ matched a x y → same_in x y (number_in x a r) (number_in y b q) ≡ true
    same_leaf b a x y m =
        let formed = match_formed S D fs fd b a x y m in
        let z : ℤ = number_in x a r in
        let within : InRange x z = read_in_range x a r formed.0 in
        let e : number_in y b q ≡ stands_for y (converted x y z).raw
        = ap (number_in y b) (sym kept) ∙ read_converted S D fs fd (reading S D r) b a x y z m (reading_at S D r b a x y m) within q whole in
        subst (λ (w : ℤ). same_in x y z w ≡ true) (sym e) (converted_same x y z formed.0 formed.1 within (kind_none b a x y m))

    none_at : (i b : ℕ) → at_byte S D i r q b ≡ []
    unfolding at_byte
    none_at i b = at (match_at S D b) refl
      where
        at : (m : Match) → match_at S D b ≡ m → on_match (of_leaf i b r q) [] m ≡ []
        at unmatched e = refl
        at (matched a x y) e = rw (same_leaf b a x y e) refl

    none_in_record : (i b k : ℕ) → in_record S D i r q b k ≡ []
    unfolding in_record
    none_in_record i b zero = refl
    none_in_record i b (suc k) = rw (none_at i b, none_in_record i (suc b) k) refl

  -- n records of two logs: a background that holds those of the second log still holds them when those of the first were converted into it
  pub records_alike : (n : ℕ) (first second background : List ℕ) → n * size D ≤ length second → n * size D ≤ length background
      → take (n * size D) background ≡ take (n * size D) second
      → exceptions S D n (readings S D first) ≡ 0 → take (n * size D) (copy_result S D n first background) ≡ take (n * size D) second
      → (i k : ℕ) → i < n → in_record S D k (record_at (size S) i first) (record_at (size D) i second) 0 (size D) ≡ []
  records_alike n first second background room space copied quiet kept i k below =
      let made : take (n * size D) (copy_result S D n first background) ≡ converted_records S D n (readings S D first) background
      = take_at _ _ (n * size D) (converted_length S D fs fd n (readings S D first) background space) in
      let ends : n * size D ≤ length (copy_result S D n first background)
      = rw length-append (omega (arith, converted_length S D fs fd n (readings S D first) background space)) in
      none_in_record (record_at (size S) i first) (record_at (size D) i second) (record_length (size D) n i second room below)
      (none_in S D n (readings S D first) quiet i below)
      (ap (converted_record S D (readings S D first i)) (sym (same_record (size D) n i background second space room copied below))
      ∙ sym (converted_in S D fs fd n (readings S D first) background space i (copy_result S D n first background) made below)
      ∙ same_record (size D) n i (copy_result S D n first background) second ends room kept below)
      k 0 (size D)

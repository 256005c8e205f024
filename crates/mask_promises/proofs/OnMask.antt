-- The mask has the bits of the source that a conversion turns on: they are enough, and each of them shows. Assumes nothing: the types of sheets are well formed
-- (crate sheet).
use mathlib.Core.Path.{◌≡◌, refl, sym, ap, ap₂, ◌∙◌}
use mathlib.Core.Logic.{◌⊎◌, inl, inr, ⊎_elim}
use mathlib.Core.Bool.{true}
use mathlib.Core.List.{List}
use Prim.Native.Nat.{ℕ, ◌+◌, ◌*◌, ◌%◌, ◌≤◌, ◌<◌}
use native.Mathlib.Omega.{arith}
use lib.Dec.{leb}
use lib.ListN.{length, get_or}
use borrow.Author.Tests.{leb-true}
use Rattle.answer.specs.declared.Answer.{Answer}
use Rattle.bits.specs.Container.{bit}
use Rattle.datatype.specs.Datatype.{layout_of, leaf_size, Datatype, size}
use Rattle.datatype.specs.WellFormed.{WellFormedLeaf, WellFormed}
use Rattle.datatype.proofs.Tests.{and_true}
use Rattle.datatype.proofs.Matches.{in_range, match_formed}
use Rattle.sheet.specs.Sheet.{sheet_of}
use Rattle.records.specs.Records.{record_at}
use Rattle.records.specs.Matched.{SignificantBit, bit_in, SameSignificantBits}
use Rattle.runs.specs.Run.{Form, Run, has_room, checks}
use Rattle.runs.specs.Run.Form.{copying, in_place}
use Rattle.runs.specs.Run.Checked.{refused, passed}
use Rattle.runs.proofs.Checks.{refused_or_passed, passed_tells, room_in_place}
use Rattle.promises.specs.Runs.{RefusedBeforeStop, Types}
use Rattle.promises.specs.Demand3.{SameCall, SameBackground, SameEffect}
use Rattle.promises.proofs.Promises.{refused_before, not_early, passed_types, demand_3, on_significant_bits}
use Rattle.masks.specs.Says.{byte_of, Significant}
use Rattle.reaches.specs.Call.{Call, mask_after}
use Rattle.mask_promises.specs.Bits.{AreBytes, bit_at, AgreeOnMask}
use Rattle.mask_promises.specs.Mask.{Masked}
use Rattle.mask_promises.specs.Reach.{Converts, BitOf, OnMask}
use Rattle.mask_promises.proofs.Records.{leaf_bit, leaf_byte}
use Rattle.mask_promises.proofs.Mask.{source_formed_lem, destination_formed_lem, mask_says}

-- ---- a run that is refused, or has room for its source records

room_source : (form : Form) (n s d x y : ℕ) → has_room form n s d x y ≡ true → n * s ≤ x
room_source copying n s d x y e = leb-true (n * s) x (and_true (leb (n * s) x) (leb (n * d) y) e).0
room_source in_place n s d x y e = (room_in_place n s d x y e).0

pub refused_or_passes : (r : Run) (S D : Datatype) → Types r S D → RefusedBeforeStop r ⊎ (checks r ≡ passed S D)
refused_or_passes r S D t =
    ⊎_elim (λ (x : (a : Answer) × (checks r ≡ refused a)). inl (refused_before r x.0 x.1))
    (λ (x : (U : Datatype) × (W : Datatype) × (checks r ≡ passed U W)). inr (passed_types r S D t x.0 x.1 x.2)) (refused_or_passed (checks r))

-- ---- two runs of one call

module _ (c : Call) (S D : Datatype) (m : Masked c S D) where
  fs : WellFormed S
  fs = source_formed_lem c S D m

  fd : WellFormed D
  fd = destination_formed_lem c S D m

  -- a bit of the mask is a significant bit of n source records
  pub significant : {n : ℕ} (b : BitOf c S n) → Significant S D b.byte b.at
  significant b = (mask_says c S D m b.byte b.at b.in_record_lem b.in_byte).0 b.set

  abbrev in_source : {n : ℕ} → BitOf c S n → SignificantBit S D n
  in_source b =
      let s = significant b in
      record {
        leaf = record { index = b.index; from = s.from; to = s.to; source = s.source; destination = s.destination; in_records_lem = b.in_records_lem; match = s.match };
        at = s.at;
        from_offset = s.from_offset;
        within_precision = s.within_precision;
      }

  module _ (n : ℕ) (s : SignificantBit S D n) where
    pub formed : WellFormedLeaf s.leaf.source
    formed = (match_formed S D fs fd s.leaf.to s.leaf.from s.leaf.source s.leaf.destination s.leaf.match).0

    pub fits : s.leaf.from + leaf_size s.leaf.source ≤ size S
    fits = (in_range S D fs fd s.leaf.to s.leaf.from s.leaf.source s.leaf.destination s.leaf.match).1

    -- and the other way round
    abbrev pub in_mask : BitOf c S n
    in_mask =
        let x = s.leaf.source in
        let j : ℕ = s.leaf.from + byte_of (layout_of x).order (leaf_size x) s.at in
        let l : j < size S = omega (arith, leaf_byte x formed s.at s.within_precision, fits) in
        record {
          index = s.leaf.index;
          byte = j;
          at = s.at % 8;
          in_records_lem = s.leaf.in_records_lem;
          in_record_lem = l;
          in_byte = omega arith;
          set =
              (mask_says c S D m j (s.at % 8) l (omega arith)).1
              (record {
                to = s.leaf.to;
                from = s.leaf.from;
                source = x;
                destination = s.leaf.destination;
                match = s.leaf.match;
                at = s.at;
                from_offset = s.from_offset;
                within_precision = s.within_precision;
                byte = refl;
                bit = refl;
              });
        }

    pub bit_is : (p : List ℕ) → n * size S ≤ length p → AreBytes p → bit_in s p ≡ bit_at in_mask p
    bit_is p room bytes =
        leaf_bit (size S) n s.leaf.index p s.leaf.source s.leaf.from room bytes s.leaf.in_records_lem formed fits s.at s.within_precision

  mask_bit_is : {n : ℕ} (b : BitOf c S n) (p : List ℕ) → n * size S ≤ length p → AreBytes p → bit_in (in_source b) p ≡ bit_at b p
  mask_bit_is {n} b p room bytes =
      let s = significant b in
      bit_is n (in_source b) p room bytes
      ∙ ap₂ (λ (j k : ℕ). bit k (get_or (record_at (size S) b.index p) j 0)) (sym s.byte) (sym s.bit)

  module _ (r q : Run) (first : Converts c r) (second : Converts c q) (same : SameCall r q) where
    pub types : Types r S D
    types = record { source = ap sheet_of first.source_sheet ∙ m.source; destination = ap sheet_of first.destination_sheet ∙ m.destination }

    pub first_room : checks r ≡ passed S D → r.count * size S ≤ length r.source
    first_room e = room_source r.form r.count (size S) (size D) (length r.source) (length r.background) (passed_tells r S D e).room

    pub second_room : checks r ≡ passed S D → r.count * size S ≤ length q.source
    second_room e = rw (← same.source_length) (first_room e)

    same_significant : checks r ≡ passed S D → AgreeOnMask (mask_after c) (size S) r.count r.source q.source
        → SameSignificantBits S D r.count r.source q.source
    same_significant e agree s =
        bit_is r.count s r.source (first_room e) first.bytes ∙ agree (in_mask r.count s) ∙ sym (bit_is r.count s q.source (second_room e) second.bytes)

    -- refused alike, whatever the sources
    pub refused_effect : RefusedBeforeStop r → SameEffect S D r q
    refused_effect n =
        record { answers = (demand_3 r q same).refused (inl n); converted = λ d. absurd (not_early (inl d) n); cleared = λ d. absurd (not_early (inl d) n) }

    sound_mask : AgreeOnMask (mask_after c) (size S) r.count r.source q.source → SameBackground D r q → SameEffect S D r q
    sound_mask agree back =
        ⊎_elim refused_effect (λ (e : checks r ≡ passed S D). (on_significant_bits r q same S D types).enough (same_significant e agree) back)
        (refused_or_passes r S D types)

-- the mask has bits enough, and none that a run without an exception would hide
pub on_mask : (c : Call) (S D : Datatype) → Masked c S D → (r q : Run) → Converts c r → Converts c q → SameCall r q → OnMask c S D r q
on_mask c S D m r q first second same =
    record {
      sound = sound_mask c S D m r q first second same;
      tight = λ d e b x.
          let t = types c S D m r q first second same in
          ⊎_elim (λ (n : RefusedBeforeStop r). absurd (not_early (inl d.done) n))
          (λ (p : checks r ≡ passed S D).
          (on_significant_bits r q same S D t).each d e (in_source c S D m b)
          (λ h. x
          (sym (mask_bit_is c S D m b r.source (first_room c S D m r q first second same p) first.bytes)
          ∙ h ∙ mask_bit_is c S D m b q.source (second_room c S D m r q first second same p) second.bytes)))
          (refused_or_passes r S D t);
    }

-- Two buffers of source records that differ in one significant bit: every other matched number is the same, so the count or the converted bytes differ,
-- where the number without the difference raises nothing. Assumes nothing.
use mathlib.Core.Path.{◌≡◌, refl, sym, ap, ◌∙◌}
use mathlib.Core.Logic.{◌⊎◌, ⊎_elim}
use mathlib.Core.Bool.{true}
use mathlib.Core.List.{List, [], ◌++◌}
use Prim.Native.Nat.{ℕ, zero, suc, ◌+◌, ◌*◌, ◌%◌, ◌≤◌, ◌<◌}
use native.Mathlib.Nat.{le_refl}
use native.Mathlib.Omega.{arith}
use lib.IntN.{ℤ}
use lib.ListN.{length, get_or}
use Rattle.bits.specs.Container.{bit}
use Rattle.number.proofs.Bits.{same_bits, same_number}
use Rattle.datatype.specs.Datatype.{Leaf, layout_of, leaf_size, Datatype, size}
use Rattle.datatype.specs.Paths.{has_path}
use Rattle.datatype.specs.Matches.{Match, match_at}
use Rattle.datatype.specs.Matches.Match.{unmatched, matched}
use Rattle.datatype.specs.WellFormed.{WellFormedLeaf, WellFormed}
use Rattle.datatype.proofs.Ways.{valid, match_way, way_starts}
use Rattle.datatype.proofs.Matches.{in_range, match_formed, match_path}
use Rattle.records.specs.Leaf.{number_in, converted}
use Rattle.records.specs.Arrival.{stands_for}
use Rattle.records.specs.Record.{Reading, reading, kind_at, raises, raised_below}
use Rattle.records.specs.Records.{record_at, readings, converted_records, exceptions}
use Rattle.records.proofs.OneLeaf.{read_in_range, leaf_back}
use Rattle.records.proofs.OneRecord.{reading_at, read_converted}
use Rattle.records.proofs.ManyRecords.{record_length, converted_at_lem}
use Rattle.masks.specs.Says.{byte_of, Significant}
use Rattle.mask_promises.specs.Bits.{AreBytes}
use Rattle.mask_promises.proofs.Records.{byte_in, one_byte, leaf_bit, leaf_byte, sources_apart, sum_with}

-- the kind that a matched leaf raises
kind_of_lem : (S D : Datatype) (r : List ℕ) (b a : ℕ) (x y : Leaf) → match_at S D b ≡ matched a x y → kind_at S D (reading S D r) b ≡ (converted x y (number_in x a r)).kind
unfolding kind_at reading
kind_of_lem S D r b a x y m = rw m

-- and one that is not matched
kind_none : (S D : Datatype) (f : Reading) (b : ℕ) → match_at S D b ≡ unmatched → kind_at S D f b ≡ 0
unfolding kind_at
kind_none S D f b m = rw m

-- bit κ of byte j of record i, in two buffers of n records of type S that differ in it and in no other bit
pub record OneBit (S : Datatype) (n i j κ : ℕ) (p q : List ℕ) : Type 0 where
  pub first_room : n * size S ≤ length p
  pub second_room : n * size S ≤ length q
  pub first_bytes : AreBytes p
  pub second_bytes : AreBytes q
  pub in_records_lem : i < n
  pub in_record_lem : j < size S
  pub differ : ¬ (bit κ (get_or (record_at (size S) i p) j 0) ≡ bit κ (get_or (record_at (size S) i q) j 0))
  pub others : (t k : ℕ) → ¬ ((t ≡ i * size S + j) × (k ≡ κ)) → bit k (get_or p t 0) ≡ bit k (get_or q t 0)

module _ (S D : Datatype) (fs : WellFormed S) (fd : WellFormed D) (n i j κ : ℕ) (p q : List ℕ) (o : OneBit S n i j κ p q) where
  -- a leaf that does not have the byte has the same number in both
  number_same : (k a : ℕ) (x : Leaf) → k < n → WellFormedLeaf x → a + leaf_size x ≤ size S → ¬ ((k ≡ i) × (a ≤ j) × (j < a + leaf_size x))
      → number_in x a (record_at (size S) k p) ≡ number_in x a (record_at (size S) k q)
  number_same k a x l f fits away =
      same_bits (layout_of x) a (record_at (size S) k p) (record_at (size S) k q)
      (λ c h t.
      let d : ℕ = a + byte_of (layout_of x).order (leaf_size x) c in
      let e : d < a + leaf_size x = omega (arith, leaf_byte x f c t) in
      let w : d < size S = omega arith in
      leaf_bit (size S) n k p x a o.first_room o.first_bytes l f fits c t
      ∙ ap (bit (c % 8)) (byte_in (size S) k d p w)
      ∙ o.others (k * size S + d) (c % 8)
      (λ (u : (k * size S + d ≡ i * size S + j) × (c % 8 ≡ κ)).
      let v = one_byte (size S) k d i j w o.in_record_lem u.0 in
      away (v.0, omega (arith, v.1), omega (arith, v.1)))
      ∙ ap (bit (c % 8)) (sym (byte_in (size S) k d q w))
      ∙ sym (leaf_bit (size S) n k q x a o.second_room o.second_bytes l f fits c t))

  module _ (s : Significant S D j κ) where
    formed : WellFormedLeaf s.source × WellFormedLeaf s.destination
    formed = match_formed S D fs fd s.to s.from s.source s.destination s.match

    fits : s.from + leaf_size s.source ≤ size S
    fits = (in_range S D fs fd s.to s.from s.source s.destination s.match).1

    -- the number in the leaf of the bit, in record i of a buffer
    abbrev number_of : List ℕ → ℤ
    number_of buffer = number_in s.source s.from (record_at (size S) i buffer)

    number_differs : ¬ (number_of p ≡ number_of q)
    number_differs e =
        let l = o.in_records_lem in
        let h = s.within_precision in
        o.differ
        (rw (s.byte, s.bit)
        (sym (leaf_bit (size S) n i p s.source s.from o.first_room o.first_bytes l formed.0 fits s.at h)
        ∙ same_number (layout_of s.source) s.from (record_at (size S) i p) (record_at (size S) i q) (valid s.source formed.0) e s.at s.from_offset h
        ∙ leaf_bit (size S) n i q s.source s.from o.second_room o.second_bytes l formed.0 fits s.at h))

    has_byte : (s.from ≤ j) × (j < s.from + leaf_size s.source)
    has_byte = let h = leaf_byte s.source formed.0 s.at s.within_precision in (omega (arith, s.byte), omega (arith, s.byte, h))

    -- every other leaf of every record raises the same
    kind_same : (k c : ℕ) → k < n → ¬ ((k ≡ i) × (c ≡ s.to)) → kind_at S D (readings S D p k) c ≡ kind_at S D (readings S D q k) c
    kind_same k c l other = at (match_at S D c) refl
      where
        away : (d : ℕ) (u v : Leaf) → match_at S D c ≡ matched d u v → ¬ ((k ≡ i) × (d ≤ j) × (j < d + leaf_size u))
        away d u v e t =
            ⊎_elim (λ (h : d + leaf_size u ≤ s.from). omega (arith, h, t.2, has_byte.0)) (λ (h : s.from + leaf_size s.source ≤ d). omega (arith, h, t.1, has_byte.1))
            (sources_apart S D fs fd s.to s.from s.source s.destination s.match c d u v e (λ (g : c ≡ s.to). other (t.0, g)))

        at : (m : Match) → match_at S D c ≡ m → kind_at S D (readings S D p k) c ≡ kind_at S D (readings S D q k) c
        at unmatched e = kind_none S D (readings S D p k) c e ∙ sym (kind_none S D (readings S D q k) c e)
        at (matched d u v) e =
            kind_of_lem S D (record_at (size S) k p) c d u v e
            ∙ ap (λ (z : ℤ). (converted u v z).kind) (number_same k d u l (match_formed S D fs fd c d u v e).0 (in_range S D fs fd c d u v e).1 (away d u v e))
            ∙ sym (kind_of_lem S D (record_at (size S) k q) c d u v e)

    kind_at_lem : (buffer : List ℕ) → kind_at S D (readings S D buffer i) s.to ≡ (converted s.source s.destination (number_of buffer)).kind
    kind_at_lem buffer = kind_of_lem S D (record_at (size S) i buffer) s.to s.from s.source s.destination s.match

    -- so the counts differ by that leaf's alone
    record_count : raised_below S D (readings S D p i) (size D) + raises (kind_at S D (readings S D q i) s.to)
        ≡ raised_below S D (readings S D q i) (size D) + raises (kind_at S D (readings S D p i) s.to)
    unfolding raised_below
    record_count =
        sum_with (raised_below S D (readings S D p i)) (raised_below S D (readings S D q i)) (λ c. raises (kind_at S D (readings S D p i) c))
        (λ c. raises (kind_at S D (readings S D q i) c)) refl (λ c. refl) (λ c. refl) (size D) s.to
        (λ c l other. ap raises (kind_same i c o.in_records_lem (λ (t : (i ≡ i) × (c ≡ s.to)). other t.1)))
        (size D) (le_refl (size D)) (way_starts (match_way D S fd s.match) fd)

    record_same : (k : ℕ) → k < n → ¬ (k ≡ i) → (c : ℕ) → raised_below S D (readings S D p k) c ≡ raised_below S D (readings S D q k) c
    unfolding raised_below
    record_same k l other zero = refl
    record_same k l other (suc c) =
        rw (record_same k l other c, kind_same k c l (λ (t : (k ≡ i) × (c ≡ s.to)). other t.0))

    count : exceptions S D n (readings S D p) + raised_below S D (readings S D q i) (size D)
        ≡ exceptions S D n (readings S D q) + raised_below S D (readings S D p i) (size D)
    unfolding exceptions
    count =
        sum_with (λ k. exceptions S D k (readings S D p)) (λ k. exceptions S D k (readings S D q)) (λ k. raised_below S D (readings S D p k) (size D))
        (λ k. raised_below S D (readings S D q k) (size D)) refl (λ k. refl) (λ k. refl) n i
        (λ k l other. record_same k l other (size D)) n (le_refl n) o.in_records_lem

    module _ (path : has_path S D ≡ true) (quiet : (converted s.source s.destination (number_of p)).kind ≡ 0) (bg : List ℕ) (room : n * size D ≤ length bg) where
      -- the number that a leaf which raised nothing had, told by what was made
      abbrev back : List ℕ → ℤ
      back r = stands_for s.source (converted s.destination s.source (number_in s.destination s.to r)).raw

      returned : (buffer : List ℕ) → (converted s.source s.destination (number_of buffer)).kind ≡ 0
          → back (record_at (size D) i (converted_records S D n (readings S D buffer) bg ++ [])) ≡ number_of buffer
      returned buffer k =
          let h = read_in_range s.source s.from (record_at (size S) i buffer) formed.0 in
          ap back (converted_at_lem S D fs fd n (readings S D buffer) bg room i [] o.in_records_lem)
          ∙ ap (λ (z : ℤ). stands_for s.source (converted s.destination s.source z).raw)
          (read_converted S D fs fd (readings S D buffer i) s.to s.from s.source s.destination (number_of buffer) s.match
          (reading_at S D (record_at (size S) i buffer) s.to s.from s.source s.destination s.match) h (record_at (size D) i bg)
          (record_length (size D) n i bg room o.in_records_lem))
          ∙ (leaf_back s.source s.destination (number_of buffer) formed.0 formed.1
          (match_path S D fs fd path s.to s.from s.source s.destination s.match) h k).same

      pub one_bit_shows : exceptions S D n (readings S D p) ≡ exceptions S D n (readings S D q)
          → converted_records S D n (readings S D p) bg ≡ converted_records S D n (readings S D q) bg → ⊥
      one_bit_shows e f = at (converted s.source s.destination (number_of q)).kind refl
        where
          at : (k : ℕ) → (converted s.source s.destination (number_of q)).kind ≡ k → ⊥
          at zero g = number_differs (sym (returned p quiet) ∙ ap (λ (l : List ℕ). back (record_at (size D) i (l ++ []))) f ∙ returned q g)
          at (suc k) g =
              let a : raises (kind_at S D (readings S D p i) s.to) ≡ 0 = ap raises (kind_at_lem p ∙ quiet) in
              let c : raises (kind_at S D (readings S D q i) s.to) ≡ 1 = ap raises (kind_at_lem q ∙ g) in
              omega (arith, a, c, record_count, count, e)

-- Two buffers that differ in one bit: zeros with the significant bits r in one leaf, and the same with one bit turned. Assumes nothing.
use mathlib.Core.Path.{◌≡◌, sym, ap, ◌∙◌}
use mathlib.Core.Logic.{◌⊎◌, ⊎_elim}
use mathlib.Core.List.{List}
use Prim.Native.Nat.{ℕ, ◌+◌, ◌-◌, ◌*◌, ◌%◌, ◌^◌, ◌≤◌, ◌<◌}
use native.Mathlib.Nat.{lt_of_not-le, mod-eq_of_lt, div-one, le_refl, eq-or-lt_of_le, suc-mul, mul-le-mul_right}
use native.Mathlib.Decide.{dec_le, ℕ_discrete}
use native.Mathlib.Omega.{arith}
use lib.ListN.{length, get_or, set, take, drop, replicate, length-replicate, get_or-replicate, length-set, length-drop, get_or-eq_default}
use lib.Seq.{ext_get_or, get_or-take, get_or-drop, get_or-set_same, get_or-set_other, length-take-le}
use Rattle.bits.specs.Container.{container, bit, field}
use Rattle.layout.specs.Layout.{Valid}
use Rattle.layout.specs.declared.Layout.{Layout}
use Rattle.number.specs.Place.{stored}
use Rattle.number.proofs.RoundTrip.{raw_back, stored_length}
use Rattle.datatype.specs.Datatype.{Leaf, layout_of, leaf_size, Datatype, size}
use Rattle.datatype.specs.WellFormed.{WellFormedLeaf}
use Rattle.datatype.proofs.Ways.{valid}
use Rattle.records.specs.Leaf.{number_in}
use Rattle.records.specs.Arrival.{stands_for}
use Rattle.records.specs.Records.{record_at}
use Rattle.records.proofs.ManyRecords.{record_length}
use Rattle.masks.specs.Mask.{pads_kept}
use Rattle.masks.proofs.Bits.{kept, kept_below, kept_inside, kept_above, kept_lt, stored_bytes}
use Rattle.mask_promises.specs.Bits.{AreBytes}
use Rattle.mask_promises.proofs.Records.{byte_in}
use Rattle.mask_promises.proofs.OneBit.{OneBit}

-- ---- one bit of a byte turned

abbrev turned : ℕ → ℕ → ℕ
turned k b = kept k 1 b (1 - bit k b)

turned_is : (k b : ℕ) → bit k (turned k b) ≡ 1 - bit k b
turned_is k b =
    let e : k - k ≡ 0 = omega arith in
    kept_inside k 1 b (1 - bit k b) (omega arith) k (le_refl k) (omega arith)
    ∙ ap (λ (j : ℕ). bit j (1 - bit k b)) e ∙ ap (λ (x : ℕ). x % 2) (div-one (1 - bit k b)) ∙ mod-eq_of_lt (omega arith)

turned_differs : (k b : ℕ) → ¬ (bit k b ≡ bit k (turned k b))
turned_differs k b e = omega (arith, e, turned_is k b)

turned_others : (k b j : ℕ) → ¬ (j ≡ k) → bit j b ≡ bit j (turned k b)
turned_others k b j other = at (dec_le k j)
  where
    at : Dec (k ≤ j) → bit j b ≡ bit j (turned k b)
    at (no h) = sym (kept_below k 1 b (1 - bit k b) j (lt_of_not-le h))
    at (yes h) =
        ⊎_elim (λ (e : k ≡ j). absurd (other (sym e))) (λ (l : k < j). sym (kept_above k 1 b (1 - bit k b) (omega arith) j (omega arith))) (eq-or-lt_of_le h)

turned_lt : (k b : ℕ) → k < 8 → b < 256 → turned k b < 256
turned_lt k b h l = kept_lt k 1 b (1 - bit k b) (omega arith) 8 (omega arith) l

-- ---- the place of a leaf in a record, and in the buffer

part_of_record : (w n i a m : ℕ) (s : List ℕ) → n * w ≤ length s → i < n → a + m ≤ w → take m (drop a (record_at w i s)) ≡ take m (drop (i * w + a) s)
part_of_record w n i a m s room l h =
    let e : length (record_at w i s) ≡ w = record_length w n i s room l in
    let t : i * w + w ≤ n * w = rw suc-mul at (mul-le-mul_right w l) in
    let u : length (take m (drop a (record_at w i s))) ≡ m = length-take-le m (drop a (record_at w i s)) (rw (length-drop a (record_at w i s), e) (omega arith)) in
    let v : length (take m (drop (i * w + a) s)) ≡ m = length-take-le m (drop (i * w + a) s) (rw (length-drop (i * w + a) s) (omega arith)) in
    ext_get_or 0 (take m (drop a (record_at w i s))) (take m (drop (i * w + a) s)) (u ∙ sym v)
    (λ k c.
    let d : k < m = rw u at c in
    let f : i * w + (a + k) ≡ i * w + a + k = omega arith in
    get_or-take m (drop a (record_at w i s)) k 0 d ∙ get_or-drop a (record_at w i s) k 0 ∙ byte_in w i (a + k) s (omega arith) ∙ ap (λ (x : ℕ). get_or s x 0) f
    ∙ sym (get_or-take m (drop (i * w + a) s) k 0 d ∙ get_or-drop (i * w + a) s k 0))

-- ---- the two buffers

zeros_bytes : (m : ℕ) → AreBytes (replicate m 0)
zeros_bytes m j = at (dec_le m j)
  where
    at : Dec (m ≤ j) → get_or (replicate m 0) j 0 < 256
    at (yes h) = rw (get_or-eq_default {A = ℕ} (replicate m 0) 0 {n = j} (rw (length-replicate {A = ℕ} m 0) h)) (omega arith)
    at (no h) = rw (get_or-replicate {A = ℕ} m j 0 0 (lt_of_not-le h)) (omega arith)

kept_valid : (l : Layout) → Valid l → Valid (pads_kept l)
kept_valid l v = record { some_bytes = v.some_bytes; sized = v.sized; some = v.some; most = v.most; inside = v.inside; sign = v.sign }

-- two buffers of `long` bytes that differ in bit κ of byte j of record i alone; in the first the bits of the leaf x, at byte a of that record, are r
pub record Sources (S : Datatype) (n i j κ : ℕ) (x : Leaf) (a r long : ℕ) : Type 0 where
  pub first : List ℕ
  pub second : List ℕ
  pub first_length : length first ≡ long
  pub second_length : length second ≡ long
  pub one_bit : OneBit S n i j κ first second
  pub holds : number_in x a (record_at (size S) i first) ≡ stands_for x r

module _ (S : Datatype) (n i j κ : ℕ) (x : Leaf) (a r long : ℕ) (room : n * size S ≤ long) (in_records_lem : i < n) (in_record_lem : j < size S) (in_byte : κ < 8)
    (formed : WellFormedLeaf x) (fits : a + leaf_size x ≤ size S) (bits : r < 2 ^ (layout_of x).precision) where
  within : i * size S + size S ≤ n * size S
  within = rw suc-mul at (mul-le-mul_right (size S) in_records_lem)

  place_fits : i * size S + a + (layout_of x).size.0 ≤ length (replicate {A = ℕ} long 0)
  place_fits = rw (length-replicate {A = ℕ} long 0) (omega (arith, within))

  -- zeros, with the bits r in the leaf x of record i
  abbrev first : List ℕ
  first = stored (pads_kept (layout_of x)) (i * size S + a) r (replicate long 0)

  -- the same with bit κ of byte j of record i turned
  abbrev second : List ℕ
  second = set first (i * size S + j) (turned κ (get_or first (i * size S + j) 0))

  first_length : length first ≡ long
  first_length = stored_length (pads_kept (layout_of x)) (i * size S + a) r (replicate long 0) place_fits ∙ length-replicate {A = ℕ} long 0

  second_length : length second ≡ long
  second_length = length-set first (i * size S + j) _ ∙ first_length

  first_bytes : AreBytes first
  first_bytes = stored_bytes (pads_kept (layout_of x)) (i * size S + a) r (replicate long 0) place_fits (zeros_bytes long)

  turned_byte : get_or second (i * size S + j) 0 ≡ turned κ (get_or first (i * size S + j) 0)
  turned_byte = get_or-set_same first (i * size S + j) _ 0 (rw first_length (omega (arith, within)))

  other_byte : (t : ℕ) → ¬ (t ≡ i * size S + j) → get_or second t 0 ≡ get_or first t 0
  other_byte t h = get_or-set_other first (i * size S + j) t _ 0 h

  second_bytes : AreBytes second
  second_bytes t = at (ℕ_discrete t (i * size S + j))
    where
      at : Dec (t ≡ i * size S + j) → get_or second t 0 < 256
      at (yes e) = rw (e, turned_byte) (turned_lt κ (get_or first (i * size S + j) 0) in_byte (first_bytes (i * size S + j)))
      at (no h) = rw (other_byte t h) (first_bytes t)

  one_bit : OneBit S n i j κ first second
  one_bit =
      record {
        first_room = rw first_length room;
        second_room = rw second_length room;
        first_bytes = first_bytes;
        second_bytes = second_bytes;
        in_records_lem = in_records_lem;
        in_record_lem = in_record_lem;
        differ = λ e.
            turned_differs κ (get_or first (i * size S + j) 0)
            (ap (bit κ) (sym (byte_in (size S) i j first in_record_lem)) ∙ e ∙ ap (bit κ) (byte_in (size S) i j second in_record_lem ∙ turned_byte));
        others = λ t k other. at t k other (ℕ_discrete t (i * size S + j));
      }
    where
      at : (t k : ℕ) → ¬ ((t ≡ i * size S + j) × (k ≡ κ)) → Dec (t ≡ i * size S + j) → bit k (get_or first t 0) ≡ bit k (get_or second t 0)
      at t k other (yes e) =
          ap (λ (d : ℕ). bit k (get_or first d 0)) e
          ∙ turned_others κ (get_or first (i * size S + j) 0) k (λ (h : k ≡ κ). other (e, h))
          ∙ ap (bit k) (sym turned_byte) ∙ ap (λ (d : ℕ). bit k (get_or second d 0)) (sym e)
      at t k other (no h) = ap (bit k) (sym (other_byte t h))

  -- the leaf holds the number that the bits stand for
  holds : number_in x a (record_at (size S) i first) ≡ stands_for x r
  holds =
      ap (λ (d : List ℕ). stands_for x (field (layout_of x).offset.0 (layout_of x).precision (container (layout_of x).order d)))
      (part_of_record (size S) n i a (leaf_size x) first (rw first_length room) in_records_lem fits)
      ∙ ap (stands_for x) (raw_back (pads_kept (layout_of x)) (i * size S + a) r (replicate long 0) (kept_valid (layout_of x) (valid x formed)) place_fits bits)

  pub sources : Sources S n i j κ x a r long
  sources = record { first = first; second = second; first_length = first_length; second_length = second_length; one_bit = one_bit; holds = holds }

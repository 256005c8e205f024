-- The bits of a container and the bytes in memory that have them, in either order; and a field of bits set among bits that stay. Assumes nothing.
use mathlib.Core.Path.{◌≡◌, refl, sym, ap, ◌∙◌}
use mathlib.Core.Logic.{◌⊎◌, inl, inr}
use mathlib.Core.List.{List, [], ◌∷◌}
use Prim.Native.Nat.{ℕ, zero, suc, ◌+◌, ◌-◌, ◌*◌, ◌/◌, ◌%◌, ◌^◌, ◌≤◌, ◌<◌}
use native.Mathlib.Nat.{mod-lt, lt_of_not-le, div-eq_of_lt, add_comm, add-mul, mul_assoc, add_assoc}
use native.Mathlib.Decide.{dec_le}
use native.Mathlib.Omega.{arith}
use lib.ListN.{length, get_or, take, drop, get_or-eq_default}
use lib.Seq.{get_or-take, get_or-drop}
use lib.Pow.{pow-add, pow_pos, shr-shr, shr_lt, low, high, ones_lt, ones_split}
use Rattle.bits.specs.declared.Order.{Order}
use Rattle.bits.specs.declared.Order.TheVariants.{LE, BE}
use Rattle.bits.specs.Container.{arranged, from_digits, container, contained, bit}
use Rattle.bits.specs.Index.{index_of}
use Rattle.bits.proofs.Digits.{read_written, contained_length, byte_at, part_length, part_at}
use Rattle.bits.proofs.Eight.{Bytes, bytes_of}
use Rattle.layout.specs.declared.Layout.{Layout}
use Rattle.number.specs.Place.{filled, place, stored}
use Rattle.number.proofs.Fields.{cat_lt}
use Rattle.number.proofs.RoundTrip.{field_mod, taken_back, stored_length, part_apart}
use Rattle.masks.specs.Says.{byte_of}

-- ---- one bit of a number

pub bit_low : (k m c : ℕ) → k < m → bit k (c % 2 ^ m) ≡ bit k c
bit_low k m c h = field_mod k 1 m c (omega arith)

pub bit_high : (k m c : ℕ) → bit (m + k) c ≡ bit k (c / 2 ^ m)
bit_high k m c = ap (λ (x : ℕ). x % 2) (sym (shr-shr c m k))

pub bit_zero : (k : ℕ) → bit k 0 ≡ 0
bit_zero k = ap (λ (x : ℕ). x % 2) (div-eq_of_lt (pow_pos k))

-- every bit of p ones is one
pub bit_ones : (p k : ℕ) → k < p → bit k (2 ^ p - 1) ≡ 1
bit_ones p k h =
    let j : ℕ = p - k - 1 in
    let e : p ≡ j + 1 + k = omega arith in
    ap (λ (x : ℕ). bit k (2 ^ x - 1)) e
    ∙ ap (bit k) (ones_split (j + 1) k)
    ∙ ap (λ (x : ℕ). x % 2) (high (2 ^ (j + 1) - 1) k (ones_lt k) ∙ ones_split j 1)
    ∙ low (2 ^ j - 1) 1 (ones_lt 1)

-- ---- a field of p bits from o on among bits that stay

abbrev pub kept : ℕ → ℕ → ℕ → ℕ → ℕ
kept o p g r = g / 2 ^ (o + p) * 2 ^ (o + p) + (r * 2 ^ o + g % 2 ^ o)

module _ (o p g r : ℕ) where
  -- the same, cut below the field
  kept_cut : kept o p g r ≡ (g / 2 ^ (o + p) * 2 ^ p + r) * 2 ^ o + g % 2 ^ o
  kept_cut =
      let h : ℕ = g / 2 ^ (o + p) in
      let e : h * 2 ^ (o + p) ≡ h * 2 ^ p * 2 ^ o = ap (λ (x : ℕ). h * 2 ^ x) (add_comm o p) ∙ ap (λ (x : ℕ). h * x) (pow-add 2 p o) ∙ sym (mul_assoc h (2 ^ p) (2 ^ o)) in
      ap (λ (x : ℕ). x + (r * 2 ^ o + g % 2 ^ o)) e
      ∙ sym (add_assoc (h * 2 ^ p * 2 ^ o) (r * 2 ^ o) (g % 2 ^ o))
      ∙ ap (λ (x : ℕ). x + g % 2 ^ o) (sym (add-mul (h * 2 ^ p) r (2 ^ o)))

  pub kept_below : (k : ℕ) → k < o → bit k (kept o p g r) ≡ bit k g
  kept_below k h =
      sym (bit_low k o (kept o p g r) h)
      ∙ ap (bit k) (ap (λ (x : ℕ). x % 2 ^ o) kept_cut ∙ low (g / 2 ^ (o + p) * 2 ^ p + r) o (mod-lt g (pow_pos o)))
      ∙ bit_low k o g h

  module _ (fits : r < 2 ^ p) where
    pub kept_inside : (k : ℕ) → o ≤ k → k < o + p → bit k (kept o p g r) ≡ bit (k - o) r
    kept_inside k h l =
        let e : k ≡ o + (k - o) = omega arith in
        ap (λ (x : ℕ). bit x (kept o p g r)) e
        ∙ bit_high (k - o) o (kept o p g r)
        ∙ ap (bit (k - o)) (ap (λ (x : ℕ). x / 2 ^ o) kept_cut ∙ high (g / 2 ^ (o + p) * 2 ^ p + r) o (mod-lt g (pow_pos o)))
        ∙ sym (bit_low (k - o) p (g / 2 ^ (o + p) * 2 ^ p + r) (omega arith))
        ∙ ap (bit (k - o)) (low (g / 2 ^ (o + p)) p fits)

    kept_low : r * 2 ^ o + g % 2 ^ o < 2 ^ (o + p)
    kept_low = rw (add_comm o p) (cat_lt p o fits (mod-lt g (pow_pos o)))

    pub kept_above : (k : ℕ) → o + p ≤ k → bit k (kept o p g r) ≡ bit k g
    kept_above k h =
        let e : k ≡ o + p + (k - (o + p)) = omega arith in
        ap (λ (x : ℕ). bit x (kept o p g r)) e
        ∙ bit_high (k - (o + p)) (o + p) (kept o p g r)
        ∙ ap (bit (k - (o + p))) (high (g / 2 ^ (o + p)) (o + p) kept_low)
        ∙ sym (ap (λ (x : ℕ). bit x g) e ∙ bit_high (k - (o + p)) (o + p) g)

    pub kept_lt : (m : ℕ) → o + p ≤ m → g < 2 ^ m → kept o p g r < 2 ^ m
    kept_lt m h l =
        let e : m ≡ m - (o + p) + (o + p) = omega arith in
        rw e (cat_lt (m - (o + p)) (o + p) (shr_lt (m - (o + p)) (o + p) (rw e at l)) kept_low)

-- ---- bits and bytes

-- bit q of digit j
digits_bit : (l : List ℕ) → Bytes l → (j q : ℕ) → q < 8 → bit (8 * j + q) (from_digits l) ≡ bit q (get_or l j 0)
digits_bit [] h j q l = bit_zero (8 * j + q) ∙ sym (bit_zero q)
digits_bit (b ∷ bs) h zero q l =
    let e : 8 * 0 + q ≡ q = omega arith in
    ap (λ (k : ℕ). bit k (from_digits bs * 256 + b)) e ∙ sym (bit_low q 8 (from_digits bs * 256 + b) l) ∙ ap (bit q) (low (from_digits bs) 8 h.0)
digits_bit (b ∷ bs) h (suc j) q l =
    let e : 8 * suc j + q ≡ 8 + (8 * j + q) = omega arith in
    ap (λ (k : ℕ). bit k (from_digits bs * 256 + b)) e
    ∙ bit_high (8 * j + q) 8 (from_digits bs * 256 + b)
    ∙ ap (bit (8 * j + q)) (high (from_digits bs) 8 h.0)
    ∙ digits_bit bs h.1 j q l

byte_of_index : (o : Order) (n k : ℕ) → index_of o n (k / 8) ≡ byte_of o n k
byte_of_index LE n k = refl
byte_of_index BE n k = omega arith

pub byte_lt : (o : Order) (n k : ℕ) → k < 8 * n → byte_of o n k < n
byte_lt LE n k h = omega arith
byte_lt BE n k h = omega arith

-- bit k of a container of n bytes lies at this byte, and is this bit of it
pub record LiesAt (o : Order) (n i q : ℕ) : Type 0 where
  pub at : ℕ
  pub inside : at < 8 * n
  pub byte : byte_of o n at ≡ i
  pub bit : at % 8 ≡ q

-- every bit of its bytes is one of a container's
pub lies_at : (o : Order) (n i q : ℕ) → i < n → q < 8 → LiesAt o n i q
lies_at LE n i q h l = record { at = 8 * i + q; inside = omega arith; byte = omega arith; bit = omega arith }
lies_at BE n i q h l = record { at = 8 * (n - 1 - i) + q; inside = omega arith; byte = omega arith; bit = omega arith }

-- Bit k of the container of n bytes is bit k % 8 of its byte `byte_of`.
pub place_bit : (o : Order) (s : List ℕ) (a n : ℕ) → a + n ≤ length s → ((j : ℕ) → get_or s j 0 < 256) → (k : ℕ) → k < 8 * n
    → bit k (container o (take n (drop a s))) ≡ bit (k % 8) (get_or s (a + byte_of o n k) 0)
place_bit o s a n fits hb k h =
    let l : List ℕ = arranged o (take n (drop a s)) in
    let e : k ≡ 8 * (k / 8) + k % 8 = omega arith in
    ap (λ (x : ℕ). bit x (from_digits l)) e
    ∙ digits_bit l (bytes_of l (λ i. below i (dec_le n i))) (k / 8) (k % 8) (omega arith)
    ∙ ap (bit (k % 8)) (part_at s a n o fits (k / 8) (omega arith) ∙ ap (λ (x : ℕ). get_or s (a + x) 0) (byte_of_index o n k))
  where
    below : (i : ℕ) → Dec (n ≤ i) → get_or (arranged o (take n (drop a s))) i 0 < 256
    below i (yes m) = rw (get_or-eq_default (arranged o (take n (drop a s))) 0 {n = i} (rw (part_length s a n o fits) m)) (omega arith)
    below i (no m) = rw (part_at s a n o fits i (lt_of_not-le m)) (hb (a + index_of o n i))

-- ---- what a write leaves, byte by byte and bit by bit

module _ (l : Layout) (a r : ℕ) (s : List ℕ) (fits : a + l.size.0 ≤ length s) where
  -- a byte outside the place stays
  pub stored_apart : (j : ℕ) → (j < a) ⊎ (a + l.size.0 ≤ j) → get_or (stored l a r s) j 0 ≡ get_or s j 0
  stored_apart j apart = one (stored l a r s) ∙ ap (λ (x : List ℕ). get_or x 0 0) (part_apart l a r s j 1 fits (outside apart)) ∙ sym (one s)
    where
      outside : (j < a) ⊎ (a + l.size.0 ≤ j) → (j + 1 ≤ a) ⊎ (a + l.size.0 ≤ j)
      outside (inl h) = inl (omega arith)
      outside (inr h) = inr h

      one : (x : List ℕ) → get_or x j 0 ≡ get_or (take 1 (drop j x)) 0 0
      one x =
          let e : j ≡ j + 0 = omega arith in
          ap (λ (i : ℕ). get_or x i 0) e ∙ sym (get_or-take 1 (drop j x) 0 0 (omega arith) ∙ get_or-drop j x 0 0)

  bytes_written : take l.size.0 (drop a (stored l a r s)) ≡ contained l.order l.size.0 (filled l (container l.order (place l a s)) r)
  bytes_written = taken_back s a _ l.size.0 (contained_length l.order l.size.0 _) (omega arith)

  module _ (hb : (j : ℕ) → get_or s j 0 < 256) where
    pub stored_bytes : (j : ℕ) → get_or (stored l a r s) j 0 < 256
    stored_bytes j = at (dec_le a j) (dec_le (a + l.size.0) j)
      where
        at : Dec (a ≤ j) → Dec (a + l.size.0 ≤ j) → get_or (stored l a r s) j 0 < 256
        at (no h) t = rw (stored_apart j (inl (lt_of_not-le h))) (hb j)
        at (yes h) (yes m) = rw (stored_apart j (inr m)) (hb j)
        at (yes h) (no m) =
            let i : ℕ = j - a in
            let n : i < l.size.0 = omega (arith, lt_of_not-le m) in
            let e : a + i ≡ j = omega arith in
            let g : get_or (stored l a r s) j 0 ≡ get_or (take l.size.0 (drop a (stored l a r s))) i 0 =
            ap (λ (x : ℕ). get_or (stored l a r s) x 0) (sym e) ∙ sym (get_or-take l.size.0 (drop a (stored l a r s)) i 0 n ∙ get_or-drop a (stored l a r s) i 0) in
            rw (g, bytes_written, byte_at l.order l.size.0 (filled l (container l.order (place l a s)) r) i n) (mod-lt _ (omega arith))

    -- a bit inside it is that of the container that is written
    pub stored_bit : (k : ℕ) → k < 8 * l.size.0
        → bit (k % 8) (get_or (stored l a r s) (a + byte_of l.order l.size.0 k) 0) ≡ bit k (filled l (container l.order (place l a s)) r)
    stored_bit k h =
        sym (place_bit l.order (stored l a r s) a l.size.0 (rw (stored_length l a r s fits) fits) stored_bytes k h)
        ∙ ap (λ (x : List ℕ). bit k (container l.order x)) bytes_written
        ∙ ap (bit k) (read_written l.order l.size.0 _)
        ∙ bit_low k (8 * l.size.0) _ h

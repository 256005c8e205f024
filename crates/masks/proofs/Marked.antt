-- One leaf marked: its significant bits are set, and every other bit of the mask stays. Assumes nothing.
use mathlib.Core.Path.{◌≡◌, sym, ap, ap₂, ◌∙◌}
use mathlib.Core.Logic.{◌⊎◌, inl, inr, ⊎_elim}
use mathlib.Core.List.{List}
use Prim.Native.Nat.{ℕ, ◌+◌, ◌-◌, ◌*◌, ◌%◌, ◌^◌, ◌≤◌, ◌<◌}
use native.Mathlib.Nat.{lt_of_not-le}
use native.Mathlib.Decide.{dec_le}
use native.Mathlib.Omega.{arith}
use lib.ListN.{length, get_or}
use lib.Pow.{ones_lt}
use Rattle.bits.specs.declared.Order.{Order}
use Rattle.bits.specs.Container.{container, bit}
use Rattle.layout.specs.declared.Layout.{Layout}
use Rattle.number.specs.Place.{place}
use Rattle.number.proofs.RoundTrip.{stored_length}
use Rattle.datatype.specs.Datatype.{Leaf, layout_of, leaf_size}
use Rattle.datatype.specs.WellFormed.{WellFormedLeaf}
use Rattle.datatype.proofs.Ways.{valid}
use Rattle.masks.specs.Mask.{pads_kept, marked}
use Rattle.masks.specs.Says.{byte_of}
use Rattle.masks.proofs.Bits.{bit_ones, kept_below, kept_inside, kept_above, LiesAt, lies_at, place_bit, stored_apart, stored_bytes, stored_bit}

-- bit q of byte j is a significant bit of the leaf x that starts at byte a
pub record BitOf (x : Leaf) (a j q : ℕ) : Type 0 where
  pub at : ℕ
  pub from_offset : (layout_of x).offset.0 ≤ at
  pub within_precision : at < (layout_of x).offset.0 + (layout_of x).precision
  pub byte : j ≡ a + byte_of (layout_of x).order (leaf_size x) at
  pub bit : q ≡ at % 8

module _ (x : Leaf) (f : WellFormedLeaf x) (a : ℕ) (m : List ℕ) (fits : a + leaf_size x ≤ length m) (hb : (j : ℕ) → get_or m j 0 < 256) where
  abbrev o : ℕ
  o = (layout_of x).offset.0

  abbrev p : ℕ
  p = (layout_of x).precision

  abbrev order : Order
  order = (layout_of x).order

  abbrev l : Layout
  l = pads_kept (layout_of x)

  abbrev g : ℕ
  g = container order (place l a m)

  pub marked_length : length (marked x a m) ≡ length m
  marked_length = stored_length l a (2 ^ p - 1) m fits

  pub marked_bytes : (j : ℕ) → get_or (marked x a m) j 0 < 256
  marked_bytes = stored_bytes l a (2 ^ p - 1) m fits hb

  -- a significant bit is set
  marked_sets_at : (k : ℕ) → o ≤ k → k < o + p → bit (k % 8) (get_or (marked x a m) (a + byte_of order (leaf_size x) k) 0) ≡ 1
  marked_sets_at k h t =
      stored_bit l a (2 ^ p - 1) m fits hb k (omega (arith, (valid x f).inside))
      ∙ kept_inside o p g (2 ^ p - 1) (ones_lt p) k h t
      ∙ bit_ones p (k - o) (omega arith)

  -- and every other bit of its bytes stays
  marked_keeps_at : (k : ℕ) → k < 8 * leaf_size x → (k < o) ⊎ (o + p ≤ k)
      → bit (k % 8) (get_or (marked x a m) (a + byte_of order (leaf_size x) k) 0) ≡ bit (k % 8) (get_or m (a + byte_of order (leaf_size x) k) 0)
  marked_keeps_at k h t =
      stored_bit l a (2 ^ p - 1) m fits hb k h
      ∙ ⊎_elim (λ (u : k < o). kept_below o p g (2 ^ p - 1) k u) (λ (u : o + p ≤ k). kept_above o p g (2 ^ p - 1) (ones_lt p) k u) t
      ∙ place_bit order m a (leaf_size x) fits hb k h

  pub marked_sets : (j q : ℕ) → BitOf x a j q → bit q (get_or (marked x a m) j 0) ≡ 1
  marked_sets j q b =
      ap₂ (λ (k i : ℕ). bit k (get_or (marked x a m) i 0)) b.bit b.byte ∙ marked_sets_at b.at b.from_offset b.within_precision

  -- a bit is a significant one of the leaf, or stays
  pub marked_cases : (j q : ℕ) → q < 8 → BitOf x a j q ⊎ (bit q (get_or (marked x a m) j 0) ≡ bit q (get_or m j 0))
  marked_cases j q h = at (dec_le a j) (dec_le (a + leaf_size x) j)
    where
      stays : a ≤ j → (c : LiesAt order (leaf_size x) (j - a) q) → (c.at < o) ⊎ (o + p ≤ c.at) → bit q (get_or (marked x a m) j 0) ≡ bit q (get_or m j 0)
      stays t c out =
          let i : a + byte_of order (leaf_size x) c.at ≡ j = omega (arith, c.byte) in
          ap₂ (λ (k b : ℕ). bit k (get_or (marked x a m) b 0)) (sym c.bit) (sym i)
          ∙ marked_keeps_at c.at c.inside out
          ∙ ap₂ (λ (k b : ℕ). bit k (get_or m b 0)) c.bit i

      inside : a ≤ j → (c : LiesAt order (leaf_size x) (j - a) q) → Dec (o ≤ c.at) → Dec (o + p ≤ c.at)
          → BitOf x a j q ⊎ (bit q (get_or (marked x a m) j 0) ≡ bit q (get_or m j 0))
      inside t c (no u) v = inr (stays t c (inl (lt_of_not-le u)))
      inside t c (yes u) (yes v) = inr (stays t c (inr v))
      inside t c (yes u) (no v) =
          inl (record { at = c.at; from_offset = u; within_precision = lt_of_not-le v; byte = omega (arith, c.byte); bit = sym c.bit })

      at : Dec (a ≤ j) → Dec (a + leaf_size x ≤ j) → BitOf x a j q ⊎ (bit q (get_or (marked x a m) j 0) ≡ bit q (get_or m j 0))
      at (no t) u = inr (ap (bit q) (stored_apart l a (2 ^ p - 1) m fits j (inl (lt_of_not-le t))))
      at (yes t) (yes u) = inr (ap (bit q) (stored_apart l a (2 ^ p - 1) m fits j (inr u)))
      at (yes t) (no u) =
          let c = lies_at order (leaf_size x) (j - a) q (omega (arith, lt_of_not-le u)) h in
          inside t c (dec_le o c.at) (dec_le (o + p) c.at)

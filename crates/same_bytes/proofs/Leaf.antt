-- A leaf that stays as it is: what is written is the bytes that were read, and nothing is raised. Assumes nothing.
use mathlib.Core.Path.{◌≡◌, refl, sym, ap, ap₂, ◌∙◌}
use mathlib.Core.Bool.{Bool}
use mathlib.Core.List.{List}
use Prim.Native.Nat.{ℕ, ◌+◌, ◌*◌, ◌%◌, ◌^◌, ◌≤◌, ◌<◌}
use native.Mathlib.Nat.{div-one, mod-one, mod-eq_of_lt}
use native.Mathlib.Omega.{arith}
use lib.IntN.{ℤ}
use lib.ListN.{length, take, drop, length-drop}
use lib.Pow.{low}
use lib.Seq.{paste, length-take-le}
use Rattle.bits.specs.declared.Order.{Order}
use Rattle.bits.specs.Container.{container, contained}
use Rattle.bits.proofs.Eight.{Bytes, bytes_take, bytes_drop, place_bound}
use Rattle.layout.specs.declared.Pad.{Pad}
use Rattle.layout.specs.declared.Pad.TheVariants.{Zero, One, Keep}
use Rattle.layout.specs.declared.Layout.{Layout}
use Rattle.number.specs.declared.Fitted.{Fitted}
use Rattle.number.specs.Number.{number_at, number_given, fitted_to, fitted}
use Rattle.number.specs.Place.{padded, filled, place, raw_at, stored}
use Rattle.number.proofs.RoundTrip.{read_fits}
use Rattle.table.specs.Table.{layout_at, order_of, flag_of}
use Rattle.plans.specs.PlanWords.{Pair, pair_becomes}
use Rattle.plans.proofs.LeafSteps.{number_becomes, pair_valid}
use Rattle.same_bytes.specs.Same.{Fills, Stays}
use Rattle.same_bytes.proofs.Digits.{bytes_same}

-- ---- layouts whose numbers have all bits of n bytes

pub record Whole (l : Layout) (n : ℕ) : Type 0 where
  pub size : l.size.0 ≡ n
  pub lowest : l.offset.0 ≡ 0
  pub whole : l.precision ≡ 8 * n

no_pad : (k : Pad) (g : ℕ) → padded k 0 (g % 2 ^ 0) ≡ 0
no_pad Zero g = refl
no_pad One g = refl
no_pad Keep g = mod-one g

-- what is written ends in the number, whatever stood there
filled_low : (m : Layout) (n g r : ℕ) → Whole m n → r < 2 ^ (8 * n) → filled m g r % 2 ^ (8 * n) ≡ r
filled_low m n g r h small =
    let z : 0 + 8 * n ≡ 8 * n = omega arith in
    let one : r * 2 ^ 0 + 0 ≡ r = omega arith in
    rw (h.lowest, h.whole, h.size, no_pad m.lsb g, z, one) (low _ (8 * n) small)

-- the number is the container
raw_whole : (l : Layout) (n a : ℕ) (r : List ℕ) → Whole l n → a + n ≤ length r → Bytes r → raw_at l a r ≡ container l.order (take n (drop a r))
raw_whole l n a r h room hb =
    rw (h.lowest, h.whole, h.size, div-one (container l.order (take n (drop a r)))) (mod-eq_of_lt (place_bound l.order r a n room hb))

-- its bytes in the place of the destination's
pub whole_stored : (m : Layout) (n a b : ℕ) (r x : List ℕ) → Whole m n → a + n ≤ length r → Bytes r
    → stored m b (container m.order (take n (drop a r))) x ≡ paste x b (take n (drop a r)) n
whole_stored m n a b r x h room hb =
    let c : ℕ = container m.order (take n (drop a r)) in
    let g : ℕ = container m.order (place m b x) in
    let bytes : contained m.order n (filled m g c) ≡ take n (drop a r) =
    bytes_same m.order n (filled m g c) (take n (drop a r)) (bytes_take n (drop a r) (bytes_drop a r hb)) (length-take-le n (drop a r) (rw length-drop (omega arith)))
    (filled_low m n g c h (place_bound m.order r a n room hb)) in
    ap (λ (k : ℕ). paste x b (contained m.order k (filled m g c)) k) h.size ∙ ap (λ (y : List ℕ). paste x b y n) bytes

-- ---- two types between which a number stays as it is

layout_whole : (w : List ℕ) (k n : ℕ) → Fills w k n → Whole (layout_at w k) n
unfolding layout_at
layout_whole w k n h = record { size = h.size; lowest = h.lowest; whole = h.whole }

module _ {ws wd : List ℕ} {f g n : ℕ} (t : Stays ws f wd g n) where
  same_order : (layout_at ws f).order ≡ (layout_at wd g).order
  unfolding layout_at
  same_order = ap order_of t.order

  same_sign : (layout_at ws f).signed ≡ (layout_at wd g).signed
  unfolding layout_at
  same_sign = ap flag_of t.sign

  same_fit : (z : ℤ) → fitted (layout_at wd g) z ≡ fitted (layout_at ws f) z
  same_fit z =
      let p : (layout_at wd g).precision ≡ (layout_at ws f).precision = (layout_whole wd g n t.destination).whole ∙ sym (layout_whole ws f n t.source).whole in
      ap₂ (λ (s : Bool) (p : ℕ). fitted_to s p z) (sym same_sign) p

  module _ {words : List ℕ} {place : ℕ} (q : Pair f g ws wd words place) (a : ℕ) (r : List ℕ) where
    made : fitted (layout_at wd g) (number_at (layout_at ws f) a r) ≡ record { raw = raw_at (layout_at ws f) a r; kind = 0; given = number_given (number_at (layout_at ws f) a r) }
    made = same_fit (number_at (layout_at ws f) a r) ∙ read_fits (layout_at ws f) a r (pair_valid q).0

    -- nothing is raised
    pub stays_kind : (pair_becomes q a r).kind ≡ 0
    stays_kind = sym (number_becomes q t.plain t.alike a r).1 ∙ ap (λ (y : Fitted). y.kind) made

    -- what is written is what was read
    pub stays_stored : (b : ℕ) (x : List ℕ) → a + n ≤ length r → Bytes r → stored (layout_at wd g) b (pair_becomes q a r).raw x ≡ paste x b (take n (drop a r)) n
    stays_stored b x room hb =
        let raw : (pair_becomes q a r).raw ≡ container (layout_at wd g).order (take n (drop a r)) =
        sym (number_becomes q t.plain t.alike a r).0 ∙ ap (λ (y : Fitted). y.raw) made
        ∙ raw_whole (layout_at ws f) n a r (layout_whole ws f n t.source) room hb
        ∙ ap (λ (o : Order). container o (take n (drop a r))) same_order in
        ap (λ (y : ℕ). stored (layout_at wd g) b y x) raw ∙ whole_stored (layout_at wd g) n a b r x (layout_whole wd g n t.destination) room hb

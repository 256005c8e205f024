-- A leaf that is easy: what its words make of its number. Assumes nothing.
use mathlib.Core.Path.{◌≡◌, refl, sym, ap, subst, ◌∙◌}
use mathlib.Core.Bool.{Bool, true, false, ◌&&◌, false≢true}
use mathlib.Core.List.{List}
use Prim.Native.Nat.{ℕ, ◌+◌, ◌-◌, ◌*◌, ◌/◌, ◌^◌, ◌≤◌, ◌<◌}
use native.Mathlib.Nat.{lt_of_lt_of_le}
use native.Mathlib.Omega.{arith}
use lib.Dec.{eqb, leb, ltb}
use lib.ListN.{length, get_or, take, drop}
use lib.Pow.{pow_mono}
use lib.Seq.{paste}
use borrow.Author.Tests.{ltb-true, leb-true, eqb-true}
use Rattle.bits.specs.declared.Order.{Order}
use Rattle.bits.specs.declared.Order.TheVariants.{LE, BE}
use Rattle.bits.specs.Container.{container, contained, field}
use Rattle.bits.proofs.Eight.{Bytes, le_window, be_window, place_bound}
use Rattle.layout.specs.declared.Layout.{Layout}
use Rattle.layout.specs.Layout.{Valid}
use Rattle.number.specs.declared.Fitted.{Fitted}
use Rattle.number.specs.Number.{valued, number_at, number_given, fitted_to, fitted}
use Rattle.number.specs.Place.{raw_at, filled, stored}
use Rattle.number.proofs.Range.{signed_inside, unsigned_inside}
use Rattle.number.proofs.Widen.{widen_lt, widen_signed}
use Rattle.number.proofs.Pads.{whole_filled}
use Rattle.table.specs.Table.{order_of}
use Rattle.table.specs.Words.{Reads}
use Rattle.table.specs.Records.{order_code}
use Rattle.entry_code.specs.Code.{route_in, shift_in, precision_in, size_in, order_in}
use Rattle.easy.specs.Easy.{inside, easy, shift_of, carry_of}
use Rattle.easy.specs.Words.{EasyBy, EasyAt}

-- ---- the number

-- p bits in q bits, where every number of p bits is one of q bits
abbrev pub carried : Bool → ℕ → ℕ → ℕ → ℕ
carried s p q raw = raw + carry_of s p q * (raw / 2 ^ (p - 1))

pub carries : (s t : Bool) (p q raw : ℕ) → inside s t p q ≡ true → 1 ≤ p → raw < 2 ^ p
    → (◌≡◌ {A = Fitted} (record { raw = carried s p q raw; kind = 0; given = number_given (valued s p raw) }) (fitted_to t q (valued s p raw))) × (carried s p q raw < 2 ^ q)
carries false false p q raw h some small =
    let k : 2 ^ p ≤ 2 ^ q = pow_mono (leb-true p q h) in
    let e : carried false p q raw ≡ raw = omega arith in
    rw e (sym (unsigned_inside q raw (omega arith)), omega arith)
carries false true p q raw h some small =
    let k : 2 ^ p ≤ 2 ^ (q - 1) = pow_mono (omega (arith, ltb-true p q h)) in
    let j : 2 ^ p ≤ 2 ^ q = pow_mono (omega (arith, ltb-true p q h)) in
    let e : carried false p q raw ≡ raw = omega arith in
    rw e (sym (signed_inside q raw (omega arith)), omega arith)
carries true false p q raw h some small = absurd (false≢true h)
carries true true p q raw h some small = (widen_signed p q raw some (leb-true p q h) small, widen_lt p q raw some (leb-true p q h) small)

-- ---- what is written

-- a layout without pads takes a number with no look at the background
pub stored_as : (m : Layout) → m.offset.0 ≡ 0 → m.precision ≡ 8 * m.size.0 → (b raw : ℕ) (dst : List ℕ) → b + m.size.0 ≤ length dst → Bytes dst
    → paste dst b (contained m.order m.size.0 raw) m.size.0 ≡ stored m b raw dst
stored_as m lowest whole b raw dst room hb =
    ap (λ (x : ℕ). paste dst b (contained m.order m.size.0 x) m.size.0) (sym (whole_filled m _ raw lowest whole (place_bound m.order dst b m.size.0 room hb)))

-- ---- what is told of a pair

-- three tests that all passed
pub three : (a b c : Bool) → (a && (b && c)) ≡ true → (a ≡ true) × (b ≡ true) × (c ≡ true)
three true true c h = (refl, refl, h)
three true false c h = absurd (false≢true h)
three false b c h = absurd (false≢true h)

module _ (l m : Layout) (is : easy l m ≡ true) where
  tests : (eqb m.offset.0 0 ≡ true) × (eqb m.precision (8 * m.size.0) ≡ true) × (inside l.signed m.signed l.precision m.precision ≡ true)
  tests = three (eqb m.offset.0 0) (eqb m.precision (8 * m.size.0)) (inside l.signed m.signed l.precision m.precision) is

  lowest : m.offset.0 ≡ 0
  lowest = eqb-true m.offset.0 0 tests.0

  whole : m.precision ≡ 8 * m.size.0
  whole = eqb-true m.precision (8 * m.size.0) tests.1

  -- it raises nothing, and its bits are the carried ones
  pub number : Valid l → (raw : ℕ) → raw < 2 ^ l.precision
      → (◌≡◌ {A = Fitted} (record { raw = carried l.signed l.precision m.precision raw; kind = 0; given = number_given (valued l.signed l.precision raw) })
      (fitted m (valued l.signed l.precision raw)))
      × (carried l.signed l.precision m.precision raw < 2 ^ (8 * m.size.0))
  number v raw small =
      let c = carries l.signed m.signed l.precision m.precision raw tests.2 v.some small in
      (c.0, subst (λ (n : ℕ). carried l.signed l.precision m.precision raw < 2 ^ n) whole c.1)

  -- it is written with no look at the background
  stored_whole : (b raw : ℕ) (dst : List ℕ) → b + m.size.0 ≤ length dst → Bytes dst
      → paste dst b (contained m.order m.size.0 raw) m.size.0 ≡ stored m b raw dst
  stored_whole b raw dst room hb =
      stored_as m lowest whole b raw dst room hb

-- ---- what is read

pub window_is : (o : Order) (n off p a : ℕ) (src : List ℕ) → a + 8 ≤ length src → n ≤ 8 → off + p ≤ 8 * n → Bytes src
    → field (shift_of o n off) p (container (order_of (1 + order_code o - 1)) (take 8 (drop a src))) ≡ field off p (container o (take n (drop a src)))
window_is LE n off p a src room most fits hb = le_window src a n off p room most fits hb
window_is BE n off p a src room most fits hb = be_window src a n off p room most fits hb

pub shift_small : (o : Order) (n off p : ℕ) → n ≤ 8 → 1 ≤ p → off + p ≤ 8 * n → shift_of o n off < 64
shift_small LE n off p most some fits = omega arith
shift_small BE n off p most some fits = omega arith

pub order_small : (o : Order) → order_code o ≤ 1
order_small LE = omega arith
order_small BE = omega arith

pub order_back : (o : Order) → order_of (order_code o) ≡ o
order_back LE = refl
order_back BE = refl

-- ---- a leaf by its numbers

pub numbers_fit : (l m : Layout) {o s p c n r : ℕ} → EasyBy l m o s p c n r → (1 ≤ o) × (s < 64) × (1 ≤ p) × (p ≤ 64)
numbers_fit l m e =
    rw (e.order, e.shift, e.precision)
    (omega arith, shift_small l.order l.size.0 l.offset.0 l.precision e.valid.sized e.valid.some e.valid.inside, e.valid.some, e.valid.most)

module _ (l m : Layout) {o s p c n r : ℕ} (e : EasyBy l m o s p c n r) (src : List ℕ) (a : ℕ) (room : a + 8 ≤ length src) (hb : Bytes src)
    {raw : ℕ} (is : raw ≡ field s p (container (order_of (o - 1)) (take 8 (drop a src)))) where
  v : Valid l
  v = e.valid

  pub raw_is : raw ≡ raw_at l a src
  raw_is =
      is ∙ rw (e.order, e.shift, e.precision)
      (window_is l.order l.size.0 l.offset.0 l.precision a src room v.sized v.inside hb)

  module _ (small : raw < 2 ^ p) where
    wide_is : raw + c * (raw / 2 ^ (p - 1)) ≡ carried l.signed l.precision m.precision raw
    wide_is = rw (e.carry, e.precision)

    raw_small : raw < 2 ^ l.precision
    raw_small = rw (← e.precision) small

    pub wide_small : raw + c * (raw / 2 ^ (p - 1)) < 2 ^ (8 * m.size.0)
    wide_small = rw wide_is (number l m e.is v raw raw_small).1

    pub wide_fits : raw + c * (raw / 2 ^ (p - 1)) < 18446744073709551616
    wide_fits = lt_of_lt_of_le wide_small (pow_mono {j = 64} (omega (arith, e.most)))

    pub leaf_is : (b : ℕ) (dst : List ℕ) {out : List ℕ} → b + m.size.0 ≤ length dst → Bytes dst
        → out ≡ paste dst b (contained (order_of r) n (raw + c * (raw / 2 ^ (p - 1)))) n
        → out ≡ stored m b (fitted m (number_at l a src)).raw dst
    leaf_is b dst fits hd h =
        let wide : ℕ = carried l.signed l.precision m.precision raw in
        let f : wide ≡ (fitted m (number_at l a src)).raw = ap (λ (x : Fitted). x.raw) (number l m e.is v raw raw_small).0 ∙ ap (λ (x : ℕ). (fitted m (valued l.signed l.precision x)).raw) raw_is in
        h ∙ rw (wide_is, e.size, e.destination_order, order_back m.order) (stored_whole l m e.is b wide dst fits hd)
        ∙ ap (λ (x : ℕ). stored m b x dst) f

-- the numbers that were read where the words stand
pub numbers_read : (l m : Layout) (w : List ℕ) (k : ℕ) → EasyAt l m w k → {x o s p c n r : ℕ} → Reads (get_or w k 0) x
    → o ≡ route_in x → s ≡ shift_in x → p ≡ precision_in x → c ≡ get_or w (k + 1) 0 + get_or w (k + 2) 0 * 4294967296 → n ≡ size_in x → r ≡ order_in x → EasyBy l m o s p c n r
numbers_read l m w k e rx ro rs rp rc rn rr = rw (ro, rs, rp, rc, rn, rr, rx.is) e

-- A leaf on its way to an enum, by the packed word of its entry. Assumes nothing.
use mathlib.Core.Path.{◌≡◌, refl, ◌∙◌}
use mathlib.Core.List.{List}
use Prim.Native.Nat.{ℕ, ◌+◌, ◌-◌, ◌^◌, ◌≤◌, ◌<◌}
use native.Mathlib.Omega.{arith}
use lib.ListN.{length, get_or, take, drop}
use lib.Seq.{paste}
use Rattle.bits.specs.declared.Order.{Order}
use Rattle.bits.specs.Container.{container, contained, field}
use Rattle.bits.proofs.Eight.{Bytes}
use Rattle.layout.specs.declared.Layout.{Layout}
use Rattle.layout.specs.Layout.{Valid}
use Rattle.number.specs.Place.{raw_at, stored}
use Rattle.table.specs.Table.{order_of, layout_at}
use Rattle.table.specs.Words.{Reads}
use Rattle.table.specs.Records.{order_code}
use Rattle.entry_code.specs.Code.{route_in, shift_in, precision_in, size_in, order_in, bits_in}
use Rattle.easy.proofs.Easy.{stored_as, window_is, shift_small, order_back}
use Rattle.plans.specs.PlanWords.{span_code, EnumAt, Pair, pair_becomes}
use Rattle.plans.specs.declared.Coded.{Coded}
use Rattle.plans.specs.LeafSteps.{code_bits, EnumReady, EnumHere}
use Rattle.plans.proofs.LeafSteps.{spanned, enum_becomes, leaf_stored}

module _ (n m b a s d : ℕ) (ws wd words : List ℕ) (k : ℕ) (h : EnumHere n m b a s d ws wd words k) {x : ℕ} (rx : Reads (get_or words k 0) x) where
  at : EnumAt (layout_at ws s) (layout_at wd d) words k
  at = h.pair.entry.fast h.enum h.fast

  v : Valid (layout_at ws s)
  v = at.source

  -- the numbers that the steps ask for
  pub route_fits : {o : ℕ} → o ≡ route_in x → (4 ≤ o) × (o < 6)
  route_fits e = rw (e, rx.is) (h.enum, h.fast)

  pub window_fits : {o t p : ℕ} → o ≡ route_in x → t ≡ shift_in x → p ≡ precision_in x → (a + 8 ≤ n) × (1 ≤ o + 1 - 4) × (t < 64) × (p ≤ 64)
  window_fits eo et ep =
      rw (et, ep, rx.is, at.shift, at.precision)
      (h.read, omega (arith, route_fits eo), shift_small (layout_at ws s).order (layout_at ws s).size.0 (layout_at ws s).offset.0 (layout_at ws s).precision v.sized v.some v.inside, v.most)

  pub bits_fit : {q : ℕ} → q ≡ bits_in x → q ≤ 64
  bits_fit e = rw (e, rx.is, at.bits) at.destination.most

  pub size_fits : {z : ℕ} → z ≡ size_in x → (z ≤ 8) × (b + z ≤ m)
  size_fits e = rw (e, rx.is, at.size) (at.destination.sized, h.write)

  ready : EnumReady n a s d ws wd words k
  ready = record { pair = h.pair; read = omega (arith, h.read, v.sized); room = h.room; enum = h.enum }

module _ (src dst : List ℕ) (b a s d : ℕ) (ws wd words : List ℕ) (k : ℕ) (h : EnumHere (length src) (length dst) b a s d ws wd words k) {x : ℕ} (rx : Reads (get_or words k 0) x)
    (hb : Bytes src) {o t p raw : ℕ} (eo : o ≡ route_in x) (et : t ≡ shift_in x) (ep : p ≡ precision_in x)
    (eq : raw ≡ field t p (container (order_of (o + 1 - 4 - 1)) (take 8 (drop a src)))) (low : raw < 2 ^ p) where
  here : EnumAt (layout_at ws s) (layout_at wd d) words k
  here = at (length src) (length dst) b a s d ws wd words k h rx

  raw_here : raw ≡ raw_at (layout_at ws s) a src
  raw_here =
      let e : 4 + order_code (layout_at ws s).order + 1 - 4 - 1 ≡ 1 + order_code (layout_at ws s).order - 1 = omega arith in
      eq ∙ rw (eo, et, ep, rx.is, here.order, here.shift, here.precision, e)
      (window_is (layout_at ws s).order (layout_at ws s).size.0 (layout_at ws s).offset.0 (layout_at ws s).precision a src h.read here.source.sized here.source.inside hb)

  raw_low : raw < 2 ^ (layout_at ws s).precision
  raw_low = rw (← here.precision, ← rx.is, ← ep) low

  pub fast_done : {code q z r : ℕ} {order : Order} {f : Coded} {out : List ℕ} → code ≡ span_code words k raw → q ≡ bits_in x → f ≡ code_bits wd q code → Bytes dst → z ≡ size_in x → r ≡ order_in x → order ≡ order_of r
      → out ≡ paste dst b (contained order z f.raw) z
      → (p : Pair s d ws wd words k) → (f.kind ≡ (pair_becomes p a src).kind) × (out ≡ stored (layout_at wd d) b (pair_becomes p a src).raw dst)
  fast_done {f = f} {out = out} hc eb hf hd ez er ew ho =
      leaf_stored src dst out a b s d ws wd words k
      (enum_becomes src a s d ws wd words k (ready (length src) (length dst) b a s d ws wd words k h rx)
      (λ p. spanned s d ws wd words k raw rx eo raw_low h.enum (omega (arith, route_fits (length src) (length dst) b a s d ws wd words k h rx eo)) hc p ∙ rw raw_here) (eb ∙ rw (rx.is, here.bits)) hf)
      refl
      (ho ∙ rw (ew, ez, er, rx.is, here.size, here.destination_order, order_back (layout_at wd d).order) (stored_as (layout_at wd d) here.lowest here.whole b f.raw dst h.write hd))

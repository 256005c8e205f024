-- A leaf on its way between a real and another leaf, by the words of its entry. Assumes nothing.
use mathlib.Core.Path.{◌≡◌, refl, ap, ◌∙◌}
use mathlib.Core.Bool.{Bool, true, false, cond}
use mathlib.Core.List.{List}
use Prim.Native.Nat.{ℕ, ◌+◌, ◌*◌, ◌-◌, ◌^◌, ◌≤◌, ◌<◌}
use native.Mathlib.Omega.{arith}
use lib.ListN.{length, get_or, take, drop}
use lib.Seq.{paste}
use Rattle.bits.specs.declared.Order.{Order}
use Rattle.bits.specs.Container.{container, contained, field}
use Rattle.bits.proofs.Eight.{Bytes}
use Rattle.layout.specs.declared.Layout.{Layout}
use Rattle.number.specs.declared.Fitted.{Fitted}
use Rattle.number.specs.Number.{valued}
use Rattle.number.specs.Place.{raw_at, stored}
use Rattle.reals.specs.Convert.{int_to_real, real_to_int_of}
use Rattle.table.specs.Table.{order_of, flag_of}
use Rattle.table.specs.Words.{Reads}
use Rattle.entry_code.specs.Code.{shift_in, precision_in, size_in, order_in, bits_in}
use Rattle.easy.proofs.Easy.{stored_as, window_is, shift_small, order_back}
use Rattle.plans.specs.PlanWords.{RealAt}
use Rattle.plans.specs.LeafSteps.{real_of}

module _ (l m : Layout) (real : Bool) (words : List ℕ) (k : ℕ) (e : RealAt l m real words k) {x : ℕ} (rx : Reads (get_or words k 0) x) where
  -- the numbers that the steps ask for
  pub window_fits : (n a : ℕ) {o t p : ℕ} → a + 8 ≤ n → Reads (get_or words (k + 1) 0) o → t ≡ shift_in x → p ≡ precision_in x → (a + 8 ≤ n) × (1 ≤ o) × (t < 64) × (p ≤ 64)
  window_fits n a room ro et ep =
      rw (et, ep, rx.is, e.shift, e.precision)
      (room, omega (arith, ro.is, e.order), shift_small l.order l.size.0 l.offset.0 l.precision e.source.sized e.source.some e.source.inside, e.source.most)

  pub bits_fit : {p q raw : ℕ} → p ≡ precision_in x → q ≡ bits_in x → raw < 2 ^ p → (1 ≤ p) × (p ≤ 64) × (raw < 2 ^ p) × (1 ≤ q) × (q ≤ 64)
  bits_fit {p} {q} ep eq low =
      let is : p ≡ l.precision = ep ∙ ap precision_in rx.is ∙ e.precision in
      let are : q ≡ m.precision = eq ∙ ap bits_in rx.is ∙ e.bits in
      (omega (arith, is, e.source.some), omega (arith, is, e.source.most), low, omega (arith, are, e.destination.some), omega (arith, are, e.destination.most))

  pub size_fits : (b n : ℕ) {z : ℕ} → b + m.size.0 ≤ n → z ≡ size_in x → (z ≤ 8) × (b + z ≤ n)
  size_fits b n fits ez = rw (ez, rx.is, e.size) (e.destination.sized, fits)

  -- what is read, and what it becomes
  pub fast_is : (src : List ℕ) (a : ℕ) → a + 8 ≤ length src → Bytes src → {o t p q raw u w : ℕ} {from sign : Bool} {f : Fitted} → Reads (get_or words (k + 1) 0) o → t ≡ shift_in x → p ≡ precision_in x
      → raw ≡ field t p (container (order_of (o - 1)) (take 8 (drop a src))) → Reads (get_or words (k + 2) 0) u → from ≡ flag_of u → Reads (get_or words (k + 3) 0) w → sign ≡ flag_of w → q ≡ bits_in x
      → f ≡ cond from (real_to_int_of sign q raw) (int_to_real (valued sign p raw)) → f ≡ real_of real l m a src
  fast_is src a room hb {p = p} {q = q} {raw = raw} {from = from} {sign = sign} ro et ep er ru ef rv es eq h =
      let is : p ≡ l.precision = ep ∙ ap precision_in rx.is ∙ e.precision in
      let are : q ≡ m.precision = eq ∙ ap bits_in rx.is ∙ e.bits in
      let source : from ≡ real = ef ∙ ap flag_of ru.is ∙ e.from in
      let signed : sign ≡ cond real m.signed l.signed = es ∙ ap flag_of rv.is ∙ e.sign in
      let read : raw ≡ raw_at l a src =
      er ∙ rw (et, ep, rx.is, ro.is, e.order, e.shift, e.precision) (window_is l.order l.size.0 l.offset.0 l.precision a src room e.source.sized e.source.inside hb)
      in
      h ∙ rw (source, signed, is, are, read) (go real)
    where
      go : (b : Bool) → cond b (real_to_int_of (cond b m.signed l.signed) m.precision (raw_at l a src)) (int_to_real (valued (cond b m.signed l.signed) l.precision (raw_at l a src)))
          ≡ real_of b l m a src
      go true = refl
      go false = refl

  -- where it is written
  pub fast_stored : (dst out : List ℕ) (b raw : ℕ) → b + m.size.0 ≤ length dst → Bytes dst → {z r : ℕ} {order : Order} → z ≡ size_in x → r ≡ order_in x → order ≡ order_of r
      → out ≡ paste dst b (contained order z raw) z → out ≡ stored m b raw dst
  fast_stored dst out b raw fits hd ez er ew ho =
      ho ∙ rw (ew, ez, er, rx.is, e.size, e.destination_order, order_back m.order) (stored_as m e.lowest e.whole b raw dst fits hd)

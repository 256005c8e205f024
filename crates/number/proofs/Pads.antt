-- What a store leaves: of a layout without pads, and of any. Assumes nothing.
use mathlib.Core.Path.{◌≡◌, refl, sym, ap, ◌∙◌}
use mathlib.Core.List.{List}
use Prim.Native.Nat.{ℕ, ◌+◌, ◌-◌, ◌*◌, ◌^◌, ◌≤◌, ◌<◌}
use native.Mathlib.Nat.{div-eq_of_lt, mod-one}
use native.Mathlib.Omega.{arith}
use lib.ListN.{length}
use lib.Seq.{paste}
use Rattle.bits.specs.Container.{container, contained}
use Rattle.bits.proofs.Eight.{Bytes, place_bound}
use Rattle.layout.specs.declared.Pad.{Pad}
use Rattle.layout.specs.declared.Pad.TheVariants.{Zero, One, Keep}
use Rattle.layout.specs.declared.Layout.{Layout}
use Rattle.number.specs.Place.{padded, filled, place, stored}

-- a layout without pads: the container is the number
no_pad : (k : Pad) → padded k 0 0 ≡ 0
no_pad Zero = refl
no_pad One = refl
no_pad Keep = refl

pub whole_filled : (l : Layout) (g r : ℕ) → l.offset.0 ≡ 0 → l.precision ≡ 8 * l.size.0 → g < 2 ^ (8 * l.size.0) → filled l g r ≡ r
whole_filled l g r eo ep h =
    let w : 8 * l.size.0 - (0 + 8 * l.size.0) ≡ 0 = omega arith in
    let z : 0 + 8 * l.size.0 ≡ 8 * l.size.0 = omega arith in
    rw (eo, ep, w, z, div-eq_of_lt h, mod-one g, no_pad l.msb, no_pad l.lsb) (omega arith)

pub stored_whole : (l : Layout) (i r : ℕ) (s t : List ℕ) → l.offset.0 ≡ 0 → l.precision ≡ 8 * l.size.0 → i + l.size.0 ≤ length s → Bytes s
    → t ≡ paste s i (contained l.order l.size.0 r) l.size.0 → t ≡ stored l i r s
stored_whole l i r s t eo ep room hb e =
    e ∙ ap (λ (x : ℕ). paste s i (contained l.order l.size.0 x) l.size.0)
    (sym (whole_filled l (container l.order (place l i s)) r eo ep (place_bound l.order s i l.size.0 room hb)))

pub stored_filled : (l : Layout) (i r g c : ℕ) (s t : List ℕ) → g ≡ container l.order (place l i s) → c ≡ filled l g r
    → t ≡ paste s i (contained l.order l.size.0 c) l.size.0 → t ≡ stored l i r s
stored_filled l i r g c s t eg ec e =
    e ∙ ap (λ (x : ℕ). paste s i (contained l.order l.size.0 x) l.size.0) (ec ∙ ap (λ (x : ℕ). filled l x r) eg)

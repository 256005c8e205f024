-- The container by words is that of document 01. Assumes nothing.
use mathlib.Core.Path.{◌≡◌, refl, sym, ap, ap₂, ◌∙◌}
use Prim.Native.Nat.{ℕ, ◌+◌, ◌-◌, ◌*◌, ◌/◌, ◌%◌, ◌^◌, ◌≤◌, ◌<◌}
use native.Mathlib.Nat.{lt_of_lt_of_le, mod-lt, add-mul, mul_assoc}
use native.Mathlib.Omega.{arith}
use lib.Pow.{pow_pos, pow_mono, pow-add, split, high_ones, ones_lt, shr_lt, shr_mod}
use lib.Bits.{bit_and, and_block, and_mask, and_high, and_zero_r}
use Rattle.layout.specs.declared.Pad.{Pad}
use Rattle.layout.specs.declared.Pad.TheVariants.{Zero, One, Keep}
use Rattle.layout.specs.declared.Layout.{Layout}
use Rattle.layout.specs.Layout.{Valid}
use Rattle.number.specs.Place.{padded, filled}
use Rattle.number.proofs.Fields.{cat_within}
use Rattle.column_words.specs.Fill.{ones_in, kept_in, low_pad, high_pad, ones_of, keep_of, filled_by}

-- a mask in two parts that do not meet
and_apart : (e h m g : ℕ) → m < 2 ^ e → bit_and g (h * 2 ^ e + m) ≡ bit_and g (h * 2 ^ e) + bit_and g m
and_apart e h m g l =
    let a : ℕ = g / 2 ^ e in
    let r : ℕ = g % 2 ^ e in
    let lr : r < 2 ^ e = mod-lt g (pow_pos e) in
    let both : bit_and g (h * 2 ^ e + m) ≡ bit_and a h * 2 ^ e + bit_and r m = ap (λ (x : ℕ). bit_and x (h * 2 ^ e + m)) (sym (split g e)) ∙ and_block e a h r m lr l in
    let zero-up : h * 2 ^ e ≡ h * 2 ^ e + 0 = omega arith in
    let up : bit_and g (h * 2 ^ e) ≡ bit_and a h * 2 ^ e + bit_and r 0 = ap₂ bit_and (sym (split g e)) zero-up ∙ and_block e a h r 0 lr (pow_pos e) in
    let zero-low : m ≡ 0 * 2 ^ e + m = omega arith in
    let low : bit_and g m ≡ bit_and a 0 * 2 ^ e + bit_and r m = ap₂ bit_and (sym (split g e)) zero-low ∙ and_block e a 0 r m lr l in
    both ∙ sym (rw (up, low, and_zero_r r, and_zero_r a) (omega arith))

-- the pads above the number, w of them from bit e on
high_pads : (d : Pad) (w e g : ℕ) → g < 2 ^ (w + e) → padded d w (g / 2 ^ e) * 2 ^ e ≡ ones_in d (2 ^ (w + e) - 2 ^ e) + bit_and g (kept_in d (2 ^ (w + e) - 2 ^ e))
high_pads Zero w e g h = rw (and_zero_r g) (omega arith)
high_pads One w e g h = rw (and_zero_r g, high_ones w e) (omega arith)
high_pads Keep w e g h = rw (and_high g w e, shr_mod w e h) (omega arith)

-- the same over any background: what stands above its bytes is a number of times 2 ^ (w + e)
high_over : (d : Pad) (w e g : ℕ) → (k : ℕ) × (padded d w (g / 2 ^ e) * 2 ^ e ≡ k * 2 ^ (w + e) + (ones_in d (2 ^ (w + e) - 2 ^ e) + bit_and g (kept_in d (2 ^ (w + e) - 2 ^ e))))
high_over Zero w e g = (0, rw (and_zero_r g) (omega arith))
high_over One w e g = (0, rw (and_zero_r g, high_ones w e) (omega arith))
high_over Keep w e g =
    let k : ℕ = g / 2 ^ e / 2 ^ w in
    let r : ℕ = g / 2 ^ e % 2 ^ w in
    let sum : g / 2 ^ e * 2 ^ e ≡ k * 2 ^ w * 2 ^ e + r * 2 ^ e = ap (λ (x : ℕ). x * 2 ^ e) (sym (split (g / 2 ^ e) w)) ∙ add-mul (k * 2 ^ w) r (2 ^ e) in
    let up : k * 2 ^ w * 2 ^ e ≡ k * 2 ^ (w + e) = mul_assoc k (2 ^ w) (2 ^ e) ∙ ap (λ (x : ℕ). k * x) (sym (pow-add 2 w e)) in
    (k, rw (and_high g w e) (omega arith))

-- those below, o of them
low_pads : (d : Pad) (o g : ℕ) → padded d o (g % 2 ^ o) ≡ ones_in d (2 ^ o - 1) + bit_and g (kept_in d (2 ^ o - 1))
low_pads Zero o g = rw (and_zero_r g) refl
low_pads One o g = rw (and_zero_r g) (omega arith)
low_pads Keep o g = rw (and_mask g o) (omega arith)

-- a mask of pads above the number is a number of times 2 ^ e
kept_high : (d : Pad) (w e : ℕ) → kept_in d (2 ^ (w + e) - 2 ^ e) ≡ kept_in d (2 ^ w - 1) * 2 ^ e
kept_high Zero w e = omega arith
kept_high One w e = omega arith
kept_high Keep w e = high_ones w e

kept_low : (d : Pad) (o e : ℕ) → o ≤ e → kept_in d (2 ^ o - 1) < 2 ^ e
kept_low Zero o e h = pow_pos e
kept_low One o e h = pow_pos e
kept_low Keep o e h = lt_of_lt_of_le (ones_lt o) (pow_mono h)

module _ (l : Layout) (v : Valid l) where
  pub filled_words : (g r : ℕ) → g < 2 ^ (8 * l.size.0) → filled l g r ≡ filled_by l.offset.0 (ones_of l) (keep_of l) g r
  unfolding ones_of keep_of
  filled_words g r h =
      let o : ℕ = l.offset.0 in
      let e : ℕ = o + l.precision in
      let w : ℕ = 8 * l.size.0 - e in
      let n : w + e ≡ 8 * l.size.0 = omega (arith, v.inside) in
      let up : padded l.msb w (g / 2 ^ e) * 2 ^ e ≡ ones_in l.msb (high_pad l) + bit_and g (kept_in l.msb (high_pad l)) = rw n at (high_pads l.msb w e g (rw n h)) in
      let mask : kept_in l.msb (high_pad l) ≡ kept_in l.msb (2 ^ w - 1) * 2 ^ e = rw n at (kept_high l.msb w e) in
      let apart : bit_and g (kept_in l.msb (high_pad l) + kept_in l.lsb (low_pad l)) ≡ bit_and g (kept_in l.msb (high_pad l)) + bit_and g (kept_in l.lsb (low_pad l)) =
      rw mask (and_apart e (kept_in l.msb (2 ^ w - 1)) (kept_in l.lsb (low_pad l)) g (kept_low l.lsb o e (omega arith))) in
      rw (up, low_pads l.lsb o g, apart) (omega arith)

  -- over any background, up to what stands above its bytes
  pub filled_over : (g r : ℕ) → (k : ℕ) × (filled l g r ≡ k * 2 ^ (8 * l.size.0) + filled_by l.offset.0 (ones_of l) (keep_of l) g r)
  unfolding ones_of keep_of
  filled_over g r =
      let o : ℕ = l.offset.0 in
      let e : ℕ = o + l.precision in
      let w : ℕ = 8 * l.size.0 - e in
      let n : w + e ≡ 8 * l.size.0 = omega (arith, v.inside) in
      let over = high_over l.msb w e g in
      let up : padded l.msb w (g / 2 ^ e) * 2 ^ e ≡ over.0 * 2 ^ (8 * l.size.0) + (ones_in l.msb (high_pad l) + bit_and g (kept_in l.msb (high_pad l))) = rw n at over.1 in
      let mask : kept_in l.msb (high_pad l) ≡ kept_in l.msb (2 ^ w - 1) * 2 ^ e = rw n at (kept_high l.msb w e) in
      let apart : bit_and g (kept_in l.msb (high_pad l) + kept_in l.lsb (low_pad l)) ≡ bit_and g (kept_in l.msb (high_pad l)) + bit_and g (kept_in l.lsb (low_pad l)) =
      rw mask (and_apart e (kept_in l.msb (2 ^ w - 1)) (kept_in l.lsb (low_pad l)) g (kept_low l.lsb o e (omega arith))) in
      (over.0, rw (up, low_pads l.lsb o g, apart) (omega arith))

pads_lt : (d : Pad) (w g : ℕ) → g < 2 ^ w → padded d w g < 2 ^ w
pads_lt Zero w g h = pow_pos w
pads_lt One w g h = ones_lt w
pads_lt Keep w g h = h

-- it is no longer than its bytes
pub filled_lt : (l : Layout) (g r : ℕ) → Valid l → g < 2 ^ (8 * l.size.0) → r < 2 ^ l.precision → filled l g r < 2 ^ (8 * l.size.0)
filled_lt l g r v h k =
    let o : ℕ = l.offset.0 in
    let e : ℕ = o + l.precision in
    let w : ℕ = 8 * l.size.0 - e in
    let n : w + e ≡ 8 * l.size.0 = omega (arith, v.inside) in
    let up : g / 2 ^ e < 2 ^ w = shr_lt w e (rw n h) in
    cat_within w e (8 * l.size.0) (pads_lt l.msb w (g / 2 ^ e) up)
    (cat_within l.precision o e k (pads_lt l.lsb o (g % 2 ^ o) (mod-lt g (pow_pos o))) (omega arith)) (omega arith)

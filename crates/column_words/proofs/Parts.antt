-- What the words of two layouts are made of: laws in the shape of what the functions need. Assumes nothing.
use mathlib.Core.Path.{◌≡◌, refl}
use mathlib.Core.Bool.{Bool, true, false}
use Prim.Native.Nat.{ℕ, ◌+◌, ◌-◌, ◌*◌, ◌^◌, ◌≤◌, ◌<◌, min}
use native.Mathlib.Nat.{min-le_left}
use native.Mathlib.Omega.{arith}
use lib.Pow.{pow_pos, pow-lt, pow_mono}
use Rattle.layout.specs.declared.Layout.{Layout}
use Rattle.layout.specs.Layout.{Valid}
use Rattle.column_words.specs.Fit.{half_of, most_of}
use Rattle.column_words.specs.Fill.{high_pad}

pub half_signed : (signed : Bool) (p : ℕ) {r : ℕ} → signed ≡ true → 1 ≤ p → r ≡ 2 ^ (p - 1) → (r ≡ half_of signed p) × (r < 2 ^ p)
half_signed signed p t h k = rw (t, k) (refl, pow-lt (omega arith))

pub half_plain : (signed : Bool) (p : ℕ) → signed ≡ false → (0 ≡ half_of signed p) × (0 < 2 ^ p)
half_plain signed p t = rw t (refl, pow_pos p)

pub high_fits : (s : Bool) (p y : ℕ) {a b : ℕ} → p ≤ 64 → a ≡ half_of s p → a < 2 ^ p → b ≡ min (most_of s p) y → a + b < 2 ^ 64
high_fits s p y {a} {b} m h k e =
    let wide : 2 ^ p ≤ 2 ^ 64 = pow_mono {j = 64} m in
    let low : b ≤ 2 ^ p - 1 - a = rw (e, h) (min-le_left (most_of s p) y) in
    omega arith

module _ (l : Layout) (v : Valid l) {x y : ℕ} (hx : x ≡ 2 ^ (8 * l.size.0) - 1) (hy : y ≡ 2 ^ (l.offset.0 + l.precision) - 1) where
  pub pad_within : y ≤ x
  pad_within =
      let wide : 2 ^ (l.offset.0 + l.precision) ≤ 2 ^ (8 * l.size.0) = pow_mono v.inside in
      omega arith

  pub pad_high : (x - y ≡ high_pad l) × (x - y + 2 ^ l.offset.0 ≤ 2 ^ 64)
  pad_high =
      let wide : 2 ^ (l.offset.0 + l.precision) ≤ 2 ^ (8 * l.size.0) = pow_mono v.inside in
      let all : 2 ^ (8 * l.size.0) ≤ 2 ^ 64 = pow_mono {j = 64} (omega (arith, v.sized)) in
      let low : 2 ^ l.offset.0 ≤ 2 ^ (l.offset.0 + l.precision) = pow_mono (omega arith) in
      let some = pow_pos (l.offset.0 + l.precision) in
      (omega arith, omega arith)

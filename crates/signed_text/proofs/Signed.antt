-- Signed numbers in decimal. Assumes nothing.
use mathlib.Core.Path.{◌≡◌, refl, sym, ap, ◌∙◌}
use mathlib.Core.Bool.{true, false}
use mathlib.Core.List.{List, [], ◌∷◌, ◌++◌}
use Prim.Native.Nat.{ℕ, ◌+◌, ◌^◌, ◌≤◌, ◌<◌}
use native.Mathlib.Omega.{arith}
use lib.ListN.{length}
use lib.Seq.{paste}
use lib.IntN.{ℤ, pos, negsuc, nat_abs}
use lib.Signed.{lt_z}
use borrow.Author.Tests.{ltb-true}
use mir.Syntax.{w64}
use mir.Val.{SFits, to_z, of_z}
use mir.Facts.{to_z_pos, to_z-neg, to_z-of_z}
use Rattle.text.specs.Text.{minus}
use Rattle.text.specs.Field.{decimal_of, signed_of}
use Rattle.text.specs.Written.{Wrote}
use Rattle.text.proofs.Decimals.{digits_most}
use Rattle.text.proofs.Written.{wrote, wrote_then}

-- ---- digits

-- a number up to 2^63 has at most 19
digits_word : (n : ℕ) → n ≤ 2 ^ 63 → length (decimal_of n) ≤ 19
digits_word n h = digits_most 18 n (omega arith)

-- ---- the sign

negative_text : (z : ℤ) → SFits w64 z → lt_z (to_z w64 (of_z w64 z)) (pos 0) ≡ true → signed_of z ≡ (minus ∷ []) ++ decimal_of (nat_abs z)
negative_text (pos n) f t =
    let h : n < 0 = ltb-true n 0 (rw (to_z_pos w64 f.sfits) at t) in
    absurd (omega arith)
negative_text (negsuc n) f t = refl

other_text : (z : ℤ) → SFits w64 z → lt_z (to_z w64 (of_z w64 z)) (pos 0) ≡ false → signed_of z ≡ decimal_of (nat_abs z)
other_text (pos n) f t = refl
other_text (negsuc n) f t =
    let e : true ≡ false = rw (to_z-neg w64 n f.sfits) at t in
    let z : ◌≡◌ {A = ℕ} 0 1 = cc in
    absurd (omega arith)

-- ---- the distance from 0

abs_most : (z : ℤ) → SFits w64 z → nat_abs z ≤ 2 ^ 63
abs_most (pos n) f = let h : n < 2 ^ 63 = f.sfits in omega arith
abs_most (negsuc n) f = let h : n < 2 ^ 63 = f.sfits in omega arith

pub below_abs : (z : ℤ) {n : ℕ} → SFits w64 z → z ≡ negsuc n → (n + 1 ≡ nat_abs z) × (n + 1 ≤ 2 ^ 63)
below_abs z {n} f e =
    let p : n + 1 ≡ nat_abs z = rw e (omega arith) in
    (p, omega (arith, abs_most z f))

pub above_abs : (z : ℤ) {n : ℕ} → SFits w64 z → z ≡ pos n → (n ≡ nat_abs z) × (n ≤ 2 ^ 63)
above_abs z {n} f e =
    let p : n ≡ nat_abs z = rw e in
    (p, omega (arith, abs_most z f))

-- ---- lengths and bytes, by the distance m that a callee was asked for

module _ (z : ℤ) (f : SFits w64 z) {m : ℕ} (d : (m ≡ nat_abs (to_z w64 (of_z w64 z))) × (m ≤ 2 ^ 63)) where
  distance : m ≡ nat_abs z
  distance = d.0 ∙ ap nat_abs (to_z-of_z {w = w64} f)

  module _ (t : lt_z (to_z w64 (of_z w64 z)) (pos 0) ≡ true) where
    pub negative_is : signed_of z ≡ (minus ∷ []) ++ decimal_of m
    negative_is = rw distance (negative_text z f t)

    pub negative_length : {r : ℕ} → r ≡ length (decimal_of m) → (r + 1 ≡ length (signed_of z)) × (r + 1 ≤ 20)
    negative_length e = (omega (arith, ap length negative_is), omega (arith, digits_word m d.1))

    pub negative_wrote : {x y g : List ℕ} {k r : ℕ} (at : ℕ) → at + length (signed_of z) ≤ length x → (k ≡ at + 1) × (y ≡ paste x at (minus ∷ []) 1)
        → (r ≡ k + length (decimal_of m)) × (g ≡ paste y k (decimal_of m) (length (decimal_of m))) → Wrote x at (signed_of z) g r
    negative_wrote {x} {y} {g} {k} at h p q =
        let l = ap length negative_is in
        let one : Wrote x at (minus ∷ []) y k = wrote x at (omega arith) p in
        rw negative_is (wrote_then x at (omega arith) one (wrote y k (omega (arith, one.same)) q))

  module _ (t : lt_z (to_z w64 (of_z w64 z)) (pos 0) ≡ false) where
    pub other_is : signed_of z ≡ decimal_of m
    other_is = rw distance (other_text z f t)

    pub other_length : {r : ℕ} → r ≡ length (decimal_of m) → (r ≡ length (signed_of z)) × (r ≤ 20)
    other_length e = (omega (arith, ap length other_is), omega (arith, digits_word m d.1))

    pub other_wrote : {x y : List ℕ} {r : ℕ} (at : ℕ) → at + length (signed_of z) ≤ length x → (r ≡ at + length (decimal_of m)) × (y ≡ paste x at (decimal_of m) (length (decimal_of m)))
        → Wrote x at (signed_of z) y r
    other_wrote {x} at h p = rw other_is (wrote x at (omega (arith, ap length other_is)) p)

-- The columns of a line of the list of differences. Assumes nothing.
use mathlib.Core.Path.{◌≡◌, sym, ap, ◌∙◌}
use mathlib.Core.List.{List, [], ◌∷◌, ◌++◌, append_assoc}
use Prim.Native.Nat.{ℕ, ◌+◌, ◌^◌, ◌≤◌, ◌<◌}
use native.Mathlib.Omega.{arith}
use lib.ListN.{length, length-append}
use lib.Seq.{paste}
use lib.IntN.{ℤ, pos}
use mir.Syntax.{w64}
use mir.Val.{SFits, to_z, of_z}
use mir.Facts.{to_z-of_z}
use Rattle.text.specs.Text.{tab, newline}
use Rattle.text.specs.Field.{decimal_of, signed_of}
use Rattle.text.specs.Written.{Wrote}
use Rattle.text.proofs.Decimals.{digits_most}
use Rattle.text.proofs.Written.{wrote, wrote_then}
use Rattle.differences.specs.Differences.{Difference, line}
use Rattle.number.specs.declared.Number.{Number}
use Rattle.number.specs.declared.Number.TheVariants.{Signed, Unsigned}
use Rattle.number.specs.Parts.{meaning}
use Rattle.difference_text.specs.Columns.{column, numbers}

-- a 64-bit number
pub word_digits : (n : ℕ) → n < 2 ^ 64 → length (decimal_of n) ≤ 20
word_digits n h = digits_most 19 n (omega arith)

-- ---- one number, by its form

module _ {m : Number} {z : ℤ} (e : m ≡ Signed z) (f : SFits w64 z) where
  pub signed_is : signed_of (meaning m) ≡ signed_of (to_z w64 (of_z w64 z))
  signed_is = ap (λ (x : Number). signed_of (meaning x)) e ∙ ap signed_of (sym (to_z-of_z {w = w64} f))

  pub signed_count : {r : ℕ} → (r ≡ length (signed_of (to_z w64 (of_z w64 z)))) × (r ≤ 20) → (r ≡ length (signed_of (meaning m))) × (r ≤ 20)
  signed_count p = (p.0 ∙ ap length (sym signed_is), p.1)

  pub signed_wrote : {x y : List ℕ} {at r : ℕ} → Wrote x at (signed_of (to_z w64 (of_z w64 z))) y r → Wrote x at (signed_of (meaning m)) y r
  signed_wrote w = rw signed_is w

module _ {m : Number} {n : ℕ} (e : m ≡ Unsigned n) where
  pub unsigned_is : signed_of (meaning m) ≡ decimal_of n
  unsigned_is = ap (λ (x : Number). signed_of (meaning x)) e

  pub unsigned_count : {r : ℕ} → n < 2 ^ 64 → r ≡ length (decimal_of n) → (r ≡ length (signed_of (meaning m))) × (r ≤ 20)
  unsigned_count h p = (p ∙ ap length (sym unsigned_is), omega (arith, p, word_digits n h))

  pub unsigned_wrote : {x y : List ℕ} {at r : ℕ} → at + length (signed_of (meaning m)) ≤ length x
      → (r ≡ at + length (decimal_of n)) × (y ≡ paste x at (decimal_of n) (length (decimal_of n))) → Wrote x at (signed_of (meaning m)) y r
  unsigned_wrote {x} {at = at} h p = rw unsigned_is (wrote x at (omega (arith, ap length unsigned_is)) p)

-- ---- a column, and the last two

pub column_length : (z : ℤ) → length (column z) ≡ 1 + length (signed_of z)
unfolding column
column_length z = omega arith

pub column_wrote : (z : ℤ) {x y g : List ℕ} {k r : ℕ} (at : ℕ) → at + length (column z) ≤ length x → (k ≡ at + 1) × (y ≡ paste x at (tab ∷ []) 1) → Wrote y k (signed_of z) g r
    → Wrote x at (column z) g r
unfolding column
column_wrote z {x} at h p q =
    let room : at + 1 ≤ length x = omega (arith, column_length z) in
    wrote_then x at {r = tab ∷ []} room (wrote x at room p) q

module _ (z w : ℤ) where
  pub numbers_length : length (numbers z w) ≡ length (column z) + length (column w) + 1
  unfolding numbers
  numbers_length =
      omega (arith, length-append (column z) (column w), length-append (column z ++ column w) (newline ∷ []))

  pub numbers_count : {k n : ℕ} → (k ≡ length (signed_of z)) × (k ≤ 20) → (n ≡ length (signed_of w)) × (n ≤ 20)
      → (k + 1 + n + 2 ≡ length (numbers z w)) × (k + 1 + n + 2 ≤ 43)
  numbers_count p q = (omega (arith, numbers_length, column_length z, column_length w, p.0, q.0), omega (arith, p.1, q.1))

  pub numbers_wrote : {x y g u : List ℕ} {k n m : ℕ} (at : ℕ) → at + length (numbers z w) ≤ length x → Wrote x at (column z) y k → Wrote y k (column w) g n
      → (m ≡ n + 1) × (u ≡ paste g n (newline ∷ []) 1) → Wrote x at (numbers z w) u m
  unfolding numbers
  numbers_wrote {x} {y} {g} {u} {k} {n} {m} at h p q t =
      let l = numbers_length in
      let e = length-append (column z) (column w) in
      let two : Wrote x at (column z ++ column w) g n = wrote_then x at (omega arith) p q in
      wrote_then x at (omega arith) two (wrote g n {r = newline ∷ []} (omega (arith, two.same, two.ends)) t)

-- ---- the line

shape : (a b c d n : List ℕ) → a ++ b ++ (c ++ d ++ n) ≡ a ++ b ++ c ++ d ++ n
shape a b c d n = simp append_assoc

abbrev of : ℕ → ℕ → ℤ → ℤ → Difference
of i b z w = record { index = i; at = b; first = z; second = w }

module _ (i b : ℕ) (z w : ℤ) where
  line_is : decimal_of i ++ column (pos b) ++ numbers z w ≡ line (of i b z w)
  unfolding column numbers
  line_is = shape (decimal_of i) (tab ∷ decimal_of b) (tab ∷ signed_of z) (tab ∷ signed_of w) (newline ∷ [])

  pub line_length : length (line (of i b z w)) ≡ length (decimal_of i) + 1 + length (decimal_of b) + length (numbers z w)
  line_length =
      let e = length-append (decimal_of i) (column (pos b)) in
      let s = length-append (decimal_of i ++ column (pos b)) (numbers z w) in
      sym (ap length line_is) ∙ omega (arith, column_length (pos b))

  pub line_count : {d k n : ℕ} → i < 2 ^ 64 → b < 2 ^ 64 → d ≡ length (decimal_of i) → k ≡ length (decimal_of b) → (n ≡ length (numbers z w)) × (n ≤ 43)
      → (d + 1 + k + n ≡ length (line (of i b z w))) × (d + 1 + k + n ≤ 84)
  line_count h g p q s = (omega (arith, line_length, p, q, s.0), omega (arith, word_digits i h, word_digits b g, p, q, s.1))

  pub line_wrote : {x y g u : List ℕ} {k n m : ℕ} (at : ℕ) → at + length (line (of i b z w)) ≤ length x
      → (k ≡ at + length (decimal_of i)) × (y ≡ paste x at (decimal_of i) (length (decimal_of i))) → Wrote y k (column (pos b)) g n → Wrote g n (numbers z w) u m
      → Wrote x at (line (of i b z w)) u m
  line_wrote {x} {y} {g} {u} {k} {n} {m} at h p q s =
      let c = line_length in
      let e = length-append (decimal_of i) (column (pos b)) in
      let l = column_length (pos b) in
      let one : Wrote x at (decimal_of i) y k = wrote x at (omega arith) p in
      let two : Wrote x at (decimal_of i ++ column (pos b)) g n = wrote_then x at (omega arith) one q in
      rw (← line_is) (wrote_then x at (omega arith) two s)

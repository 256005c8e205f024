-- A line of the leaf list by its columns. Assumes nothing.
use mathlib.Core.Path.{◌≡◌, ap, ◌∙◌}
use mathlib.Core.List.{List, [], ◌∷◌, ◌++◌}
use Prim.Native.Nat.{ℕ, ◌+◌, ◌^◌, ◌≤◌, ◌<◌}
use native.Mathlib.Omega.{arith}
use borrow.Author.Rules.{rules}
use borrow.Author.Tests.{ne_eqb}
use lib.ListN.{length, length-append}
use lib.Seq.{paste}
use Rattle.text.specs.Text.{bytes}
use Rattle.text.specs.Field.{decimal_of}
use Rattle.text.specs.Written.{Wrote}
use Rattle.text.proofs.Decimals.{digits_most}
use Rattle.text.proofs.Written.{wrote, wrote_then}
use Rattle.leaf_columns.specs.Columns.{column, class_column, columns, Length}

-- ---- the class

module _ {c : ℕ} where
  pub class_enum : c ≡ 2 → class_column c ≡ bytes "enum\n"
  unfolding class_column
  class_enum e = rw e

  pub class_bits : c ≡ 1 → class_column c ≡ bytes "bits\n"
  unfolding class_column
  class_bits e = rw e

  pub class_real : c ≡ 5 → class_column c ≡ bytes "real\n"
  unfolding class_column
  class_real e = rw e

  pub class_int : (c ≡ 2 → ⊥) → (c ≡ 5 → ⊥) → (c ≡ 1 → ⊥) → class_column c ≡ bytes "int\n"
  unfolding class_column
  class_int h l k = rw (ne_eqb c 2 h, ne_eqb c 5 l, ne_eqb c 1 k)

  pub enum_length : c ≡ 2 → 5 ≡ length (class_column c)
  enum_length e = rw (class_enum e)

  pub bits_length : c ≡ 1 → 5 ≡ length (class_column c)
  bits_length e = rw (class_bits e)

  pub real_length : c ≡ 5 → 5 ≡ length (class_column c)
  real_length e = rw (class_real e)

  pub int_length : (c ≡ 2 → ⊥) → (c ≡ 5 → ⊥) → (c ≡ 1 → ⊥) → 4 ≡ length (class_column c)
  int_length h l k = rw (class_int h l k)

pub ruleset class_laws = (rules, enum_length, bits_length, real_length, int_length)

-- ---- lengths

-- a 64-bit number
pub word_digits : (n : ℕ) → n < 2 ^ 64 → length (decimal_of n) ≤ 20
word_digits n h = digits_most 19 n (omega arith)

pub column_length : (n : ℕ) → length (column n) ≡ length (decimal_of n) + 1
unfolding column
column_length n = length-append (decimal_of n) (9 ∷ [])

module _ (b z c : ℕ) where
  pub columns_length : length (columns b z c) ≡ length (column b) + length (column z) + length (class_column c)
  unfolding columns
  columns_length =
      length-append (column b ++ column z) (class_column c) ∙ ap (λ (n : ℕ). n + length (class_column c)) (length-append (column b) (column z))

  pub columns_count : {p q k : ℕ} → p ≡ length (decimal_of b) → q ≡ length (decimal_of z) → (k ≡ length (class_column c)) × (k ≤ 5) → b < 2 ^ 64 → z < 2 ^ 64
      → Length (columns b z c) (p + 1 + q + 1 + k)
  columns_count e f g h l =
      record {
        is = omega (arith, columns_length, column_length b, column_length z, g.0);
        few = omega (arith, word_digits b h, word_digits z l, e, f, g.1);
      }

-- ---- writes

pub column_wrote : {d e f : List ℕ} {m r : ℕ} (at n : ℕ) → at + length (column n) ≤ length d
    → (m ≡ at + length (decimal_of n)) × (e ≡ paste d at (decimal_of n) (length (decimal_of n)))
    → (r ≡ m + 1) × (f ≡ paste e m (9 ∷ []) 1) → Wrote d at (column n) f r
unfolding column
column_wrote {d} {e} {f} {m} at n h p q =
    let room : at + length (decimal_of n) ≤ length d = omega (arith, column_length n) in
    let one : Wrote d at (decimal_of n) e m = wrote d at room p in
    wrote_then d at room one (wrote e m (omega (arith, column_length n, p.0, one.same)) q)

pub class_wrote : {d e x : List ℕ} {m : ℕ} (at c : ℕ) → class_column c ≡ x → at + length (class_column c) ≤ length d
    → (m ≡ at + length x) × (e ≡ paste d at x (length x)) → Wrote d at (class_column c) e m
class_wrote {d} at c e h p = rw e (wrote d at (rw e at h) p)

pub columns_wrote : {d e f g : List ℕ} {k m n : ℕ} (at b z c : ℕ) → at + length (columns b z c) ≤ length d
    → Wrote d at (column b) e k → Wrote e k (column z) f m → Wrote f m (class_column c) g n → Wrote d at (columns b z c) g n
unfolding columns
columns_wrote {d} at b z c h p q r =
    wrote_then d at (omega (arith, columns_length b z c, length-append (column b) (column z))) (wrote_then d at (omega (arith, columns_length b z c)) p q) r

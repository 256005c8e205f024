-- Names compared byte by byte. Assumes nothing.
use mathlib.Core.Path.{◌≡◌, refl, ap}
use mathlib.Core.List.{List}
use mathlib.Core.Bool.{Bool, true, false, ◌&&◌}
use Prim.Native.Nat.{ℕ, zero, suc, ◌+◌, ◌-◌, ◌<◌, ◌≤◌}
use native.Mathlib.Nat.{not-suc-le-zero}
use native.Mathlib.Numerals.{sub-one}
use borrow.Author.Tests.{ne_eqb, eq-eqb}
use lib.Dec.{eqb}
use lib.ListN.{get_or}
use Rattle.datatype.specs.Datatype.{same}
use Rattle.table.specs.Table.{bytes_at}

and_false : (t : Bool) → t && false ≡ false
and_false true = refl
and_false false = refl

module _ (a b : List ℕ) where
  pub same_none : (i j n : ℕ) → n ≤ 0 → same (bytes_at a i n) (bytes_at b j n) ≡ true
  unfolding same bytes_at
  same_none i j zero h = refl
  same_none i j (suc n) h = absurd (not-suc-le-zero h)

  pub same_differ : (i j n x y : ℕ) → 0 < n → x ≡ get_or a i 0 → y ≡ get_or b j 0 → (x ≡ y → ⊥) → same (bytes_at a i n) (bytes_at b j n) ≡ false
  unfolding same bytes_at
  same_differ i j zero x y h ex ey d = absurd (not-suc-le-zero h)
  same_differ i j (suc n) x y h ex ey d = rw (← ex, ← ey, ne_eqb x y d) refl

  pub same_more : (i j n x y : ℕ) → 0 < n → x ≡ get_or a i 0 → y ≡ get_or b j 0 → x ≡ y → same (bytes_at a i n) (bytes_at b j n) ≡ same (bytes_at a (i + 1) (n - 1)) (bytes_at b (j + 1) (n - 1))
  unfolding same bytes_at
  same_more i j zero x y h ex ey d = absurd (not-suc-le-zero h)
  same_more i j (suc n) x y h ex ey d = rw (← ex, ← ey, eq-eqb x y d, sub-one) refl

  pub same_length : (i j n m : ℕ) → (n ≡ m → ⊥) → same (bytes_at a i n) (bytes_at b j m) ≡ false
  unfolding same bytes_at
  same_length i j zero zero h = absurd (h refl)
  same_length i j zero (suc m) h = refl
  same_length i j (suc n) zero h = refl
  same_length i j (suc n) (suc m) h = rw (same_length (i + 1) (j + 1) n m (λ e. h (ap suc e))) (and_false (eqb (get_or a i 0) (get_or b j 0)))

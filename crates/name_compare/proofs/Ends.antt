-- Names compared from both ends. Assumes nothing.
use mathlib.Core.Path.{◌≡◌, refl, ap, ap₂, ◌∙◌}
use mathlib.Core.List.{List}
use mathlib.Core.Bool.{Bool, true, false, ◌&&◌}
use Prim.Native.Nat.{ℕ, zero, suc, ◌+◌, ◌-◌, ◌<◌, ◌≤◌}
use native.Mathlib.Nat.{not-suc-le-zero, add-zero}
use native.Mathlib.Numerals.{sub-one}
use native.Mathlib.Omega.{arith}
use borrow.Author.Tests.{ne_eqb, eq-eqb}
use lib.Dec.{eqb}
use lib.ListN.{get_or}
use Rattle.datatype.specs.Datatype.{same}
use Rattle.table.specs.Table.{bytes_at}
use Rattle.table.proofs.Same.{same_differ, same_more}

and_true : (t : Bool) → t && true ≡ t
and_true true = refl
and_true false = refl

and_assoc : (s t u : Bool) → s && (t && u) ≡ (s && t) && u
and_assoc true t u = refl
and_assoc false t u = refl

and_false : (t : Bool) → t && false ≡ false
and_false true = refl
and_false false = refl

module _ (a b : List ℕ) where
  -- n + 1 bytes are the same if the first n are and the last one is
  same_last : (i j n : ℕ) → same (bytes_at a i (suc n)) (bytes_at b j (suc n)) ≡ same (bytes_at a i n) (bytes_at b j n) && eqb (get_or a (i + n) 0) (get_or b (j + n) 0)
  unfolding same bytes_at
  same_last i j zero = rw (add-zero i, add-zero j) (and_true (eqb (get_or a i 0) (get_or b j 0)))
  same_last i j (suc n) =
      let e : i + 1 + n ≡ i + suc n = omega arith in
      let f : j + 1 + n ≡ j + suc n = omega arith in
      ap (λ (t : Bool). eqb (get_or a i 0) (get_or b j 0) && t) (same_last (i + 1) (j + 1) n ∙ ap₂ (λ (p q : ℕ). same (bytes_at a (i + 1) n) (bytes_at b (j + 1) n) && eqb (get_or a p 0) (get_or b q 0)) e f)
      ∙ and_assoc (eqb (get_or a i 0) (get_or b j 0)) (same (bytes_at a (i + 1) n) (bytes_at b (j + 1) n)) (eqb (get_or a (i + suc n) 0) (get_or b (j + suc n) 0))

  pub last_differ : (i j n x y : ℕ) → 0 < n → x ≡ get_or a (i + (n - 1)) 0 → y ≡ get_or b (j + (n - 1)) 0 → (x ≡ y → ⊥) → same (bytes_at a i n) (bytes_at b j n) ≡ false
  last_differ i j zero x y h ex ey d = absurd (not-suc-le-zero h)
  last_differ i j (suc n) x y h ex ey d =
      same_last i j n ∙ rw (← (rw (sub-one) at ex), ← (rw (sub-one) at ey), ne_eqb x y d) (and_false (same (bytes_at a i n) (bytes_at b j n)))

  last_same : (i j n x y : ℕ) → 0 < n → x ≡ get_or a (i + (n - 1)) 0 → y ≡ get_or b (j + (n - 1)) 0 → x ≡ y → same (bytes_at a i n) (bytes_at b j n) ≡ same (bytes_at a i (n - 1)) (bytes_at b j (n - 1))
  last_same i j zero x y h ex ey d = absurd (not-suc-le-zero h)
  last_same i j (suc n) x y h ex ey d =
      same_last i j n ∙ rw (← (rw (sub-one) at ex), ← (rw (sub-one) at ey), eq-eqb x y d, sub-one) (and_true (same (bytes_at a i n) (bytes_at b j n)))

  pub first_differ : (i j n x y u v : ℕ) → 1 < n → x ≡ get_or a (i + (n - 1)) 0 → y ≡ get_or b (j + (n - 1)) 0 → x ≡ y → u ≡ get_or a i 0 → v ≡ get_or b j 0 → (u ≡ v → ⊥) → same (bytes_at a i n) (bytes_at b j n) ≡ false
  first_differ i j n x y u v h ex ey d eu ev f = last_same i j n x y (omega arith) ex ey d ∙ same_differ a b i j (n - 1) u v (omega arith) eu ev f

  pub ends_same : (i j n x y u v : ℕ) → 1 < n → x ≡ get_or a (i + (n - 1)) 0 → y ≡ get_or b (j + (n - 1)) 0 → x ≡ y → u ≡ get_or a i 0 → v ≡ get_or b j 0 → u ≡ v → same (bytes_at a i n) (bytes_at b j n) ≡ same (bytes_at a (i + 1) (n - 2)) (bytes_at b (j + 1) (n - 2))
  ends_same i j n x y u v h ex ey d eu ev f =
      let e : n - 1 - 1 ≡ n - 2 = omega arith in
      last_same i j n x y (omega arith) ex ey d ∙ same_more a b i j (n - 1) u v (omega arith) eu ev f ∙ ap (λ (m : ℕ). same (bytes_at a (i + 1) m) (bytes_at b (j + 1) m)) e

  pub one_left : (i j n x y : ℕ) → n ≤ 1 → (n ≡ 0 → ⊥) → x ≡ get_or a i 0 → y ≡ get_or b j 0 → same (bytes_at a i n) (bytes_at b j n) ≡ eqb x y
  unfolding same bytes_at
  one_left i j zero x y h k ex ey = absurd (k refl)
  one_left i j (suc zero) x y h k ex ey = rw (← ex, ← ey) (and_true (eqb x y))
  one_left i j (suc (suc n)) x y h k ex ey = absurd (omega arith)

-- Laws of the tests that the definitions use. Assumes nothing.
use mathlib.Core.Path.{◌≡◌, refl, ap, ap₂}
use mathlib.Core.Logic.{◌⊎◌, inl, inr}
use mathlib.Core.Bool.{Bool, true, false, ◌&&◌, false≢true}
use mathlib.Core.List.{List, [], ◌∷◌}
use mathlib.Core.Option.{Option, none, some}
use Prim.Native.Nat.{ℕ, zero, suc, ◌+◌, ◌*◌, ◌≤◌, ◌<◌}
use native.Mathlib.Nat.{mul-zero}
use native.Mathlib.Omega.{arith}
use lib.Dec.{leb, ltb, eqb}
use lib.IntN.{ℤ, pos, negsuc}
use borrow.Author.Tests.{ltb-true, leb-true, eqb-true, lt-ltb, le-ltb, le-leb, lt-leb, eq-eqb}
use Rattle.datatype.specs.Datatype.{same}
use Rattle.datatype.specs.Symbols.{same_number}
use Rattle.datatype.specs.Leaves.{within}

-- none is not some
pub nothing : {A B : Type 0} {b : B} → ◌≡◌ {A = Option B} none (some b) → A
nothing e = let z : ◌≡◌ {A = ℕ} 0 1 = cc in absurd (omega arith)

pub and_true : (a b : Bool) → a && b ≡ true → (a ≡ true) × (b ≡ true)
and_true true b e = (refl, e)
and_true false b e = absurd (false≢true e)

pub and_false : (a b : Bool) → a && b ≡ false → (a ≡ false) ⊎ (b ≡ false)
and_false true b e = inr e
and_false false b e = inl refl

pub both : (a b : Bool) → a ≡ true → b ≡ true → a && b ≡ true
both a b p q = rw (p, q)

-- `same` is equality
pub same→eq : (x y : List ℕ) → same x y ≡ true → x ≡ y
unfolding same
same→eq [] [] e = refl
same→eq [] (b ∷ y) e = absurd (false≢true e)
same→eq (a ∷ x) [] e = absurd (false≢true e)
same→eq (a ∷ x) (b ∷ y) e =
    ap₂ (λ (h : ℕ) (r : List ℕ). h ∷ r) (eqb-true a b (and_true (eqb a b) (same x y) e).0) (same→eq x y (and_true (eqb a b) (same x y) e).1)

pub same_refl : (x : List ℕ) → same x x ≡ true
unfolding same
same_refl [] = refl
same_refl (a ∷ x) = rw (eq-eqb a a refl) (same_refl x)

pub sameNumber→eq : (y z : ℤ) → same_number y z ≡ true → y ≡ z
sameNumber→eq (pos m) (pos n) e = ap pos (eqb-true m n e)
sameNumber→eq (pos m) (negsuc n) e = absurd (false≢true e)
sameNumber→eq (negsuc m) (pos n) e = absurd (false≢true e)
sameNumber→eq (negsuc m) (negsuc n) e = ap negsuc (eqb-true m n e)

pub sameNumber_refl : (z : ℤ) → same_number z z ≡ true
sameNumber_refl (pos n) = eq-eqb n n refl
sameNumber_refl (negsuc n) = eq-eqb n n refl

-- a byte within a part, and one in a part apart from it
pub within→ : (o w b : ℕ) → within o w b ≡ true → (o ≤ b) × (b < o + w)
unfolding within
within→ o w b e =
    (leb-true o b (and_true (leb o b) (ltb b (o + w)) e).0, ltb-true b (o + w) (and_true (leb o b) (ltb b (o + w)) e).1)

pub →within : (o w b : ℕ) → b < w → within o w (o + b) ≡ true
unfolding within
→within o w b h = both (leb o (o + b)) (ltb (o + b) (o + w)) (le-leb o (o + b) (omega arith)) (lt-ltb (o + b) (o + w) (omega arith))

pub not_within : (o w p v b : ℕ) → (o + w ≤ p) ⊎ (p + v ≤ o) → b < v → within o w (p + b) ≡ false
unfolding within
not_within o w p v b (inl before) h = simp (le-ltb (p + b) (o + w) (omega arith)) (go (leb o (p + b)))
  where
    go : (t : Bool) → t && false ≡ false
    go true = refl
    go false = refl
not_within o w p v b (inr behind) h = simp (lt-leb o (p + b) (omega arith))

-- a factor of a product that has numbers below it
pub factor_pos : (b n w : ℕ) → b < n * w → 0 < w
factor_pos b n zero h = omega (arith, mul-zero n)
factor_pos b n (suc w) h = omega arith

-- 2026-03, "Int to real gives the nearest double, ties to even, 0 as +0; kind 6 exactly where that double isn't the number", as a reader sees it: whatever
-- double is nearest is the answer, the kind is 6 where it is not worth the number, and 0 where it is. Assumes nothing.
use mathlib.Core.Path.{◌≡◌, refl, sym, ap, ◌∙◌}
use mathlib.Core.Bool.{Bool, true, false, cond}
use Prim.Native.Nat.{ℕ, ◌*◌, ◌^◌, ◌<◌}
use native.Mathlib.Omega.{arith}
use lib.Dec.{eqb}
use lib.IntN.{ℤ}
use borrow.Author.Tests.{eq-eqb}
use Rattle.number.specs.Number.{number_given}
use Rattle.reals.specs.Worth.{quanta_per_one, Worth, worth}
use Rattle.reals.specs.Worth.Worth.{finite}
use Rattle.reals.specs.Compare.{below0, magnitude, is_worth, equals}
use Rattle.reals.specs.Nearest.{nearest}
use Rattle.reals.specs.Nearness.{IsNearest}
use Rattle.reals.specs.Convert.{int_to_real}
use Rattle.reals.proofs.Tests.{and_true, or_same}
use Rattle.reals.proofs.Unique.{unique}
use Rattle.reals.proofs.Back.{exact_worth}

-- the whole answer, from `IsNearest` alone
pub nearest_answer : (z : ℤ) (b : ℕ) → magnitude z < 2 ^ 64 → b < 2 ^ 64 → IsNearest z b → int_to_real z ≡ record { raw = b; kind = cond (equals b z) 0 6; given = number_given z }
unfolding int_to_real
nearest_answer z b l h i = ap (λ (c : ℕ). record { raw = c; kind = cond (equals c z) 0 6; given = number_given z }) (sym (unique z b l h i))

-- kind 6 exactly where the double is another number
pub six_where_other : (z : ℤ) → equals (int_to_real z).raw z ≡ false → (int_to_real z).kind ≡ 6
unfolding int_to_real
six_where_other z e = rw e

pub other_where_six : (z : ℤ) → (int_to_real z).kind ≡ 6 → equals (int_to_real z).raw z ≡ false
unfolding int_to_real
other_where_six z e = go (equals (nearest z) z) e
  where
    go : (t : Bool) → ◌≡◌ {A = ℕ} (cond t 0 6) 6 → t ≡ false
    go false e = refl
    go true e = absurd (omega (arith, e))

-- and kind 0 exactly where its worth is the number, sign and quanta
pub zero_where_worth : (z : ℤ) → worth (int_to_real z).raw ≡ finite (below0 z) (magnitude z * quanta_per_one) → (int_to_real z).kind ≡ 0
unfolding int_to_real
zero_where_worth z e =
    let n = magnitude z * quanta_per_one in
    let t : equals (nearest z) z ≡ true = ap (λ (w : Worth). is_worth w z) e ∙ and_true (eqb n n) _ (or_same (eqb n 0) (below0 z)) ∙ eq-eqb n n refl in
    rw t

pub worth_where_zero : (z : ℤ) → magnitude z < 2 ^ 64 → (int_to_real z).kind ≡ 0 → worth (int_to_real z).raw ≡ finite (below0 z) (magnitude z * quanta_per_one)
unfolding int_to_real
worth_where_zero z l e = exact_worth z l e

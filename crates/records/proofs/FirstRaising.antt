-- "the raising leaf whose first byte is lowest": that byte is found, or no leaf raises. Assumes nothing.
use mathlib.Core.Path.{◌≡◌, refl, sym}
use mathlib.Core.Logic.{⊎_elim}
use mathlib.Core.Option.{none, some}
use Prim.Native.Nat.{ℕ, zero, suc, ◌+◌, ◌≤◌, ◌<◌}
use native.Mathlib.Nat.{le_refl, eq-or-lt_of_le}
use native.Mathlib.Omega.{arith}
use Rattle.datatype.proofs.Tests.{nothing}
use Rattle.records.specs.Record.{or_later, first_raising}

-- of the k bytes from b on, c is the lowest whose leaf raises an exception
pub record Lowest (kind : ℕ → ℕ) (b k c : ℕ) : Type 0 where
  pub from : b ≤ c
  pub below : c < b + k
  pub raises : 1 ≤ kind c
  pub none_lower : (d : ℕ) → b ≤ d → d < c → kind d ≡ 0

module _ (kind : ℕ → ℕ) where
  pub first_none : (b k : ℕ) → first_raising kind b k ≡ none → (c : ℕ) → b ≤ c → c < b + k → kind c ≡ 0
  unfolding first_raising
  first_none b zero e c l h = absurd (omega arith)
  first_none b (suc k) e c l h = at (kind b) refl e (λ g m. first_none (suc b) k g c m (omega arith))
    where
      at : (j : ℕ) → kind b ≡ j → or_later b j (first_raising kind (suc b) k) ≡ none
          → (first_raising kind (suc b) k ≡ none → suc b ≤ c → kind c ≡ 0) → kind c ≡ 0
      at zero q g next = ⊎_elim (λ (i : b ≡ c). rw (← i) q) (λ (i : b < c). next g i) (eq-or-lt_of_le l)
      at (suc j) q g next = nothing (sym g)

  pub none_first : (b k : ℕ) → ((c : ℕ) → b ≤ c → c < b + k → kind c ≡ 0) → first_raising kind b k ≡ none
  unfolding first_raising
  none_first b zero h = refl
  none_first b (suc k) h = rw (h b (le_refl b) (omega arith)) (none_first (suc b) k (λ c l g. h c (omega arith) (omega arith)))

  pub first_lowest : (b k c : ℕ) → first_raising kind b k ≡ some c → Lowest kind b k c
  unfolding first_raising
  first_lowest b zero c e = nothing e
  first_lowest b (suc k) c e = at (kind b) refl e (first_lowest (suc b) k c)
    where
      at : (j : ℕ) → kind b ≡ j → or_later b j (first_raising kind (suc b) k) ≡ some c
          → (first_raising kind (suc b) k ≡ some c → Lowest kind (suc b) k c) → Lowest kind b (suc k) c
      at zero q g next =
          let h = next g in
          record {
            from = omega (arith, h.from);
            below = omega (arith, h.below);
            raises = h.raises;
            none_lower = λ d l m. ⊎_elim (λ (i : b ≡ d). rw (← i) q) (λ (i : b < d). h.none_lower d i m) (eq-or-lt_of_le l);
          }
      at (suc j) q g next =
          let i : b ≡ c = cc in
          record { from = omega arith; below = omega arith; raises = rw (← i, q) (omega arith); none_lower = λ d l m. absurd (omega arith) }

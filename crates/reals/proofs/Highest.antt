-- `highest` finds the e with 2^e ≤ n < 2^(e + 1). Assumes nothing.
use mathlib.Core.Path.{◌≡◌, refl}
use mathlib.Core.Bool.{Bool, true, false, cond}
use Prim.Native.Nat.{ℕ, zero, suc, ◌^◌, ◌≤◌, ◌<◌, zero-le}
use native.Mathlib.Nat.{le_refl, le-suc, le_trans}
use lib.Dec.{leb}
use borrow.Author.Tests.{leb-true, leb-false}
use Rattle.reals.specs.Nearest.{highest}

-- e is the place of n's highest set bit, and at most k
pub record Highest (k n e : ℕ) : Type 0 where
  pub most : e ≤ k
  pub low : 2 ^ e ≤ n
  pub high : n < 2 ^ suc e

pub highest_is : (k n : ℕ) → 0 < n → n < 2 ^ suc k → Highest k n (highest k n)
unfolding highest
highest_is zero n p h = record { most = zero-le; low = p; high = h }
highest_is (suc k) n p h = go (leb (2 ^ suc k) n) refl (highest_is k n p)
  where
    go : (t : Bool) → leb (2 ^ suc k) n ≡ t → (n < 2 ^ suc k → Highest k n (highest k n)) → Highest (suc k) n (cond t (suc k) (highest k n))
    go true e ih = record { most = le_refl (suc k); low = leb-true _ _ e; high = h }
    go false e ih = let i = ih (leb-false _ _ e) in record { most = le_trans i.most (le-suc k); low = i.low; high = i.high }

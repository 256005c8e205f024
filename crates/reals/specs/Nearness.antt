-- 2026-03, "the nearest double, ties to even": what it says, with no word on how it is found.
use Rattle.std.specs.Prelude.{◌≡◌, Bool, cond, ℕ, ◌+◌, ◌-◌, ◌*◌, ◌%◌, ◌^◌, ◌≤◌, ◌<◌, ℤ}
use Rattle.std.specs.Bool.{beq}
use Rattle.reals.specs.Worth.{quanta_per_one, worth}
use Rattle.reals.specs.Worth.Worth.{finite}
use Rattle.reals.specs.Compare.{below0, magnitude}

-- how many quanta two numbers are apart, each given by its sign and its quanta
abbrev pub apart : Bool → ℕ → Bool → ℕ → ℕ
apart s a t b = cond (beq s t) ((a - b) + (b - a)) (a + b)

-- from a finite double to the number z
abbrev pub distance : Bool → ℕ → ℤ → ℕ
distance s m z = apart s m (below0 z) (magnitude z * quanta_per_one)

-- The bits b are finite with z's sign, so that 0 is +0; no finite double is nearer to z; and where another is as near, the last bit of b, which is its
-- significand's, is 0.
pub record IsNearest (z : ℤ) (b : ℕ) : Type 0 where
  pub quanta : ℕ
  pub is : worth b ≡ finite (below0 z) quanta
  pub none_nearer : (c : ℕ) (s : Bool) (m : ℕ) → c < 2 ^ 64 → worth c ≡ finite s m → distance (below0 z) quanta z ≤ distance s m z
  pub even_at_a_tie : (c : ℕ) (s : Bool) (m : ℕ) → c < 2 ^ 64 → worth c ≡ finite s m → distance s m z ≡ distance (below0 z) quanta z → (m ≡ quanta → ⊥)
      → b % 2 ≡ 0

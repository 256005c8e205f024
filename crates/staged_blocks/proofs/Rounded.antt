-- Bytes brought up to whole records. Assumes nothing.
use Prim.Native.Nat.{ℕ, ◌+◌, ◌-◌, ◌*◌, ◌/◌, ◌≤◌}
use native.Mathlib.Nat.{mod-lt, div-add-mod'}
use native.Mathlib.Omega.{arith}

-- so many records of d bytes hold n bytes
pub up_enough : (n d : ℕ) → 1 ≤ d → n ≤ (n + d - 1) / d * d
up_enough n d some = omega (arith, div-add-mod' (n + d - 1) d, mod-lt (n + d - 1) some)

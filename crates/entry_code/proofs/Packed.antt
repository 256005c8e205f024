-- What was packed comes apart again. Assumes nothing.
use mathlib.Core.Path.{◌≡◌}
use Prim.Native.Nat.{ℕ, ◌≤◌, ◌<◌}
use native.Mathlib.Omega.{arith}
use Rattle.entry_code.specs.Code.{packed, route_in, shift_in, precision_in, size_in, order_in, bits_in}

module _ (route shift precision size order bits : ℕ) (hr : route < 8) (hs : shift < 64) (hp : precision < 128) (hz : size < 16) (ho : order < 2) where
  pub route_back : route_in (packed route shift precision size order bits) ≡ route
  unfolding route_in
  route_back = omega arith

  pub shift_back : shift_in (packed route shift precision size order bits) ≡ shift
  unfolding shift_in
  shift_back = omega arith

  pub precision_back : precision_in (packed route shift precision size order bits) ≡ precision
  unfolding precision_in
  precision_back = omega arith

  pub size_back : size_in (packed route shift precision size order bits) ≡ size
  unfolding size_in
  size_back = omega arith

  pub order_back : order_in (packed route shift precision size order bits) ≡ order
  unfolding order_in
  order_back = omega arith

  pub bits_back : bits_in (packed route shift precision size order bits) ≡ bits
  unfolding bits_in
  bits_back = omega arith

-- a word of zeros
pub route_zero : route_in 0 ≡ 0
unfolding route_in
route_zero = omega arith

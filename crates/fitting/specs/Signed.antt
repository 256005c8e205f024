-- What the functions inside this crate promise of an i64. No meaning of document 01 stands here.
use Rattle.std.specs.Prelude.{◌≡◌, true, false, ℕ, ℤ}
use Rattle.std.specs.Int.Signed.{lt_z}
use Rattle.number.specs.Number.{largest, smallest}

-- z is not beyond either end of the signed range of p bits
abbrev pub InSigned : ℕ → ℤ → Type 0
InSigned p z = (lt_z (largest true p) z ≡ false) × (lt_z z (smallest true p) ≡ false)

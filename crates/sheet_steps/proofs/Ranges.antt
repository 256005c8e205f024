-- A number is in a layout's range if its distance is. Assumes nothing.
use mathlib.Core.Path.{◌≡◌, refl}
use mathlib.Core.Bool.{Bool, true, false}
use Prim.Native.Nat.{ℕ, ◌-◌, ◌^◌}
use borrow.Author.Tests.{leb-true, leb-false}
use lib.Dec.{leb, eqb}
use Rattle.number.specs.Number.{fitted_to}
use Rattle.number.specs.Parts.{signed_by}
use Rattle.number.proofs.Range.{unsigned_above, unsigned_inside, signed_above, signed_inside, signed_below, signed_negative}

pub signed_range : (p : ℕ) (negative : Bool) (d : ℕ) → leb d (2 ^ (p - 1) - 1) ≡ eqb (fitted_to true p (signed_by negative d)).kind 0
signed_range p negative d = go negative (leb d (2 ^ (p - 1) - 1)) refl
  where
    go : (s b : Bool) → leb d (2 ^ (p - 1) - 1) ≡ b → leb d (2 ^ (p - 1) - 1) ≡ eqb (fitted_to true p (signed_by s d)).kind 0
    go true true e = rw (signed_negative p d (leb-true _ _ e)) e
    go true false e = rw (signed_below p d (leb-false _ _ e)) e
    go false true e = rw (signed_inside p d (leb-true _ _ e)) e
    go false false e = rw (signed_above p d (leb-false _ _ e)) e

pub unsigned_range : (p d : ℕ) → leb d (2 ^ p - 1) ≡ eqb (fitted_to false p (signed_by false d)).kind 0
unsigned_range p d = go (leb d (2 ^ p - 1)) refl
  where
    go : (b : Bool) → leb d (2 ^ p - 1) ≡ b → leb d (2 ^ p - 1) ≡ eqb (fitted_to false p (signed_by false d)).kind 0
    go true e = rw (unsigned_inside p d (leb-true _ _ e)) e
    go false e = rw (unsigned_above p d (leb-false _ _ e)) e

pub unsigned_negative : (p d : ℕ) → false ≡ eqb (fitted_to false p (signed_by true d)).kind 0
unsigned_negative p d = refl

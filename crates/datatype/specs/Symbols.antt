-- The symbols of an enum: from a number to its symbol's name, and from a name to its number.
use Rattle.std.specs.Prelude.{Bool, false, cond, List, [], ◌∷◌, ℕ, eqb, ℤ, pos, negsuc}
use Rattle.std.proofs.Math.Option.{Option, none, some}
use Rattle.datatype.specs.Datatype.{Symbol, same}

abbrev pub on_some : {A B : Type 0} → (A → B) → B → Option A → B
on_some f other none = other
on_some f other (some a) = f a

abbrev pub same_number : ℤ → ℤ → Bool
same_number (pos m) (pos n) = eqb m n
same_number (pos m) (negsuc n) = false
same_number (negsuc m) (pos n) = false
same_number (negsuc m) (negsuc n) = eqb m n

-- "number to symbol"
unfoldable pub symbol_of : ℤ → List Symbol → Option (List ℕ)
symbol_of z [] = none
symbol_of z (s ∷ ss) = cond (same_number z s.number) (some s.name) (symbol_of z ss)

-- "symbol to the destination's number"
unfoldable pub number_of : List ℕ → List Symbol → Option ℤ
number_of x [] = none
number_of x (s ∷ ss) = cond (same x s.name) (some s.number) (number_of x ss)

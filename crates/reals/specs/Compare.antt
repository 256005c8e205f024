-- A double against a whole number, by exact worth. Both zeros are worth 0; an infinity and a not-a-number are worth no number.
use Rattle.std.specs.Prelude.{Bool, true, false, ◌&&◌, ◌||◌, ℕ, suc, ◌*◌, eqb, ℤ, pos, negsuc}
use Rattle.std.specs.Bool.{beq}
use Rattle.reals.specs.Worth.{quanta_per_one, Worth, worth}
use Rattle.reals.specs.Worth.Worth.{not_a_number, infinite, finite}

abbrev pub below0 : ℤ → Bool
below0 (pos n) = false
below0 (negsuc n) = true

abbrev pub magnitude : ℤ → ℕ
magnitude (pos n) = n
magnitude (negsuc n) = suc n

-- whether a worth is the number z
abbrev pub is_worth : Worth → ℤ → Bool
is_worth not_a_number z = false
is_worth (infinite s) z = false
is_worth (finite s m) z = eqb m (magnitude z * quanta_per_one) && (eqb m 0 || beq s (below0 z))

-- whether the double b is the number z
abbrev pub equals : ℕ → ℤ → Bool
equals b z = is_worth (worth b) z

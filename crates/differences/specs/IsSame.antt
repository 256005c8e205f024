-- Document 02, 2026-06: what `sameIn` tests, said without it: when the number z of leaf x, in the first log, and the number w of leaf y, in the second, are the
-- same.
use Rattle.std.specs.Prelude.{◌≡◌, ◌⊎◌, true, false, List, [], ℕ, suc, ◌*◌, ℤ, pos, negsuc}
use Rattle.std.proofs.Math.Option.{none, some}
use Rattle.reals.specs.Worth.{quanta_per_one, Worth, worth}
use Rattle.reals.specs.Worth.Worth.{not_a_number, infinite, finite}
use Rattle.datatype.specs.Datatype.{Symbol, Leaf}
use Rattle.datatype.specs.Datatype.Leaf.{atomic, enumeration, real}
use Rattle.datatype.specs.Symbols.{symbol_of}
use Rattle.records.specs.Leaf.{real_bits}

-- the numbers have one symbol
abbrev pub OneSymbol : List Symbol → List Symbol → ℤ → ℤ → Type 0
OneSymbol ss ts z w = (name : List ℕ) × (symbol_of z ss ≡ some name) × (symbol_of w ts ≡ some name)

-- neither has a symbol, and they are one number
abbrev pub OneUnnamed : List Symbol → List Symbol → ℤ → ℤ → Type 0
OneUnnamed ss ts z w = (symbol_of z ss ≡ none) × (symbol_of w ts ≡ none) × (z ≡ w)

-- A double is worth the whole number z, exactly, counted in quanta of the doubles: from 0 up, with no minus unless it is 0 ("−0.0 equals the int 0"); below 0, with
-- one. A not-a-number and an infinity are worth no number.
abbrev pub IsWorth : Worth → ℤ → Type 0
IsWorth not_a_number z = ⊥
IsWorth (infinite minus) z = ⊥
IsWorth (finite minus quanta) (pos n) = (quanta ≡ n * quanta_per_one) × ((minus ≡ false) ⊎ (quanta ≡ 0))
IsWorth (finite minus quanta) (negsuc n) = (quanta ≡ suc n * quanta_per_one) × (minus ≡ true)

abbrev pub IsSame : Leaf → Leaf → ℤ → ℤ → Type 0
-- ints, and bits: "Numbers compare exactly, whatever the widths"
IsSame (atomic k) (atomic l) z w = z ≡ w
-- "enums compare by symbol, and a number without a symbol equals only the same number without one"
IsSame (enumeration k ss) (enumeration l ts) z w = OneSymbol ss ts z w ⊎ OneUnnamed ss ts z w
-- "a real against a real compares its 64 bits": they are its number (2026-03), so a not-a-number is one with its bits, and −0.0 is not 0.0
IsSame (real k) (real l) z w = z ≡ w
-- "a real against an int by exact worth, where not-a-number always differs"
IsSame (real k) (atomic l) z w = IsWorth (worth (real_bits z)) w
IsSame (atomic k) (real l) z w = IsWorth (worth (real_bits w)) z
-- no path leads from an enum to another leaf, or from another leaf to an enum: these are never compared, and are here as if the other leaf had no symbol
IsSame (atomic k) (enumeration l ts) z w = OneUnnamed [] ts z w
IsSame (real k) (enumeration l ts) z w = OneUnnamed [] ts z w
IsSame (enumeration k ss) (atomic l) z w = z ≡ w
IsSame (enumeration k ss) (real l) z w = IsWorth (worth (real_bits w)) z

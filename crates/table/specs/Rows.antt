-- Rows looked up, the newest first: where the members and the symbols in them are looked up by the datatypes' definitions.
use Rattle.std.specs.Prelude.{Option, Some, None, cond, List, ℕ, zero, suc, ◌+◌, ℤ}
use Rattle.std.proofs.Math.Option.{Option as MathOption, none, some}
use Rattle.datatype.specs.Datatype.{Datatype, same}
use Rattle.datatype.specs.Paths.{Lookup}
use Rattle.datatype.specs.Paths.Lookup.{missing, found}
use Rattle.datatype.specs.Symbols.{same_number}
use Rattle.table.specs.Table.{name_at, value_at, offset_word, member_type_word}

-- of the n rows from first on, the newest whose name is x
unfoldable pub row_named : List ℕ → List ℕ → List ℕ → ℕ → ℕ → Option ℕ
row_named w t x first zero = None
row_named w t x first (suc n) = cond (same x (name_at w t (first + n))) (Some (first + n)) (row_named w t x first n)

-- of the n rows from first on, the newest whose value is z
unfoldable pub row_numbered : List ℕ → ℤ → ℕ → ℕ → Option ℕ
row_numbered w z first zero = None
row_numbered w z first (suc n) = cond (same_number z (value_at w (first + n))) (Some (first + n)) (row_numbered w z first n)

-- what a row that was found says of a member, of a value's number and of a value's name
abbrev pub member_found : (ℕ → Datatype) → List ℕ → Option ℕ → Lookup
member_found D w (Some j) = found (offset_word w j) (D (member_type_word w j))
member_found D w None = missing

abbrev pub value_found : List ℕ → Option ℕ → MathOption ℤ
value_found w (Some j) = some (value_at w j)
value_found w None = none

abbrev pub name_found : List ℕ → List ℕ → Option ℕ → MathOption (List ℕ)
name_found w t (Some j) = some (name_at w t j)
name_found w t None = none

-- A row found by its name, in whatever order the rows are looked at.
use Rattle.std.specs.Prelude.{Option, Some, None, ◌≡◌, Bool, true, ◌&&◌, List, ℕ, ◌+◌, ◌<◌, leb, ltb}
use Rattle.datatype.specs.Datatype.{same}
use Rattle.table.specs.Table.{name_at}
use Rattle.table.specs.Rows.{row_named}

-- row j is one of the n rows from first on, and its name is x
unfoldable pub is_named : List ℕ → List ℕ → List ℕ → ℕ → ℕ → ℕ → Bool
is_named w t x first n j = leb first j && (ltb j (first + n) && same x (name_at w t j))

-- the names of the n rows from first on are unique: no row has that of a later one
pub record NamesOnce (w t : List ℕ) (first n : ℕ) : Type 0 where
  pub each : (q : ℕ) → q < n → row_named w t (name_at w t (first + q)) first q ≡ None

-- r is one of the n rows from first on, and has the name x; or none of them has it. Where their names are unique, that is what row_named finds
pub record NamedIn (w t x : List ℕ) (first n : ℕ) (r : Option ℕ) : Type 0 where
  pub has : (j : ℕ) → r ≡ Some j → is_named w t x first n j ≡ true
  pub none : r ≡ None → row_named w t x first n ≡ None

-- A line of the list of differences by its columns: a number and the tab before it.
use Rattle.std.specs.Prelude.{List, [], ◌∷◌, ◌++◌, ℕ, ℤ}
use Rattle.text.specs.Text.{tab, newline}
use Rattle.text.specs.Field.{signed_of}

unfoldable pub column : ℤ → List ℕ
column z = tab ∷ signed_of z

-- the last two columns, and the newline behind them
unfoldable pub numbers : ℤ → ℤ → List ℕ
numbers z w = column z ++ column w ++ (newline ∷ [])

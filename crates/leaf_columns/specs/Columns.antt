-- A line of the leaf list by its columns.
use Rattle.std.specs.Prelude.{◌≡◌, cond, List, [], ◌∷◌, ◌++◌, ℕ, ◌≤◌, eqb, length}
use Rattle.text.specs.Text.{bytes, tab}
use Rattle.text.specs.Field.{decimal_of}

-- a number and the tab behind it
unfoldable pub column : ℕ → List ℕ
column n = decimal_of n ++ (tab ∷ [])

-- the last column by the class word of a leaf's type, and the newline behind it
unfoldable pub class_column : ℕ → List ℕ
class_column c =
    cond (eqb c 2) (bytes "enum\n") (cond (eqb c 5) (bytes "real\n") (cond (eqb c 1) (bytes "bits\n") (bytes "int\n")))

unfoldable pub columns : ℕ → ℕ → ℕ → List ℕ
columns b z c = column b ++ column z ++ class_column c

-- r is the length of the line: at most two numbers of 20 digits, two tabs, a class of 4 bytes and a newline
pub record Length (line : List ℕ) (r : ℕ) : Type 0 where
  pub is : r ≡ length line
  pub few : r ≤ 47

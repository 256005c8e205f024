-- What the functions inside the crate promise. No public contract cites this file.
use Rattle.std.specs.Prelude.{◌≡◌, Bool, true, false, cond, not, ◌||◌, List, ℕ, zero, suc, ◌+◌, ◌*◌, ◌<◌, eqb, get_or, length}
use Rattle.datatype.specs.Datatype.{Symbol}
use Rattle.datatype.specs.SymbolSets.{all_stand_in}
use Rattle.table.specs.Table.{first_word, rows_word, symbols_at}
use Rattle.paths.specs.Steps.{kind_at}

-- the values in the rows of type i
abbrev pub symbols_of_type : List ℕ → List ℕ → ℕ → List Symbol
symbols_of_type w t i = symbols_at w t (first_word w i) (rows_word w i)

-- every symbol of the source's type s stands in the destination's type d
abbrev pub all_stand : List ℕ → List ℕ → ℕ → List ℕ → List ℕ → ℕ → Bool
all_stand ws ts s wd td d = all_stand_in (symbols_of_type ws ts s) (symbols_of_type wd td d)

-- byte 64 × s + d of `seen` is 1 only where that is so
pub record Seen (ws ts wd td seen : List ℕ) : Type 0 where
  pub pairs : length seen ≡ 4096
  pub stand : (s d : ℕ) → d < 64 → get_or seen (64 * s + d) 0 ≡ 1 → all_stand ws ts s wd td d ≡ true

-- 0 int, 1 bits, 5 real: no enum, no compound, no array
unfoldable pub is_number : ℕ → Bool
is_number kind = cond (eqb kind 2) false (cond (eqb kind 3) false (not (eqb kind 4)))

-- one of the first n types is an enum
unfoldable pub any_enum : List ℕ → ℕ → Bool
any_enum w zero = false
any_enum w (suc n) = eqb (kind_at w n) 2 || any_enum w n

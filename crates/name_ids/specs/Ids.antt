-- What the functions that make ids of names promise. No meaning of document 01 stands here.
use Rattle.std.specs.Prelude.{◌≡◌, List, ℕ, ◌+◌, ◌≤◌, ◌<◌, get_or, length}
use Rattle.table.specs.Table.{name_at}
use Rattle.table.specs.Rows.{row_named}
use Rattle.plans.specs.PlanWords.{row_code}

-- the ids of the names of the first n rows of w, from word k on, by the first rows of wd; all other words are as they were
pub record IdsPut (before : List ℕ) (k : ℕ) (w t : List ℕ) (n : ℕ) (wd td : List ℕ) (rows : ℕ) (after : List ℕ) : Type 0 where
  pub ids : (j : ℕ) → j < n → get_or after (k + j) 0 ≡ row_code (row_named wd td (name_at w t j) 0 rows)
  pub below : (j : ℕ) → j < k → get_or after j 0 ≡ get_or before j 0
  pub above : (j : ℕ) → k + n ≤ j → get_or after j 0 ≡ get_or before j 0
  pub long : length after ≡ length before

-- The plan of two types, in words.
use Rattle.std.specs.Prelude.{◌≡◌, List, [], ◌∷◌, ◌++◌, ℕ, zero, suc, ◌+◌, ◌*◌, ◌≤◌, length, set}
use Rattle.datatype.specs.Datatype.{Datatype, size}
use Rattle.datatype.specs.Matches.{Match, on_match}
use Rattle.records.specs.Plan.{Entry, plan_of}
use Rattle.plans.specs.PlanWords.{entries_at}
use Rattle.table.specs.Table.{size_word}
use Rattle.paths.specs.declared.Pair.{Pair}
use Rattle.paths.specs.declared.Pair.TheVariants.{Matched, Unmatched}
use Rattle.paths.specs.Leaf.{match_of}

-- the plan p, of r entries, from S to D, whose leaves are types of the tables ws and wd; it was `before` at first
pub record Planned (ws ts wd td : List ℕ) (S D : Datatype) (before p : List ℕ) (r : ℕ) : Type 0 where
  pub entries : entries_at p r ws ts wd td ≡ plan_of S D
  pub room : length p ≡ length before
  pub few : r ≤ size D
  pub most : r ≤ 4096

-- ---- one entry more

-- entry n, in two words
unfoldable pub entry_put : List ℕ → ℕ → ℕ → ℕ → ℕ → ℕ → List ℕ
entry_put plan n to from s d = set (set plan (2 * n) (to * 4096 + from)) (2 * n + 1) (s * 64 + d)

-- the entry of a match at byte b, if there is one
abbrev pub entry_of : ℕ → Match → List Entry
entry_of b m = on_match (λ a x y. record { to = b; from = a; source = x; destination = y } ∷ []) [] m

-- how many bytes lie from byte b, where the match is m, to the next byte that may have one
abbrev pub step_of : List ℕ → Pair → ℕ
step_of wd (Matched a s d) = size_word wd d
step_of wd (Unmatched n) = n

-- the plan p has r entries: the n of the plan `before`, and that of the match m at byte b
pub record Added (before : List ℕ) (n b : ℕ) (m : Pair) (p : List ℕ) (r : ℕ) : Type 0 where
  pub entries : (ws ts wd td : List ℕ) → entries_at p r ws ts wd td ≡ entries_at before n ws ts wd td ++ entry_of b (match_of ws ts wd td m)
  pub room : length p ≡ length before
  pub most : r ≤ n + 1

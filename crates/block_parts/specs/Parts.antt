-- A plan whose entries are those of a smaller plan, again and again: a record falls into m equal parts, and each of them is a record of that plan. No meaning of document 01 stands here.
use Rattle.std.specs.Prelude.{◌≡◌, List, ℕ, ◌+◌, ◌*◌, ◌≤◌, ◌<◌}
use Rattle.table.specs.Table.{type_word, layout_at}
use Rattle.plans.specs.PlanWords.{to_byte, from_byte, source_type_of, destination_type_of}

-- the types x and y have the same words, so they are one type under two numbers
abbrev pub SameWords : List ℕ → ℕ → ℕ → Type 0
SameWords w x y = (k : ℕ) → k < 16 → type_word w x k ≡ type_word w y k

-- records of s and d bytes in m parts of a and b bytes, with e of the plan's n entries in each
pub record InParts (m a b e s d : ℕ) (plan : List ℕ) (n : ℕ) (ws wd : List ℕ) : Type 0 where
  pub some : 1 ≤ m
  pub few : m ≤ 4096
  pub source : s ≡ m * a
  pub destination : d ≡ m * b
  pub entries : n ≡ m * e
  pub to : (i : ℕ) → i + e < n → to_byte plan (i + e) ≡ to_byte plan i + b
  pub from : (i : ℕ) → i + e < n → from_byte plan (i + e) ≡ from_byte plan i + a
  pub sources : (i : ℕ) → i + e < n → SameWords ws (source_type_of plan (i + e)) (source_type_of plan i)
  pub destinations : (i : ℕ) → i + e < n → SameWords wd (destination_type_of plan (i + e)) (destination_type_of plan i)
  pub read : (i : ℕ) → i < e → from_byte plan i + (layout_at ws (source_type_of plan i)).size.0 ≤ a
  pub write : (i : ℕ) → i < e → to_byte plan i + (layout_at wd (destination_type_of plan i)).size.0 ≤ b

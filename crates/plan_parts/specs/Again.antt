-- What the search for the parts of a plan compares. No meaning of document 01 stands here.
use Rattle.std.specs.Prelude.{◌≡◌, List, ℕ, ◌+◌, ◌≤◌, ◌<◌}
use Rattle.table.specs.Table.{layout_at}
use Rattle.block_parts.specs.Parts.{SameWords}
use Rattle.plans.specs.PlanWords.{to_byte, from_byte, source_type_of, destination_type_of}

-- the entry that stands e behind entry i is entry i, a bytes further on in the source record and b in the destination record
pub record Again (plan : List ℕ) (e a b : ℕ) (ws wd : List ℕ) (i : ℕ) : Type 0 where
  pub to : to_byte plan (i + e) ≡ to_byte plan i + b
  pub from : from_byte plan (i + e) ≡ from_byte plan i + a
  pub source : SameWords ws (source_type_of plan (i + e)) (source_type_of plan i)
  pub destination : SameWords wd (destination_type_of plan (i + e)) (destination_type_of plan i)

-- entry i lies in the first part
pub record Lies (plan : List ℕ) (a b : ℕ) (ws wd : List ℕ) (i : ℕ) : Type 0 where
  pub read : from_byte plan i + (layout_at ws (source_type_of plan i)).size.0 ≤ a
  pub write : to_byte plan i + (layout_at wd (destination_type_of plan i)).size.0 ≤ b

-- so it is with each entry of n that has one e behind it
abbrev pub Repeats : List ℕ → ℕ → ℕ → ℕ → List ℕ → List ℕ → ℕ → Type 0
Repeats plan e a b ws wd n = (i : ℕ) → i + e < n → Again plan e a b ws wd i

-- and with each of the first e
abbrev pub AllLie : List ℕ → ℕ → ℕ → List ℕ → List ℕ → ℕ → Type 0
AllLie plan a b ws wd e = (i : ℕ) → i < e → Lies plan a b ws wd i

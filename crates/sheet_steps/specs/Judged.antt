-- What the code that judges a line promises: the table stands for what the definition gives.
use Rattle.std.specs.Prelude as code
use Rattle.std.specs.Prelude.{◌≡◌, List, ℕ, length, Some, None}
use Rattle.std.proofs.Math.Option.{Option, none, some}
use Rattle.table.specs.Table.{types_at, Holds}
use Rattle.sheet_steps.specs.declared.Counts.{Counts}
use Rattle.sheet.specs.Sheet.{SoFar}
use Rattle.sheet_steps.specs.Noted.{Noted}

-- n types and m rows in the table w beside the text t
abbrev pub so_far_at : List ℕ → List ℕ → ℕ → ℕ → SoFar
so_far_at w t n m = record { types = types_at w t n; rows = m }

abbrev pub judged_as : code.Option Counts → List ℕ → List ℕ → Option SoFar
judged_as (Some c) w t = some (so_far_at w t c.types c.rows)
judged_as None w t = none

abbrev pub HoldsAfter : code.Option Counts → List ℕ → Type 0
HoldsAfter (Some c) w = Holds w c.types c.rows
HoldsAfter None w = Unit {0}

abbrev pub NotedAfter : code.Option Counts → List ℕ → List ℕ → Type 0
NotedAfter (Some c) w t = Noted w t c.types c.rows
NotedAfter None w t = Unit {0}

-- the table w after a line stands for `after`, as the answer r says
pub record Judges (w t : List ℕ) (after : Option SoFar) (r : code.Option Counts) : Type 0 where
  pub is : judged_as r w t ≡ after
  pub holds : HoldsAfter r w
  pub noted : NotedAfter r w t
  pub words : length w ≡ 4096

-- The halves of the table, as a call that compares two logs hands them on. Assumes nothing.
use mathlib.Core.Bool.{false}
use mathlib.Core.List.{List}
use Prim.Native.Nat.{ℕ, ◌-◌}
use lib.ListN.{length, take, drop}
use Rattle.answer.specs.declared.Answer.{Answer}
use Rattle.table.specs.Table.{type_at}
use Rattle.two_sheets.specs.TwoSheets.{first as front, second as back}
use Rattle.two_sheets.proofs.Halves.{rest_is}
use Rattle.conversion.specs.Call.{Passes}
use Rattle.compare_frames.specs.Listed.{Leaves, list_checked}

module _ (ss ds w : List ℕ) (i k : ℕ) where
  -- the second half as a part of the table
  abbrev rest : List ℕ
  rest = take (length w - 4096) (drop 4096 w)

  pub framed_asked : {n p q : ℕ} → Passes false ss ds n q p (front w) i (back w) k → Passes false ss ds n q p (front w) i rest k
  framed_asked h = rw (rest_is w) h

  pub framed_left : (n : ℕ) (first second list : List ℕ) (r : Answer) (list' : List ℕ)
      → Leaves n first second list (list_checked n first second (length list) (type_at (front w) ss i) (type_at rest ds k)) r list'
      → Leaves n first second list (list_checked n first second (length list) (type_at (front w) ss i) (type_at (back w) ds k)) r list'
  framed_left n first second list r list' h = rw (rest_is w) at h

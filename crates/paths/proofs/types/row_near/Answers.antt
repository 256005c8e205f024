-- `paths::types::row_near` meets its contract. No invariant: where the loop looks is of no account. Assumes nothing.
use native.Mathlib.Omega.{arith}
use Rattle.paths.proofs.Rows.{over_rows, over_place}
use Rattle.paths.proofs.types.row_near.Goals as goal

pub returns-then-n-at : goal.returns-then-n-at
returns-then-n-at c = over_rows _ _ _ _ c.row_over.ensures

pub returns-then-row_covers : goal.returns-then-row_covers
returns-then-row_covers c = over_place _ _ _ _ _ (omega arith) c.row_covers.ensures c.if-row_covers.true

pub returns : goal.returns
returns c = over_rows _ _ _ _ c.row_over-2.ensures

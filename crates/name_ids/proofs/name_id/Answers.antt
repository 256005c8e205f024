-- `name_ids::name_id` meets its contract: a row that was found is below 256, so it fits a word. Assumes nothing.
use native.Mathlib.Omega.{arith}
use borrow.Author.Rules.{rules}
use Rattle.name_ids.proofs.Ids.{id_small}
use Rattle.name_ids.proofs.name_id.Goals as goal

pub overflow_cast-result : goal.overflow_cast-result
overflow_cast-result c =
    let low = id_small _ _ _ _ c.row_named.ensures c.in-Some.is (search rules) in
    omega (arith, low)

pub overflow_add-result : goal.overflow_add-result
overflow_add-result c =
    let low = id_small _ _ _ _ c.row_named.ensures c.in-Some.is (search rules) in
    omega (arith, low)

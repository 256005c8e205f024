-- `name_ids::put_names` meets its contract. Assumes nothing.
use Rattle.name_ids.proofs.Ids.{names_put}
use Rattle.name_ids.proofs.put_names.Goals as goal

pub returns : goal.returns
returns c = names_put _ _ _ _ _ _ _ _ c.rows_in.ensures c.rows_in-rows.ensures c.put_ids.ensures c.put_ids-2.ensures

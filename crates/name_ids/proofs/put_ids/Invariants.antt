-- `name_ids::put_ids` meets its contract. The invariant: the ids of the first j rows are put. Assumes nothing.
use Rattle.name_ids.specs.Ids.{IdsPut}
use Rattle.name_ids.proofs.put_ids.Given as goal

abbrev pub invariant-loop-j : goal.invariant-loop-j
invariant-loop-j l = IdsPut l.initial.words l.place l.half l.sheet l.j l.destination_half l.destination_sheet l.rows l.words

-- `obeying::rows_ask` meets its contract. The invariant: no row so far asks for another handling. Assumes nothing.
use Rattle.obeying.specs.Obeying.{RowsObey}
use Rattle.obeying.proofs.rows_ask.Given as goal

abbrev pub invariant-loop-row : goal.invariant-loop-row
invariant-loop-row l = RowsObey l.half l.handling l.type_number l.first l.row

-- `symbol_columns::find` meets its contract. The loop's invariant: the steps that are left find the key. Assumes nothing.
use Rattle.symbol_columns.proofs.Finding.{Finding}
use Rattle.symbol_columns.proofs.find.Given as goal

abbrev pub invariant-loop-step : goal.invariant-loop-step
invariant-loop-step l = Finding l.table l.raw l.step l.at

abbrev pub decreases-loop-step : goal.decreases-loop-step
decreases-loop-step l = l.step

-- `atomic_lines::layout_columns` meets its contract. Assumes nothing.
use Rattle.line.specs.Column.{layout_at, on_found}
use Rattle.line.proofs.Answers.{on_laws}
use Rattle.atomic_lines.proofs.layout_columns.Goals as goal

pub returns-in_default : goal.returns-in_default
unfolding layout_at on_found
returns-in_default c = search on_laws depth 9

pub returns-in_default-order_column : goal.returns-in_default-order_column
unfolding layout_at on_found
returns-in_default-order_column c = search on_laws depth 9

pub returns-in_default-number_column : goal.returns-in_default-number_column
unfolding layout_at on_found
returns-in_default-number_column c = search on_laws depth 9

pub returns-in_default-number_column-2 : goal.returns-in_default-number_column-2
unfolding layout_at on_found
returns-in_default-number_column-2 c = search on_laws depth 9

pub returns-in_default-pad_column : goal.returns-in_default-pad_column
unfolding layout_at on_found
returns-in_default-pad_column c = search on_laws depth 9

pub returns-in_default-pad_column-2 : goal.returns-in_default-pad_column-2
unfolding layout_at on_found
returns-in_default-pad_column-2 c = search on_laws depth 9

pub returns : goal.returns
unfolding layout_at on_found
returns c = search on_laws depth 9

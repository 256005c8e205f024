-- `symbol_columns::step_up` meets its contract. Assumes nothing.
use Rattle.std.proofs.Common.{arith}
use Rattle.symbol_columns.proofs.Finding.{step_room, step_in, step_past}
use Rattle.symbol_columns.proofs.step_up.Goals as goal

pub overflow_add-result : goal.overflow_add-result
overflow_add-result c =
    let a = c.args in
    omega (arith, c.requires.0, step_room a.table.now a.raw a.step a.at a.keys c.requires.2 c.step_to-up.ensures)

pub returns-then-j-keys : goal.returns-then-j-keys
returns-then-j-keys c =
    let a = c.args in
    step_in a.table.now a.raw a.step a.at a.keys c.requires.2 c.if-j-keys.true c.step_to-up.ensures

pub returns-else-j-keys : goal.returns-else-j-keys
returns-else-j-keys c =
    let a = c.args in
    step_past a.table.now a.raw a.step a.at a.keys c.requires.2 (omega (arith, c.if-j-keys.false))

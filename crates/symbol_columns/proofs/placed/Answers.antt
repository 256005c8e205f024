-- `symbol_columns::placed` meets its contract. Assumes nothing.
use Rattle.symbol_columns.proofs.Symbols.{placed_fits, placed_is}
use Rattle.symbol_columns.proofs.placed.Goals as goal

pub overflow_add-result : goal.overflow_add-result
overflow_add-result c =
    let a = c.args in
    record { fits = placed_fits a.out a.into a.up a.ones c.requires.0 c.requires.2 }

pub returns : goal.returns
returns c =
    let a = c.args in
    placed_is a.out a.into a.up a.ones c.requires.0 c.requires.2

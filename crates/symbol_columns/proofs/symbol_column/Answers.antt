-- `symbol_columns::symbol_column` meets its contract. Assumes nothing.
use Rattle.std.proofs.Common.{rules}
use Rattle.symbol_columns.proofs.Symbols.{column_room, column_is}
use Rattle.symbol_columns.proofs.symbol_column.Goals as goal

pub store_64-requires : goal.store_64-requires
store_64-requires c =
    let a = c.args in
    let load = c.load_64 in
    let made = c.translate_each-raised in
    (search rules, search rules, search rules, search rules, column_room a.table.now a.w c.requires.0 c.requires.1 a.count load.new.t made.new.t made.ensures.0)

pub returns : goal.returns
returns c =
    let a = c.args in
    let load = c.load_64 in
    let made = c.translate_each-raised in
    column_is a.table.now a.w a.count load.new.t a.source_byte a.source_size a.src.now load.ensures made.new.t a.destination_byte a.destination_size a.dst.now c.store_64.ensures made.ensures

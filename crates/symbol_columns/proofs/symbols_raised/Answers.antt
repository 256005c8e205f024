-- `symbol_columns::symbols_raised` meets its contract. Assumes nothing.
use Rattle.std.proofs.Common.{◌∙◌}
use Rattle.symbol_columns.proofs.Symbols.{column_raised}
use Rattle.symbol_columns.proofs.symbols_raised.Goals as goal

pub returns : goal.returns
returns c =
    let a = c.args in
    let load = c.load_64 in
    let made = c.translate_each in
    (made.ensures.1 ∙ column_raised a.table.now a.w a.count load.new.t a.source_byte a.source_size a.src.now load.ensures, made.ensures.2)

-- `columns::raised_32` meets its contract. Assumes nothing.
use mathlib.Core.Path.{◌∙◌}
use Rattle.columns.proofs.Composed.{column_raised}
use Rattle.columns.proofs.raised_32.Goals as goal

pub returns : goal.returns
returns c =
    let a = c.args in
    let load = c.load_32 in
    (c.count_32.ensures.0 ∙ column_raised a.w a.count load.new.t a.source_byte a.source_size a.src.now load.ensures, c.count_32.ensures.1)

-- `real_columns::made` meets its contract. Assumes nothing.
use Rattle.real_columns.proofs.Columns.{column_made}
use Rattle.real_columns.proofs.made.Goals as goal

pub returns : goal.returns
returns c =
    let a = c.args in
    let load = c.load_64 in
    let call = c.make in
    column_made a.l a.m a.source_byte a.source_size a.src.now c.requires.4 a.count c.requires.7 a.from_real load.new.t call.new.t load.ensures call.ensures

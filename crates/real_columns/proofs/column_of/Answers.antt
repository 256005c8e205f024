-- `real_columns::column_of` meets its contract. Assumes nothing.
use Rattle.std.proofs.Common.{rules}
use Rattle.real_columns.proofs.Columns.{column_room, column_stored, keep_is}
use Rattle.real_columns.proofs.column_of.Goals as goal

pub store_64-requires : goal.store_64-requires
store_64-requires c =
    let a = c.args in
    let call = c.made-raised in
    (search rules, search rules, search rules, search rules, column_room a.l a.m c.requires.0 c.requires.1 a.source_byte a.source_size a.src.now a.from_real a.count call.new.t (keep_is a.l a.m c.words_of-w.ensures) call.ensures c.requires.2)

pub returns : goal.returns
returns c =
    let a = c.args in
    let call = c.made-raised in
    (column_stored a.l a.m c.requires.0 c.requires.1 a.source_byte a.source_size a.src.now a.from_real a.count call.new.t (keep_is a.l a.m c.words_of-w.ensures) call.ensures a.destination_byte a.destination_size a.dst.now c.store_64.ensures, call.ensures.1, call.ensures.2)

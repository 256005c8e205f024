-- `whole_columns::move_column` meets its contract. Assumes nothing.
use mathlib.Core.Path.{◌≡◌}
use borrow.Author.Rules.{rules}
use Rattle.whole_columns.proofs.Dense.{gapless_is, gapless_room}
use Rattle.whole_columns.proofs.move_column.Goals as goal

pub move_dense-requires : goal.move_dense-requires
move_dense-requires c =
    let a = c.args in
    let p : a.source_size ≡ a.w.source_size = search rules in
    let q : a.destination_size ≡ a.w.size = search rules in
    let room = gapless_room a.w a.destination_byte a.source_byte p q c.requires.2 c.requires.3 a.count a.src.now a.dst.now c.requires.4 c.requires.5 in
    (c.requires.0, c.requires.1, room.0, room.1)

pub returns-then-destination_size-w : goal.returns-then-destination_size-w
returns-then-destination_size-w c =
    let a = c.args in
    let p : a.source_size ≡ a.w.source_size = search rules in
    let q : a.destination_size ≡ a.w.size = search rules in
    gapless_is a.w a.destination_byte a.source_byte p q c.requires.2 c.requires.3 a.src.now a.count a.dst.now _ c.move_dense.ensures

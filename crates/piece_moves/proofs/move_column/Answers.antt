-- `piece_moves::move_column` meets its contract. Assumes nothing.
use Rattle.piece_moves.proofs.Moves.{by_constant}
use Rattle.piece_moves.proofs.move_column.Goals as goal

pub returns-then-bytes-eq16 : goal.returns-then-bytes-eq16
returns-then-bytes-eq16 c =
    let a = c.args in
    by_constant 16 a.bytes a.destination_byte a.source_byte a.source_size a.destination_size a.src.now a.count a.dst.now c.if-bytes-eq16.true c.move_each.ensures

pub returns-then-bytes-eq8 : goal.returns-then-bytes-eq8
returns-then-bytes-eq8 c =
    let a = c.args in
    by_constant 8 a.bytes a.destination_byte a.source_byte a.source_size a.destination_size a.src.now a.count a.dst.now c.if-bytes-eq8.true c.move_each-then-bytes-eq8.ensures

pub returns-then-bytes-eq4 : goal.returns-then-bytes-eq4
returns-then-bytes-eq4 c =
    let a = c.args in
    by_constant 4 a.bytes a.destination_byte a.source_byte a.source_size a.destination_size a.src.now a.count a.dst.now c.if-bytes-eq4.true c.move_each-then-bytes-eq4.ensures

pub returns-then-bytes-eq2 : goal.returns-then-bytes-eq2
returns-then-bytes-eq2 c =
    let a = c.args in
    by_constant 2 a.bytes a.destination_byte a.source_byte a.source_size a.destination_size a.src.now a.count a.dst.now c.if-bytes-eq2.true c.move_each-then-bytes-eq2.ensures

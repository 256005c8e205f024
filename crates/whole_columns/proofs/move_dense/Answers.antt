-- `whole_columns::move_dense` meets its contract. Assumes nothing.
use mathlib.Core.Path.{◌≡◌}
use native.Mathlib.Omega.{arith}
use Rattle.whole_columns.proofs.Dense.{dense_is, dense_room}
use Rattle.whole_columns.proofs.move_dense.Goals as goal

pub move_dense_1_1-requires : goal.move_dense_1_1-requires
move_dense_1_1-requires c =
    let p : c.args.w.source_size ≡ 1 = omega (arith, c.requires.0.destination) in
    let q : c.args.w.size ≡ 1 = omega (arith, c.requires.0.destination) in
    let room = dense_room c.args.w p q c.args.count c.args.src.now c.args.dst.now c.requires.2 c.requires.3 in
    (c.requires.1, p, q, room.0, room.1)

pub move_dense_1_2-requires : goal.move_dense_1_2-requires
move_dense_1_2-requires c =
    let p : c.args.w.source_size ≡ 1 = omega (arith, c.requires.0.destination) in
    let q : c.args.w.size ≡ 2 = omega (arith, c.requires.0.destination) in
    let room = dense_room c.args.w p q c.args.count c.args.src.now c.args.dst.now c.requires.2 c.requires.3 in
    (c.requires.1, p, q, room.0, room.1)

pub move_dense_1_4-requires : goal.move_dense_1_4-requires
move_dense_1_4-requires c =
    let p : c.args.w.source_size ≡ 1 = omega (arith, c.requires.0.destination) in
    let q : c.args.w.size ≡ 4 = omega (arith, c.requires.0.destination) in
    let room = dense_room c.args.w p q c.args.count c.args.src.now c.args.dst.now c.requires.2 c.requires.3 in
    (c.requires.1, p, q, room.0, room.1)

pub move_dense_1_8-requires : goal.move_dense_1_8-requires
move_dense_1_8-requires c =
    let p : c.args.w.source_size ≡ 1 = omega (arith, c.requires.0.destination) in
    let q : c.args.w.size ≡ 8 = omega (arith, c.requires.0.destination) in
    let room = dense_room c.args.w p q c.args.count c.args.src.now c.args.dst.now c.requires.2 c.requires.3 in
    (c.requires.1, p, q, room.0, room.1)

pub move_dense_2_2-requires : goal.move_dense_2_2-requires
move_dense_2_2-requires c =
    let p : c.args.w.source_size ≡ 2 = omega (arith, c.requires.0.destination) in
    let q : c.args.w.size ≡ 2 = omega (arith, c.requires.0.destination) in
    let room = dense_room c.args.w p q c.args.count c.args.src.now c.args.dst.now c.requires.2 c.requires.3 in
    (c.requires.1, p, q, room.0, room.1)

pub move_dense_2_4-requires : goal.move_dense_2_4-requires
move_dense_2_4-requires c =
    let p : c.args.w.source_size ≡ 2 = omega (arith, c.requires.0.destination) in
    let q : c.args.w.size ≡ 4 = omega (arith, c.requires.0.destination) in
    let room = dense_room c.args.w p q c.args.count c.args.src.now c.args.dst.now c.requires.2 c.requires.3 in
    (c.requires.1, p, q, room.0, room.1)

pub move_dense_2_8-requires : goal.move_dense_2_8-requires
move_dense_2_8-requires c =
    let p : c.args.w.source_size ≡ 2 = omega (arith, c.requires.0.destination) in
    let q : c.args.w.size ≡ 8 = omega (arith, c.requires.0.destination) in
    let room = dense_room c.args.w p q c.args.count c.args.src.now c.args.dst.now c.requires.2 c.requires.3 in
    (c.requires.1, p, q, room.0, room.1)

pub move_dense_4_4-requires : goal.move_dense_4_4-requires
move_dense_4_4-requires c =
    let p : c.args.w.source_size ≡ 4 = omega (arith, c.requires.0.destination) in
    let q : c.args.w.size ≡ 4 = omega (arith, c.requires.0.destination) in
    let room = dense_room c.args.w p q c.args.count c.args.src.now c.args.dst.now c.requires.2 c.requires.3 in
    (c.requires.1, p, q, room.0, room.1)

pub move_dense_4_8-requires : goal.move_dense_4_8-requires
move_dense_4_8-requires c =
    let p : c.args.w.source_size ≡ 4 = omega (arith, c.requires.0.destination) in
    let q : c.args.w.size ≡ 8 = omega (arith, c.requires.0.destination) in
    let room = dense_room c.args.w p q c.args.count c.args.src.now c.args.dst.now c.requires.2 c.requires.3 in
    (c.requires.1, p, q, room.0, room.1)

pub move_dense_8_8-requires : goal.move_dense_8_8-requires
move_dense_8_8-requires c =
    let p : c.args.w.source_size ≡ 8 = omega (arith, c.requires.0.destination) in
    let q : c.args.w.size ≡ 8 = omega (arith, c.requires.0.destination) in
    let room = dense_room c.args.w p q c.args.count c.args.src.now c.args.dst.now c.requires.2 c.requires.3 in
    (c.requires.1, p, q, room.0, room.1)

pub returns-in-17 : goal.returns-in-17
returns-in-17 c =
    let p : c.args.w.source_size ≡ 1 = omega (arith, c.requires.0.destination) in
    let q : c.args.w.size ≡ 1 = omega (arith, c.requires.0.destination) in
    dense_is c.args.w p q c.args.src.now c.args.count c.args.dst.now _ c.move_dense_1_1.ensures

pub returns-in-18 : goal.returns-in-18
returns-in-18 c =
    let p : c.args.w.source_size ≡ 1 = omega (arith, c.requires.0.destination) in
    let q : c.args.w.size ≡ 2 = omega (arith, c.requires.0.destination) in
    dense_is c.args.w p q c.args.src.now c.args.count c.args.dst.now _ c.move_dense_1_2.ensures

pub returns-in-20 : goal.returns-in-20
returns-in-20 c =
    let p : c.args.w.source_size ≡ 1 = omega (arith, c.requires.0.destination) in
    let q : c.args.w.size ≡ 4 = omega (arith, c.requires.0.destination) in
    dense_is c.args.w p q c.args.src.now c.args.count c.args.dst.now _ c.move_dense_1_4.ensures

pub returns-in-24 : goal.returns-in-24
returns-in-24 c =
    let p : c.args.w.source_size ≡ 1 = omega (arith, c.requires.0.destination) in
    let q : c.args.w.size ≡ 8 = omega (arith, c.requires.0.destination) in
    dense_is c.args.w p q c.args.src.now c.args.count c.args.dst.now _ c.move_dense_1_8.ensures

pub returns-in-34 : goal.returns-in-34
returns-in-34 c =
    let p : c.args.w.source_size ≡ 2 = omega (arith, c.requires.0.destination) in
    let q : c.args.w.size ≡ 2 = omega (arith, c.requires.0.destination) in
    dense_is c.args.w p q c.args.src.now c.args.count c.args.dst.now _ c.move_dense_2_2.ensures

pub returns-in-36 : goal.returns-in-36
returns-in-36 c =
    let p : c.args.w.source_size ≡ 2 = omega (arith, c.requires.0.destination) in
    let q : c.args.w.size ≡ 4 = omega (arith, c.requires.0.destination) in
    dense_is c.args.w p q c.args.src.now c.args.count c.args.dst.now _ c.move_dense_2_4.ensures

pub returns-in-40 : goal.returns-in-40
returns-in-40 c =
    let p : c.args.w.source_size ≡ 2 = omega (arith, c.requires.0.destination) in
    let q : c.args.w.size ≡ 8 = omega (arith, c.requires.0.destination) in
    dense_is c.args.w p q c.args.src.now c.args.count c.args.dst.now _ c.move_dense_2_8.ensures

pub returns-in-68 : goal.returns-in-68
returns-in-68 c =
    let p : c.args.w.source_size ≡ 4 = omega (arith, c.requires.0.destination) in
    let q : c.args.w.size ≡ 4 = omega (arith, c.requires.0.destination) in
    dense_is c.args.w p q c.args.src.now c.args.count c.args.dst.now _ c.move_dense_4_4.ensures

pub returns-in-72 : goal.returns-in-72
returns-in-72 c =
    let p : c.args.w.source_size ≡ 4 = omega (arith, c.requires.0.destination) in
    let q : c.args.w.size ≡ 8 = omega (arith, c.requires.0.destination) in
    dense_is c.args.w p q c.args.src.now c.args.count c.args.dst.now _ c.move_dense_4_8.ensures

pub returns-in-136 : goal.returns-in-136
returns-in-136 c =
    let p : c.args.w.source_size ≡ 8 = omega (arith, c.requires.0.destination) in
    let q : c.args.w.size ≡ 8 = omega (arith, c.requires.0.destination) in
    dense_is c.args.w p q c.args.src.now c.args.count c.args.dst.now _ c.move_dense_8_8.ensures

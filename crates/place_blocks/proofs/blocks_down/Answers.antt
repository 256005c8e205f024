-- `place_blocks::blocks_down` meets its contract: all records, or none. Assumes nothing.
use mathlib.Core.Path.{◌≡◌, refl}
use Prim.Native.Nat.{◌-◌}
use native.Mathlib.Omega.{arith}
use Rattle.loops.proofs.PlaceTurns.{down_start}
use Rattle.blocks.proofs.BlockTurns.{job_ready}
use Rattle.place_blocks.proofs.blocks_down.Goals as goal

pub parts_in_blocks-parts-requires : goal.parts_in_blocks-parts-requires
parts_in_blocks-parts-requires c =
    let p = c.requires in
    (p.0, p.1)

pub put_tables-requires : goal.put_tables-requires
put_tables-requires c = (refl, (c.args.source_size, c.args.destination_size, job_ready c.requires.0))

pub plain_down-requires : goal.plain_down-requires
plain_down-requires c =
    let p = c.requires in
    let tables = c.put_tables in
    let parts = c.parts_in_blocks-parts.ensures c.if-parts-gt0.true in
    (p.0, tables.ensures c.if-put_tables.true, omega (arith, tables.auto.tables), parts, p.1, p.2, p.3, p.4, p.5)

pub returns-else-put_tables : goal.returns-else-put_tables
returns-else-put_tables c =
    let a = c.args in
    let whole : a.count - 0 ≡ a.count = omega arith in
    (omega arith, λ j. rw whole (down_start j.source j.destination j.source_formed j.destination_formed a.source_size a.destination_size j.source_size j.destination_size a.count a.buf.now a.background.now c.requires.5 c.requires.2))

pub returns-else-parts-gt0 : goal.returns-else-parts-gt0
returns-else-parts-gt0 c =
    let a = c.args in
    let whole : a.count - 0 ≡ a.count = omega arith in
    (omega arith, λ j. rw whole (down_start j.source j.destination j.source_formed j.destination_formed a.source_size a.destination_size j.source_size j.destination_size a.count a.buf.now a.background.now c.requires.5 c.requires.2))

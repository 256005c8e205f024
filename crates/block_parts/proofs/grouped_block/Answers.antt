-- `block_parts::grouped_block` meets its contract: records in parts are so many more records. Assumes nothing.
use native.Mathlib.Omega.{arith}
use Rattle.block_parts.proofs.Parts.{part_ready, part_columned, part_kept, grouped_each, parts_few, source_rows_lem, destination_rows_lem}
use Rattle.block_parts.proofs.grouped_block.Goals as goal

pub overflow_mul-count : goal.overflow_mul-count
overflow_mul-count c = omega (arith, parts_few c.requires.2 c.args.count c.requires.5)

pub part_block-requires : goal.part_block-requires
part_block-requires c =
    let parts = c.requires.2 in
    let k = c.args.count in (
      (c.requires.0.0, part_ready parts c.requires.0.1, part_columned parts c.requires.0.1 c.args.tables.now c.requires.0.2, part_kept parts c.requires.0.1 c.args.tables.now c.requires.0.3),
      c.requires.1,
      c.requires.3,
      c.requires.4,
      parts_few parts k c.requires.5,
      c.requires.6,
      c.requires.7,
      rw (source_rows_lem parts k) c.requires.8,
      rw (destination_rows_lem parts k) c.requires.9,
    )

pub returns : goal.returns
returns c =
    let a = c.args in
    let call = c.part_block in
    ((λ words p has kept. grouped_each c.requires.2 p a.tables.now has kept a.src.now a.count call.result c.requires.8 a.dst.now call.new.dst c.requires.9 call.ensures.0), call.ensures.1)

-- `copy_blocks::copy_blocks` meets its contract: where it does nothing, no record is copied. Assumes nothing.
use mathlib.Core.Path.{refl}
use native.Mathlib.Omega.{arith}
use Rattle.loops.proofs.CopyTurns.{start}
use Rattle.blocks.proofs.BlockTurns.{job_ready}
use Rattle.copy_blocks.proofs.copy_blocks.Goals as goal

pub returns-then-entries-lt-MANY : goal.returns-then-entries-lt-MANY
returns-then-entries-lt-MANY c =
    let a = c.args in
    (omega arith, λ j. start j.source j.destination a.destination_size a.count a.src.now a.dst.now)

pub put_tables-requires : goal.put_tables-requires
put_tables-requires c = (refl, (c.args.source_size, c.args.destination_size, job_ready c.requires.0))

pub copy_plain-requires : goal.copy_plain-requires
copy_plain-requires c =
    let pre = c.requires in
    (pre.0, c.put_tables.ensures c.if-put_tables.true, omega (arith, c.put_tables.auto.tables), pre.1, pre.2, pre.3)

pub returns : goal.returns
returns c =
    let a = c.args in
    (omega arith, λ j. start j.source j.destination a.destination_size a.count a.src.now a.dst.now)

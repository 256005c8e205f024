-- `quiet_blocks::quiet_records` meets its contract. Assumes nothing.
use mathlib.Core.Path.{refl}
use native.Mathlib.Omega.{arith}
use Rattle.blocks.proofs.BlockTurns.{job_ready}
use Rattle.quiet_blocks.proofs.quiet_records.Goals as goal

pub put_tables-requires : goal.put_tables-requires
put_tables-requires c = (refl, (c.args.source_size, c.requires.0.0, job_ready c.requires.0.1))

pub quiet_plain-requires : goal.quiet_plain-requires
quiet_plain-requires c =
    let p = c.requires in
    let tables = c.put_tables in
    (p.0, tables.ensures c.if-put_tables.true, omega (arith, tables.auto.tables), p.1, p.2, p.3, p.4, p.5, p.6)

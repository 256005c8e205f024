-- `symbol_tables::read_rows` meets its contract. The invariant: the first i rows are read. Assumes nothing.
use mathlib.Core.Path.{refl}
use Prim.Native.Nat.{◌-◌}
use lib.ListN.{length-set}
use Rattle.symbol_tables.proofs.Steps.{rows_none, rows_more, rows_all}
use native.Mathlib.Omega.{arith}
use Rattle.symbol_tables.proofs.read_rows.Goals as goal

pub loop-i-init : goal.loop-i-init
loop-i-init c = (refl, rows_none _ _ _ _ _ _ _)

pub value_bits-bits-requires : goal.value_bits-bits-requires
value_bits-bits-requires c = c.requires.4.most

pub bits_code-code-requires : goal.bits_code-code-requires
bits_code-code-requires c =
    let p = c.requires in
    (p.4, p.5, p.6, p.7)

pub bounds-rows-i-in-loop-i : goal.bounds-rows-i-in-loop-i
bounds-rows-i-in-loop-i c = rw length-set (omega arith)

pub loop-i-preserved : goal.loop-i-preserved
loop-i-preserved c =
    let a = c.args in
    (rw (length-set, length-set) c.loop-i.invariant.0, rows_more a.source_type a.destination_type a.source_half.now a.destination_half.now a.words.now a.place c.loop-i.i c.loop-i.rows c.loop-i.invariant.1 (omega arith) (omega arith) c.requires.3 c.requires.5 c.value_bits-bits.ensures c.bits_code-code.ensures)

pub shape_of-rows : goal.shape_of-rows
shape_of-rows c = c.loop-i.invariant.0

pub returns : goal.returns
returns c =
    let a = c.args in
    rows_all a.source_type a.destination_type a.source_half.now a.destination_half.now a.words.now a.place c.loop-i.rows (omega arith) (omega arith) c.loop-i.invariant.1

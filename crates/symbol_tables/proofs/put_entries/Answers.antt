-- `symbol_tables::put_entries` meets its contract. The invariant: the first j entries are put. Assumes nothing.
use mathlib.Core.Path.{refl}
use Prim.Native.Nat.{◌-◌}
use lib.ListN.{length-set}
use Rattle.symbol_tables.proofs.Steps.{entries_more}
use native.Mathlib.Omega.{arith}
use Rattle.symbol_tables.proofs.put_entries.Goals as goal

pub loop-j-init : goal.loop-j-init
loop-j-init c = (refl, λ j h. absurd (omega arith))

pub word-requires : goal.word-requires
word-requires c = tt

pub loop-j-preserved : goal.loop-j-preserved
loop-j-preserved c =
    let a = c.args in
    (rw length-set c.loop-j.invariant.0, entries_more c.loop-j.table a.words.now a.start c.loop-j.j a.half.now a.precision c.loop-j.invariant.1 (omega arith) c.word.ensures c.entry_of.ensures)

pub shape_of-table : goal.shape_of-table
shape_of-table c = c.loop-j.invariant.0

pub returns : goal.returns
returns c = λ j h. c.loop-j.invariant.1 j (omega (arith, h, c.loop-j-test.false))

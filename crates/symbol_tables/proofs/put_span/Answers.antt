-- `symbol_tables::put_span` meets its contract. Assumes nothing.
use mathlib.Core.Bool.{false≢true}
use lib.ListN.{length-set}
use Rattle.symbol_tables.proofs.Steps.{span_put}
use native.Mathlib.Omega.{arith}
use Rattle.symbol_tables.proofs.put_span.Goals as goal

pub returns-then-count-gt-MOST_ENTRIES : goal.returns-then-count-gt-MOST_ENTRIES
returns-then-count-gt-MOST_ENTRIES c = λ e. absurd (false≢true e)

pub bounds-table-0 : goal.bounds-table-0
bounds-table-0 c = rw length-set (omega arith)

pub bounds-table-1 : goal.bounds-table-1
bounds-table-1 c = rw (length-set, length-set) (omega arith)

pub bounds-table-2 : goal.bounds-table-2
bounds-table-2 c = rw (length-set, length-set, length-set) (omega arith)

pub bounds-table-3 : goal.bounds-table-3
bounds-table-3 c = rw (length-set, length-set, length-set, length-set) (omega arith)

pub returns : goal.returns
returns c =
    let a = c.args in
    λ t. span_put c.put_entries.new.table c.at-count.result c.entry_of.result a.pair c.at-low.result (omega arith) (omega (arith, c.at-count.ensures)) a.words.now a.place a.half.now a.precision c.at-count.ensures c.at-low.ensures c.at.ensures c.put_entries.ensures c.entry_of.ensures

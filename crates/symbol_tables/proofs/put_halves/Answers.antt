-- `symbol_tables::put_halves` meets its contract. Assumes nothing.
use mathlib.Core.Bool.{false≢true}
use Rattle.symbol_tables.proofs.Steps.{halves_put}
use native.Mathlib.Omega.{arith}
use Rattle.symbol_tables.proofs.put_halves.Goals as goal

pub returns-then-count-gt-MOST_ROWS : goal.returns-then-count-gt-MOST_ROWS
returns-then-count-gt-MOST_ROWS c = λ e. absurd (false≢true e)

pub read_rows-requires : goal.read_rows-requires
read_rows-requires c = (omega arith, omega arith, c.type_word-first.ensures.small, c.type_word-first.ensures.is, rw c.layout_at-l.ensures.0 c.requires.3, c.layout_at-l.ensures.0, c.requires.4, c.requires.5)

pub returns : goal.returns
returns c =
    let a = c.args in
    λ e. ((c.put_keys.ensures e).0, halves_put a.source_type a.destination_type a.source_half.now a.destination_half.now a.words.now a.place c.symbol_rows-count.result a.precision c.symbol_rows-count.ensures c.requires.1 c.read_rows.ensures (c.put_keys.ensures e).1)

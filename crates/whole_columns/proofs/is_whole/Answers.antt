-- `whole_columns::is_whole` meets its contract. Assumes nothing.
use mathlib.Core.Bool.{false≢true}
use Rattle.whole_columns.proofs.is_whole.Goals as goal

pub returns-then-is_without_pads : goal.returns-then-is_without_pads
returns-then-is_without_pads c e =
    let bits = c.is_all_bits.ensures e in
    let pads = c.is_without_pads.ensures c.if-is_without_pads.true in
    let lowest = c.is_lowest.ensures c.if-is_lowest.true in
    let range = c.is_in_range.ensures c.if-is_in_range.true in
    record { down = lowest.0; mask = bits.0; low = range.0; high = range.1; into = bits.1; up = lowest.1; ones = pads.0; keep = pads.1 }

pub returns-else-is_without_pads : goal.returns-else-is_without_pads
returns-else-is_without_pads c e = absurd (false≢true e)

pub returns-else-is_lowest : goal.returns-else-is_lowest
returns-else-is_lowest c e = absurd (false≢true e)

pub returns-else-is_in_range : goal.returns-else-is_in_range
returns-else-is_in_range c e = absurd (false≢true e)

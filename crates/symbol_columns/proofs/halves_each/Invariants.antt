-- `symbol_columns::halves_each` meets its contract. The loop's invariant: the first i numbers are translated, those from i on as they were, and those without a symbol counted. Assumes nothing.
use Rattle.std.proofs.Common.{◌-◌, ◌≤◌}
use Rattle.symbol_columns.specs.Tables.{symbol_in, missing_in}
use Rattle.symbol_columns.proofs.Symbols.{Translated}
use Rattle.symbol_columns.proofs.halves_each.Given as goal

abbrev pub invariant-loop-i : goal.invariant-loop-i
invariant-loop-i l = Translated (symbol_in l.table l.shift l.mask l.into l.up l.ones) (missing_in l.table l.shift l.mask) l.initial.t l.t l.i l.raised

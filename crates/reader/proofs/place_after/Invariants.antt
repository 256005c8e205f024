-- `reader::place_after` meets its contract: from the place, the lines that are left lead to the same place as all lines from the start. Assumes nothing.
use Rattle.std.proofs.Common.{◌≡◌, ◌-◌}
use Rattle.reader.specs.Lines.{place_after}
use Rattle.reader.proofs.place_after.Given as goal

abbrev pub invariant-loop : goal.invariant-loop
invariant-loop l = place_after l.s l.place (l.n - l.counter) ≡ place_after l.s l.at l.n

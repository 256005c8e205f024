-- `reader::next_place` meets its contract: the line from i on ends where the whole line ends. Assumes nothing.
use Rattle.std.proofs.Common.{◌≡◌}
use Rattle.reader.specs.Lines.{place_after}
use Rattle.reader.proofs.next_place.Given as goal

abbrev pub invariant-loop-i : goal.invariant-loop-i
invariant-loop-i l = place_after l.s l.i 1 ≡ place_after l.s l.at 1

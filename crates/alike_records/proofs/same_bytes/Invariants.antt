-- `alike_records::same_bytes` meets its contract. The loop's invariant: whether one of the first j bytes differs. Assumes nothing.
use mathlib.Core.Path.{◌≡◌}
use lib.ListN.{length}
use Rattle.alike_records.proofs.SameBytes.{Found}
use Rattle.alike_records.proofs.same_bytes.Given as goal

abbrev pub invariant-loop-j : goal.invariant-loop-j
invariant-loop-j l = (length l.x ≡ l.n) × (length l.y ≡ l.n) × Found l.x l.y l.j l.other

-- `record_compare::record_len` meets its contract. The loop's invariant: the lines of the first i entries have len bytes. Assumes nothing.
use mathlib.Core.Path.{◌≡◌}
use Prim.Native.Nat.{◌*◌, ◌≤◌}
use lib.ListN.{length}
use Rattle.comparing.specs.Comparing.{record_text}
use Rattle.record_compare.proofs.record_len.Given as goal

abbrev pub invariant-loop-i : goal.invariant-loop-i
invariant-loop-i l = (l.len ≤ 84 * l.i) × (l.len ≡ length (record_text l.index l.first l.second l.plan l.i l.first_sheet l.first_half l.second_sheet l.second_half))

-- `row_rules::member::is_apart` meets its contract. The invariant: the answer is that of the rows that are left. Assumes nothing.
use Prim.Native.Nat.{◌≤◌}
use mathlib.Core.Path.{◌≡◌}
use Rattle.sheet_steps.specs.Steps.{apart_at}
use Rattle.row_rules.proofs.member.is_apart.Given as goal

abbrev pub invariant-loop-i : goal.invariant-loop-i
invariant-loop-i l = apart_at l.half l.first l.n l.offset l.width ≡ apart_at l.half l.first l.i l.offset l.width

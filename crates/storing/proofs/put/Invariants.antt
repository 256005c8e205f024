-- `storing::put` meets its contract. The invariant: the first i bytes are written, one after the other. Assumes nothing.
use mathlib.Core.Path.{◌≡◌}
use Rattle.bits.specs.Container.{contained}
use Rattle.bits.specs.Index.{set_all}
use Rattle.storing.proofs.put.Given as goal

abbrev pub invariant-loop-i : goal.invariant-loop-i
invariant-loop-i g l = l.d ≡ set_all l.initial.d l.at (contained l.order g.row.N l.c) 0 l.i

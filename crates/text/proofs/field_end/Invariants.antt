-- `text::field_end` meets its contract: the field from i on ends where the whole field ends. Assumes nothing.
use mathlib.Core.Path.{◌≡◌}
use Rattle.text.specs.Place.{field_end}
use Rattle.text.proofs.field_end.Given as goal

abbrev pub invariant-loop-i : goal.invariant-loop-i
invariant-loop-i l = field_end l.s l.i ≡ field_end l.s l.at

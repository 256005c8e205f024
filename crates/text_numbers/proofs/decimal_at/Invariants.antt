-- `text_numbers::decimal_at` meets its contract: the digits from i on, after those of the value so far, make the number. Assumes nothing.
use Prim.Native.Nat.{◌≤◌}
use mathlib.Core.Path.{◌≡◌}
use Rattle.text.specs.Field.{digits}
use Rattle.text.specs.Place.{field_at, field_end, as_field}
use Rattle.text_numbers.specs.Limited.{up_to, decimal_at}
use Rattle.text_numbers.proofs.decimal_at.Given as goal

abbrev pub invariant-loop-i : goal.invariant-loop-i
invariant-loop-i l =
    (field_end l.s l.i ≡ l.end) × (l.value ≤ l.limit) × (as_field (up_to l.limit (digits l.value (field_at l.s l.i))) l.end ≡ decimal_at l.limit l.s l.at)

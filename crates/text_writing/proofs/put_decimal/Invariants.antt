-- `text_writing::put_decimal` meets its contract: with the last i digits of m written too, the result is whole. Assumes nothing.
use mathlib.Core.Path.{◌≡◌}
use lib.ListN.{length}
use lib.Seq.{paste}
use Rattle.text.specs.Field.{decimal_of}
use Rattle.text_writing.proofs.Digits.{last_digits}
use Rattle.text_writing.proofs.put_decimal.Given as goal

abbrev pub invariant-loop-i : goal.invariant-loop-i
invariant-loop-i l = paste l.out l.at (last_digits l.i l.m) l.i ≡ paste l.initial.out l.at (decimal_of l.n) (length (decimal_of l.n))

-- `text_numbers::decimal_at` meets its contract: the digits from i on, after those of the value so far, make the number. Assumes nothing.
use Rattle.text.proofs.Scans.{in_text}
use Rattle.text_numbers.proofs.Numbers.{first_laws, digit_laws}
use Rattle.text_numbers.proofs.decimal_at.Goals as goal

pub returns-then-end-at : goal.returns-then-end-at
returns-then-end-at c = search first_laws

pub bounds-s-at : goal.bounds-s-at
bounds-s-at c = search first_laws

pub returns-then-s-at-eq48 : goal.returns-then-s-at-eq48
returns-then-s-at-eq48 c = search first_laws

pub loop-i-init : goal.loop-i-init
loop-i-init c = search first_laws

pub bounds-s-i : goal.bounds-s-i
bounds-s-i c = search (in_text, c.loop-i-test.true, c.loop-i.invariant.0)

pub returns-then-not-is_ascii_digit : goal.returns-then-not-is_ascii_digit
returns-then-not-is_ascii_digit c = search digit_laws

pub returns-then-limit-digit : goal.returns-then-limit-digit
returns-then-limit-digit c = search digit_laws

pub loop-i-preserved : goal.loop-i-preserved
loop-i-preserved c = search digit_laws

pub returns : goal.returns
returns c = search digit_laws

-- `text_numbers::whole_at` meets its contract. Assumes nothing.
use Rattle.text_numbers.proofs.Numbers.{whole_laws}
use Rattle.text_numbers.proofs.whole_at.Goals as goal

pub returns-in_err-value : goal.returns-in_err-value
returns-in_err-value c = search whole_laws

pub returns-then-value-eq0 : goal.returns-then-value-eq0
returns-then-value-eq0 c = search whole_laws

pub returns-then-is_byte : goal.returns-then-is_byte
returns-then-is_byte c = search whole_laws

pub returns-in_err-value-2 : goal.returns-in_err-value-2
returns-in_err-value-2 c = search whole_laws

pub returns : goal.returns
returns c = search whole_laws

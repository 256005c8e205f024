-- `text_numbers::number_at` meets its contract. Assumes nothing.
use Rattle.text_numbers.proofs.Numbers.{number_laws}
use Rattle.text_numbers.proofs.number_at.Goals as goal

pub returns-in_err-value : goal.returns-in_err-value
returns-in_err-value c = search number_laws

pub overflow_cast-value : goal.overflow_cast-value
overflow_cast-value c = search number_laws

pub returns : goal.returns
returns c = search number_laws

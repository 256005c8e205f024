-- `difference_text::numbers_len` meets its contract. Assumes nothing.
use Rattle.number.specs.Parts.{meaning}
use Rattle.difference_text.proofs.Columns.{numbers_count}
use Rattle.difference_text.proofs.numbers_len.Goals as goal

pub returns : goal.returns
returns c =
    let a = c.args in
    numbers_count (meaning a.first) (meaning a.second) c.number_len.ensures c.number_len-2.ensures

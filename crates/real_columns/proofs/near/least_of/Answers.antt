-- `real_columns::near::least_of` meets its contract. Assumes nothing.
use Rattle.column_words.proofs.Parts.{half_signed, half_plain}
use Rattle.real_columns.proofs.near.least_of.Goals as goal

pub returns-then-signed : goal.returns-then-signed
returns-then-signed c =
    let a = c.args in
    half_signed a.signed a.precision c.if-signed.true c.requires.0 c.pow2.ensures

pub returns-else-signed : goal.returns-else-signed
returns-else-signed c = half_plain c.args.signed c.args.precision c.if-signed.false

-- `difference_text::number_len` meets its contract. Assumes nothing.
use Rattle.difference_text.proofs.Columns.{signed_count, unsigned_count}
use borrow.Author.Rules.{rules}
use Rattle.difference_text.proofs.number_len.Goals as goal

pub returns-in-Signed : goal.returns-in-Signed
returns-in-Signed c = signed_count c.in-Signed.is (record { sfits = search rules }) c.signed_len.ensures

pub returns-in-Unsigned : goal.returns-in-Unsigned
returns-in-Unsigned c = unsigned_count c.in-Unsigned.is (search rules) c.decimal_len.ensures

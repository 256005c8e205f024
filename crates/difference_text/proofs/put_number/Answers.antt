-- `difference_text::put_number` meets its contract. Assumes nothing.
use mathlib.Core.Path.{ap}
use native.Mathlib.Omega.{arith}
use lib.ListN.{length}
use Rattle.difference_text.proofs.Columns.{signed_is, signed_wrote, unsigned_is, unsigned_wrote}
use borrow.Author.Rules.{rules}
use Rattle.difference_text.proofs.put_number.Goals as goal

pub put_signed-requires : goal.put_signed-requires
put_signed-requires c = omega (arith, ap length (signed_is c.in-Signed.is (record { sfits = search rules })), c.requires)

pub put_decimal-requires : goal.put_decimal-requires
put_decimal-requires c = omega (arith, ap length (unsigned_is c.in-Unsigned.is), c.requires)

pub returns-in-Signed : goal.returns-in-Signed
returns-in-Signed c = signed_wrote c.in-Signed.is (record { sfits = search rules }) c.put_signed.ensures

pub returns-in-Unsigned : goal.returns-in-Unsigned
returns-in-Unsigned c = unsigned_wrote c.in-Unsigned.is c.requires c.put_decimal.ensures

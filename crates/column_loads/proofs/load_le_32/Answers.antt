-- `column_loads::load_le_32` meets its contract. Assumes nothing.
use mathlib.Core.Path.{◌≡◌}
use borrow.Author.Rules.{rules}
use Rattle.bits.specs.declared.Order.TheVariants.{LE}
use Rattle.column_loads.proofs.load_le_32.Goals as goal

pub returns-in-1 : goal.returns-in-1
returns-in-1 c =
    let e : c.args.size ≡ 1 = search rules in
    rw e (c.load_bytes_32.ensures LE)

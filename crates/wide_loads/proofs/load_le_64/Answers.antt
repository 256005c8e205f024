-- `wide_loads::load_le_64` meets its contract. Assumes nothing.
use mathlib.Core.Path.{◌≡◌}
use borrow.Author.Rules.{rules}
use Rattle.bits.specs.declared.Order.TheVariants.{LE}
use Rattle.wide_loads.proofs.load_le_64.Goals as goal

pub returns-in-1 : goal.returns-in-1
returns-in-1 c =
    let e : c.args.size ≡ 1 = search rules in
    rw e (c.load_bytes_64.ensures LE)

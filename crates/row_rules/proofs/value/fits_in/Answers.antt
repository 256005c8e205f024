-- `row_rules::value::fits_in` meets its contract. Assumes nothing.
use Prim.Native.Nat.{ℕ, ◌-◌, ◌^◌, ◌≤◌}
use mathlib.Core.Path.{sym, ap}
use native.Mathlib.Nat.{le_of_lt}
use native.Mathlib.Omega.{arith}
use borrow.Author.Tests.{le-leb}
use lib.Dec.{leb}
use lib.Pow.{pow_mono}
use Rattle.row_rules.proofs.value.fits_in.Goals as goal

pub returns-then-p-gt64 : goal.returns-then-p-gt64
returns-then-p-gt64 c =
    let large : 2 ^ 64 ≤ 2 ^ c.args.p = pow_mono (le_of_lt c.if-p-gt64.true) in
    sym (le-leb c.args.d (2 ^ c.args.p - 1) (omega arith))

pub returns-else-p-gt64 : goal.returns-else-p-gt64
returns-else-p-gt64 c = ap (λ (k : ℕ). leb c.args.d k) c.ones.ensures

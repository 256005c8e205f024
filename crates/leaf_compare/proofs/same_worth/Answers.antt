-- `leaf_compare::same_worth` meets its contract. Assumes nothing.
use Rattle.leaf_compare.proofs.Ways.{reals_worth, real_whole, whole_real, wholes_worth}
use Rattle.leaf_compare.proofs.same_worth.Goals as goal

pub returns-then-w_real : goal.returns-then-w_real
returns-then-w_real c = reals_worth c.args.z c.args.w c.if-z_real.true c.if-w_real.true c.same_number.ensures

pub returns-then-z_real : goal.returns-then-z_real
returns-then-z_real c = real_whole c.args.z c.args.w c.if-z_real.true c.if-w_real.false c.real_bits.ensures c.equals_number.ensures

pub returns-then-w_real-2 : goal.returns-then-w_real-2
returns-then-w_real-2 c = whole_real c.args.z c.args.w c.if-z_real.false c.if-w_real-2.true c.real_bits-then-w_real-2.ensures c.equals_number-then-w_real-2.ensures

pub returns : goal.returns
returns c = wholes_worth c.args.z c.args.w c.if-z_real.false c.if-w_real-2.false c.same_number-2.ensures

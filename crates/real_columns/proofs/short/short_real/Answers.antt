-- `real_columns::short::short_real` meets its contract. Assumes nothing.
use Rattle.std.proofs.Common.{ℕ, ◌+◌, ◌^◌, cond, leb, ap, ◌∙◌, arith}
use Rattle.reals.specs.Nearest.{magnitude_bits}
use Rattle.real_columns.specs.Short.{short_real}
use Rattle.real_columns.proofs.short.short_real.Goals as goal

pub returns : goal.returns
unfolding short_real
returns c =
    let a = c.args in
    let bits = c.magnitude_bits.ensures.0 ∙ ap magnitude_bits c.magnitude_in.ensures in
    (c.with_sign.ensures ∙ ap (λ (x : ℕ). cond (leb a.first a.raw) (2 ^ 63) 0 + x) bits, omega arith)

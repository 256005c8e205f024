-- `number_leaf::number_bits` meets its contract. Assumes nothing.
use mathlib.Core.Path.{ap, ◌∙◌}
use Rattle.number.specs.Number.{valued, fitted}
use Rattle.number_leaf.proofs.number_bits.Goals as goal

pub returns : goal.returns
returns c =
    let l = c.args.l in
    let m = c.args.m in
    (c.fit_raw.ensures.0 ∙ ap (λ x. fitted m (valued l.signed l.precision x)) c.raw_at.ensures.0, c.fit_raw.ensures.1)

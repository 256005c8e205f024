-- `fitting::fit` meets its contract. Assumes nothing.
use mathlib.Core.Path.{ap, sym, ◌∙◌}
use mathlib.Core.Bool.{true}
use mir.Syntax.{w64}
use mir.Facts.{to_z-of_z}
use Rattle.number.specs.Number.{fitted_to}
use Rattle.number.specs.Parts.{meaning}
use Rattle.number.proofs.RoundTrip.{fitted_raw}
use borrow.Author.Rules.{rules}
use Rattle.fitting.proofs.fit.Goals as goal

pub returns-in-Signed : goal.returns-in-Signed
returns-in-Signed c =
    let z = ap meaning c.in-Signed.is ∙ sym (to_z-of_z {w = w64} (record { sfits = search rules })) in
    fitted_raw _ (meaning c.args.z) _ c.requires (rw c.if-l.true (c.fit_signed.ensures ∙ ap (fitted_to true c.args.l.precision) (sym z)))

pub returns-in-Unsigned : goal.returns-in-Unsigned
returns-in-Unsigned c =
    let l = c.args.l in
    fitted_raw _ (meaning c.args.z) _ c.requires (c.fit_unsigned.ensures ∙ ap (fitted_to l.signed l.precision) (sym (ap meaning c.in-Unsigned.is)))

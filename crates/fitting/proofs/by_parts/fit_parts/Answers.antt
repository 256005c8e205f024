-- `fitting::by_parts::fit_parts` meets its contract. Assumes nothing.
use mathlib.Core.Path.{◌≡◌, ap}
use Prim.Native.Nat.{◌^◌, ◌<◌}
use lib.IntN.{ℤ}
use borrow.Author.Tests.{not-true}
use Rattle.answer.specs.declared.Given.{Given}
use Rattle.layout.specs.declared.Layout.{Layout}
use Rattle.layout.specs.Layout.{Valid}
use Rattle.number.specs.declared.Fitted.{Fitted}
use Rattle.number.specs.Number.{fitted}
use Rattle.number.specs.Parts.{signed_by}
use Rattle.number.proofs.RoundTrip.{fitted_lt}
use Rattle.fitting.specs.Named.{named}
use Rattle.fitting.proofs.by_parts.fit_parts.Goals as goal

-- whatever is named with it, what is fitted has its bits
named_raw : (l : Layout) (z : ℤ) (g : Given) (f : Fitted) → Valid l → f ≡ named g (fitted l z) → (f ≡ named g (fitted l z)) × (f.raw < 2 ^ l.precision)
named_raw l z g f v e = (e, rw e (fitted_lt l.signed l.precision z v.some))

pub returns-then-not-p : goal.returns-then-not-p
returns-then-not-p c =
    let p = c.args.p in
    named_raw _ (signed_by p.negative p.distance) c.args.given _ c.requires
    (rw (not-true p.negative c.if-not-p.true) (ap (named c.args.given) c.fit_unsigned.ensures))

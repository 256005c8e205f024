-- `real_columns::near::int_near` meets its contract: by whether the real is less than 2^53. Assumes nothing.
use Rattle.std.proofs.Common.{ap, ◌∙◌, arith}
use Rattle.number.specs.declared.Fitted.{Fitted}
use Rattle.records.specs.Record.{raises}
use Rattle.real_columns.proofs.NearInts.{ends_within, near_is}
use Rattle.real_columns.proofs.near.int_near.Goals as goal

pub near-requires : goal.near-requires
near-requires c =
    let a = c.args in
    let ends = ends_within a.signed a.precision c.requires.0 c.requires.2 c.requires.3 c.requires.4 in
    (c.if-b-le-EXPONENT_OF_2_TO_52.true, ends.0, ends.1)

pub returns-then-b-le-EXPONENT_OF_2_TO_52 : goal.returns-then-b-le-EXPONENT_OF_2_TO_52
returns-then-b-le-EXPONENT_OF_2_TO_52 c =
    let a = c.args in
    let e = c.near.ensures in
    let is = near_is a.signed a.precision a.b c.requires.0 c.if-b-le-EXPONENT_OF_2_TO_52.true c.requires.2 c.requires.3 c.requires.4 e.0 e.1 in
    (is.0, is.1, e.2, e.3)

pub returns : goal.returns
returns c =
    let l = c.int_layout.ensures in
    let f = rw (l.1, l.2) at c.to_int-f.ensures in
    (ap (λ (g : Fitted). g.raw) f.0, c.one_raised.ensures.0 ∙ ap (λ (g : Fitted). raises g.kind) f.0, omega (arith, f.1, c.requires.4), c.one_raised.ensures.1)

-- `real_columns::reals_short` meets its contract. The loop's invariant: the first i numbers are made, and those from i on as they were. Assumes nothing.
use Rattle.std.proofs.Common.{ℕ, ◌+◌, ◌-◌, ◌*◌, ◌^◌, ap, ◌∙◌, arith}
use Rattle.real_columns.specs.Short.{short_real}
use Rattle.real_columns.proofs.Making.{place_fits, made_start, made_next}
use Rattle.real_columns.proofs.reals_short.Invariants.{made}
use Rattle.real_columns.proofs.reals_short.Goals as goal

pub loop-i-init : goal.loop-i-init
loop-i-init c =
    let a = c.args in
    (made_start (made a.first a.all a.w.shift a.w.mask a.w.up a.w.ones) a.t.now)

pub bits_in-requires : goal.bits_in-requires
bits_in-requires c = omega (arith, c.requires.1.down)

pub short_real-raw-requires : goal.short_real-raw-requires
short_real-raw-requires c = omega (arith, c.bits_in.ensures.1, c.requires.3)

pub place-requires : goal.place-requires
place-requires c = place_fits c.args.w c.requires.1 64 c.short_real-raw.result c.requires.2 c.short_real-raw.ensures.1

pub loop-i-preserved : goal.loop-i-preserved
loop-i-preserved c =
    let l = c.loop-i in
    let a = c.args in
    let raw = c.short_real-raw.ensures.0 ∙ ap (short_real a.first a.all) c.bits_in.ensures.0 in
    (made_next (made a.first a.all a.w.shift a.w.mask a.w.up a.w.ones) a.t.now l.t l.i l.invariant (omega arith) (c.place.ensures ∙ ap (λ (x : ℕ). x * 2 ^ a.w.up + a.w.ones) raw))

pub shape_of-t : goal.shape_of-t
shape_of-t c = c.loop-i.invariant.0

pub returns : goal.returns
returns c =
    let l = c.loop-i in
    λ i h. l.invariant.1 i (omega arith)

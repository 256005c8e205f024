-- `real_columns::reals_long` meets its contract. The loop's invariant: the first i numbers are made, those from i on as they were, and exceptions counted. Assumes nothing.
use Rattle.std.proofs.Common.{◌≡◌, ◌-◌, ap, ◌∙◌, arith}
use Rattle.number.specs.declared.Fitted.{Fitted}
use Rattle.number.specs.Number.{valued}
use Rattle.records.specs.Record.{raises}
use Rattle.reals.specs.Convert.{int_to_real}
use Rattle.real_columns.specs.Reals.{real_by}
use Rattle.real_columns.proofs.Making.{under_mask, place_fits, turned_start, turned_next, turned_end}
use Rattle.real_columns.proofs.reals_long.Goals as goal

pub loop-i-init : goal.loop-i-init
loop-i-init c =
    let a = c.args in
    (turned_start (real_by a.w.shift a.w.mask a.signed a.precision) a.w.up a.w.ones a.t.now)

pub bits_in-requires : goal.bits_in-requires
bits_in-requires c = omega (arith, c.requires.2.down)

pub number_of-requires : goal.number_of-requires
number_of-requires c = (c.requires.3, c.requires.4, under_mask c.args.w.mask c.args.precision c.bits_in.result c.bits_in.ensures.1 c.requires.5)

pub overflow_add-raised : goal.overflow_add-raised
overflow_add-raised c = omega (arith, c.loop-i.invariant.1.1, c.one_raised-raised.ensures.1)

pub place-requires : goal.place-requires
place-requires c = place_fits c.args.w c.requires.2 64 c.to_real-f.result.raw c.requires.6 c.to_real-f.ensures.1

pub loop-i-preserved : goal.loop-i-preserved
loop-i-preserved c =
    let l = c.loop-i in
    let a = c.args in
    let f = c.to_real-f.ensures.0 ∙ ap int_to_real (c.number_of.ensures ∙ ap (valued a.signed a.precision) c.bits_in.ensures.0) in
    (turned_next (real_by a.w.shift a.w.mask a.signed a.precision) a.w.up a.w.ones a.t.now l.t l.i l.raised l.invariant (omega arith) (ap (λ (g : Fitted). g.raw) f) (c.one_raised-raised.ensures.0 ∙ ap (λ (g : Fitted). raises g.kind) f) c.one_raised-raised.ensures.1 c.place.ensures)

pub shape_of-t : goal.shape_of-t
shape_of-t c = c.loop-i.invariant.0.0

pub returns : goal.returns
returns c =
    let l = c.loop-i in
    let a = c.args in
    let end : l.i ≡ a.count = omega arith in
    turned_end (real_by a.w.shift a.w.mask a.signed a.precision) a.w.up a.w.ones a.t.now l.t end l.invariant

-- `real_columns::ints_each` meets its contract. The loop's invariant: the first i numbers are made, those from i on as they were, and exceptions counted. Assumes nothing.
use Rattle.std.proofs.Common.{◌≡◌, ℕ, ◌-◌, ap, ◌∙◌, arith}
use Rattle.reals.specs.Convert.{real_to_int}
use Rattle.records.specs.Record.{raises}
use Rattle.real_columns.specs.Reals.{int_by}
use Rattle.real_columns.proofs.NearInts.{most_is}
use Rattle.real_columns.proofs.Making.{under_mask, place_fits, turned_start, turned_next, turned_end}
use Rattle.real_columns.proofs.ints_each.Goals as goal

pub overflow_sub-most : goal.overflow_sub-most
overflow_sub-most c = omega (arith, c.least_of-least.ensures.1, c.requires.4)

pub loop-i-init : goal.loop-i-init
loop-i-init c =
    let a = c.args in
    (turned_start (int_by a.w.shift a.w.mask a.m) a.w.up a.w.ones a.t.now)

pub bits_in-requires : goal.bits_in-requires
bits_in-requires c = omega (arith, c.requires.2.down)

pub int_near-f-requires : goal.int_near-f-requires
int_near-f-requires c =
    let least = c.least_of-least.ensures.0 in
    (c.requires.3.some, c.requires.3.most, most_is c.args.m.signed c.args.m.precision c.requires.4 least, least, c.requires.4)

pub overflow_add-raised : goal.overflow_add-raised
overflow_add-raised c = omega (arith, c.loop-i.invariant.1.1, c.int_near-f.ensures.3)

pub place-requires : goal.place-requires
place-requires c =
    let near = c.int_near-f in
    place_fits c.args.w c.requires.2 c.args.m.precision near.result.raw c.requires.4
    (under_mask c.args.w.into c.args.m.precision near.result.raw near.ensures.2 c.requires.4)

pub loop-i-preserved : goal.loop-i-preserved
loop-i-preserved c =
    let l = c.loop-i in
    let a = c.args in
    let is = c.bits_in.ensures.0 in
    let near = c.int_near-f.ensures in
    turned_next (int_by a.w.shift a.w.mask a.m) a.w.up a.w.ones a.t.now l.t l.i l.raised l.invariant (omega arith)
    (near.0 ∙ ap (λ (x : ℕ). (real_to_int a.m x).raw) is) (near.1 ∙ ap (λ (x : ℕ). raises (real_to_int a.m x).kind) is) near.3 c.place.ensures

pub shape_of-t : goal.shape_of-t
shape_of-t c = c.loop-i.invariant.0.0

pub returns : goal.returns
returns c =
    let l = c.loop-i in
    let a = c.args in
    let end : l.i ≡ a.count = omega arith in
    turned_end (int_by a.w.shift a.w.mask a.m) a.w.up a.w.ones a.t.now l.t end l.invariant

-- `symbol_columns::halves_each` meets its contract. The loop's invariant: the first i numbers are translated, those from i on as they were, and those without a symbol counted. Assumes nothing.
use Rattle.std.proofs.Common.{◌≡◌, ◌-◌, ◌≤◌, refl, arith}
use Rattle.symbol_columns.specs.Tables.{symbol_in, missing_in}
use Rattle.symbol_columns.proofs.Symbols.{translated_start, translated_turn, translated_end, translated_by, has_place, at_most_one, words_room}
use Rattle.symbol_columns.proofs.halves_each.Goals as goal

pub loop-i-init : goal.loop-i-init
loop-i-init c =
    let a = c.args in
    (translated_start (symbol_in a.table.now a.w.shift a.w.mask a.w.into a.w.up a.w.ones) (missing_in a.table.now a.w.shift a.w.mask) a.t.now)

pub raw_in-raw-requires : goal.raw_in-raw-requires
raw_in-raw-requires c = c.requires.1.down

pub find-q-requires : goal.find-q-requires
find-q-requires c = (c.requires.4, c.requires.0.keys)

pub none_at-raised-requires : goal.none_at-raised-requires
none_at-raised-requires c =
    let f = c.find-q.ensures in
    (f.1, c.requires.4, c.requires.5, refl, f.0)

pub overflow_add-raised : goal.overflow_add-raised
overflow_add-raised c =
    let l = c.loop-i in
    let few : c.none_at-raised.result ≤ 1 = at_most_one c.args.table.now c.args.w.shift c.args.w.mask c.args.w.into c.args.w.up c.args.w.ones c.requires.0 c.raw_in-raw.result c.none_at-raised.ensures in
    omega (arith, few, l.invariant.4)

pub out_at-requires : goal.out_at-requires
out_at-requires c =
    let f = c.find-q.ensures in
    (f.1, c.requires.4, c.requires.5, refl, f.0)

pub placed-requires : goal.placed-requires
placed-requires c = has_place c.args.table.now c.args.w.shift c.args.w.mask c.args.w.into c.args.w.up c.args.w.ones c.requires.0 c.requires.1.up (words_room c.args.table.now c.args.w c.requires.0 c.requires.1) c.raw_in-raw.result c.out_at.ensures

pub loop-i-preserved : goal.loop-i-preserved
loop-i-preserved c =
    let a = c.args in
    let l = c.loop-i in
    (translated_turn a.table.now a.w.shift a.w.mask a.w.into a.w.up a.w.ones c.requires.0 a.t.now l.t l.i l.raised (omega arith) l.invariant c.raw_in-raw.ensures c.out_at.ensures c.none_at-raised.ensures c.placed.ensures)

pub shape_of-t : goal.shape_of-t
shape_of-t c = c.loop-i.invariant.0

pub returns : goal.returns
returns c =
    let l = c.loop-i in
    let a = c.args in
    let end : l.i ≡ a.count = omega arith in
    translated_by a.table.now a.w a.t.now l.t (translated_end a.table.now a.w.shift a.w.mask a.w.into a.w.up a.w.ones a.t.now l.t end l.invariant)

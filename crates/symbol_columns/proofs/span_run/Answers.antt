-- `symbol_columns::span_run` meets its contract. The loop's invariant: the first i numbers are translated, those from i on as they were, and those without a symbol counted. Assumes nothing.
use Rattle.std.proofs.Common.{◌≡◌, ◌-◌, ◌/◌, ◌≤◌, refl, arith}
use Rattle.symbol_columns.proofs.Finding.{entry_out, entry_none}
use Rattle.symbol_columns.specs.Tables.{symbol_in, missing_in}
use Rattle.symbol_columns.proofs.Symbols.{translated_start, translated_turn, translated_end, has_place, at_most_one}
use Rattle.symbol_columns.proofs.span_run.Goals as goal

pub loop-i-init : goal.loop-i-init
loop-i-init c =
    let a = c.args in
    (translated_start (symbol_in a.table.now a.shift a.mask a.into a.up a.ones) (missing_in a.table.now a.shift a.mask) a.t.now)

pub raw_in-requires : goal.raw_in-requires
raw_in-requires c = c.requires.1

pub span_entry-e-requires : goal.span_entry-e-requires
span_entry-e-requires c = (c.requires.0.few, c.requires.8, c.requires.6, refl, refl)

pub overflow_add-raised : goal.overflow_add-raised
overflow_add-raised c =
    let l = c.loop-i in
    let few : c.span_entry-e.result / 4294967296 ≤ 1 = at_most_one c.args.table.now c.args.shift c.args.mask c.args.into c.args.up c.args.ones c.requires.0 c.raw_in.result (entry_none c.args.table.now c.raw_in.result c.span_entry-e.result c.requires.7 c.span_entry-e.ensures) in
    omega (arith, few, l.invariant.4)

pub placed-requires : goal.placed-requires
placed-requires c = has_place c.args.table.now c.args.shift c.args.mask c.args.into c.args.up c.args.ones c.requires.0 c.requires.2 c.requires.3 c.raw_in.result (entry_out c.args.table.now c.raw_in.result c.span_entry-e.result c.requires.7 c.span_entry-e.ensures c.args.into)

pub loop-i-preserved : goal.loop-i-preserved
loop-i-preserved c =
    let a = c.args in
    let l = c.loop-i in
    (translated_turn a.table.now a.shift a.mask a.into a.up a.ones c.requires.0 a.t.now l.t l.i l.raised (omega arith) l.invariant c.raw_in.ensures (entry_out c.args.table.now c.raw_in.result c.span_entry-e.result c.requires.7 c.span_entry-e.ensures c.args.into) (entry_none c.args.table.now c.raw_in.result c.span_entry-e.result c.requires.7 c.span_entry-e.ensures) c.placed.ensures)

pub shape_of-t : goal.shape_of-t
shape_of-t c = c.loop-i.invariant.0

pub returns : goal.returns
returns c =
    let l = c.loop-i in
    let a = c.args in
    let end : l.i ≡ a.count = omega arith in
    translated_end a.table.now a.shift a.mask a.into a.up a.ones a.t.now l.t end l.invariant

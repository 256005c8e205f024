-- `symbol_columns::span_each` meets its contract, with a shift in the loop or without. Assumes nothing.
use Rattle.symbol_columns.proofs.Symbols.{translated_by, translated_lowest, lowest_room}
use Rattle.symbol_columns.proofs.span_each.Goals as goal

pub span_lowest-requires : goal.span_lowest-requires
span_lowest-requires c =
    let p = c.requires in
    (p.0, lowest_room c.args.table.now c.args.w p.0 p.1 c.if-w-eq0-2.true, p.2, p.3, p.4, p.5, p.6)

pub returns-then-w-eq0-2 : goal.returns-then-w-eq0-2
returns-then-w-eq0-2 c =
    let a = c.args in
    translated_lowest a.table.now a.w c.requires.0 c.requires.1 a.t.now c.span_lowest.new.t c.if-w-eq0.true c.if-w-eq0-2.true c.span_lowest.ensures

pub returns : goal.returns
returns c =
    let a = c.args in
    translated_by a.table.now a.w a.t.now c.span_run.new.t c.span_run.ensures

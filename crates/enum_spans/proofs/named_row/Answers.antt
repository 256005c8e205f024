-- `enum_spans::named_row` meets its contract: a row that was found is below 256, so it fits a word. Assumes nothing.
use mathlib.Core.Path.{sym, ap, ◌∙◌}
use native.Mathlib.Omega.{arith}
use Rattle.namesakes.proofs.Named.{one_by_words}
use Rattle.plans.specs.PlanWords.{row_code}
use Rattle.plans.proofs.Spans.{row_small, named_code_lem}
use Rattle.enum_spans.proofs.named_row.Goals as goal

pub overflow_cast-result : goal.overflow_cast-result
overflow_cast-result c =
    let is = one_by_words _ _ _ _ c.type_word-first.ensures c.type_word-rows.ensures c.requires.1 c.row_by_hint.ensures in
    let low = row_small _ _ _ _ is c.in-Some.is c.type_word-first.ensures c.type_word-rows.ensures c.requires.0 in
    omega (arith, low)

pub overflow_add-result : goal.overflow_add-result
overflow_add-result c =
    let is = one_by_words _ _ _ _ c.type_word-first.ensures c.type_word-rows.ensures c.requires.1 c.row_by_hint.ensures in
    let low = row_small _ _ _ _ is c.in-Some.is c.type_word-first.ensures c.type_word-rows.ensures c.requires.0 in
    omega (arith, low)

pub returns-in-Some : goal.returns-in-Some
returns-in-Some c =
    let a = c.args in
    let is = one_by_words _ _ _ _ c.type_word-first.ensures c.type_word-rows.ensures c.requires.1 c.row_by_hint.ensures in
    ap row_code (sym c.in-Some.is)
    ∙ named_code_lem a.source_half.now a.source_sheet.now a.destination_half.now a.destination_sheet.now a.destination_type a.row c.type_word-first.ensures c.type_word-rows.ensures c.row_word-start.ensures c.row_word-len.ensures is

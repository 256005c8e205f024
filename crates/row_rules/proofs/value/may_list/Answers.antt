-- `row_rules::value::may_list` meets its contract. Assumes nothing.
use mathlib.Core.Path.{refl, ◌∙◌}
use native.Mathlib.Omega.{arith}
use borrow.Author.Tests.{not-true, not-false}
use Rattle.table.specs.Table.{bytes_at}
use Rattle.sheet_steps.proofs.Apart.{name_missing, number_missing}
use mathlib.Core.Path.{ap}
use mathlib.Core.Bool.{not}
use Rattle.row_rules.proofs.value.may_list.Goals as goal

pub is_new-requires : goal.is_new-requires
is_new-requires c = (
  c.requires.0,
  c.requires.1,
  c.type_word-first.ensures.small,
  omega (arith, c.type_word-rows.ensures.small),
  c.requires.2,
  c.requires.3,
  λ j x. c.requires.4 j (omega (arith, x, c.type_word-first.ensures.is, c.type_word-rows.ensures.is)),
)

pub returns-then-not-is_new : goal.returns-then-not-is_new
returns-then-not-is_new c =
    let a = c.args in
    let name = name_missing a.half.now a.sheet.now (bytes_at a.sheet.now a.start a.len) _ _ refl c.is_new.ensures ∙ not-true _ (ap not c.if-not-is_new.true) in
    rw (← c.type_word-first.ensures.is, ← c.type_word-rows.ensures.is, name) refl

pub returns-then-is_some : goal.returns-then-is_some
returns-then-is_some c =
    let a = c.args in
    let name = name_missing a.half.now a.sheet.now (bytes_at a.sheet.now a.start a.len) _ _ refl c.is_new.ensures ∙ not-false _ (ap not c.if-not-is_new.false) in
    let number = number_missing _ a.sheet.now _ _ _ c.row_numbered.ensures c.is_some.ensures ∙ ap not c.if-is_some.true in
    rw (← c.type_word-first.ensures.is, ← c.type_word-rows.ensures.is, name, number) refl

pub returns : goal.returns
returns c =
    let a = c.args in
    let name = name_missing a.half.now a.sheet.now (bytes_at a.sheet.now a.start a.len) _ _ refl c.is_new.ensures ∙ not-false _ (ap not c.if-not-is_new.false) in
    let number = number_missing _ a.sheet.now _ _ _ c.row_numbered.ensures c.is_some.ensures ∙ ap not c.if-is_some.false in
    rw (← c.type_word-first.ensures.is, ← c.type_word-rows.ensures.is, name, number, ← c.layout_at.ensures.0)
    c.in_range.ensures

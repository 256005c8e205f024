-- `row_rules::member::may_place` meets its contract. Assumes nothing.
use mathlib.Core.Path.{refl, ◌∙◌}
use mathlib.Core.Bool.{false≢true}
use native.Mathlib.Omega.{arith}
use borrow.Author.Tests.{not-true, not-false, le-leb, lt-leb}
use Rattle.table.specs.Table.{type_at, bytes_at}
use Rattle.sheet_steps.proofs.Apart.{member_missing, apart_is}
use mathlib.Core.Path.{ap}
use mathlib.Core.Bool.{not}
use Rattle.row_rules.proofs.member.may_place.Goals as goal

pub is_new-requires : goal.is_new-requires
is_new-requires c = (
  c.requires.0,
  c.requires.1,
  c.type_word-first.ensures.small,
  c.type_word-rows.ensures.small,
  c.requires.3,
  c.requires.4,
  λ j x. c.requires.7 j (omega (arith, x, c.type_word-first.ensures.is, c.type_word-rows.ensures.is)),
)

pub returns-then-not-is_new : goal.returns-then-not-is_new
returns-then-not-is_new c =
    let a = c.args in
    let name = member_missing a.half.now a.sheet.now (bytes_at a.sheet.now a.start a.len) _ _ (type_at a.half.now a.sheet.now) refl c.is_new.ensures ∙ not-true _ (ap not c.if-not-is_new.true) in
    (rw (← c.type_word-first.ensures.is, ← c.type_word-rows.ensures.is, name) refl, λ e. absurd (false≢true e))

pub returns-then-type_word-offset : goal.returns-then-type_word-offset
returns-then-type_word-offset c =
    let a = c.args in
    let name = member_missing a.half.now a.sheet.now (bytes_at a.sheet.now a.start a.len) _ _ (type_at a.half.now a.sheet.now) refl c.is_new.ensures ∙ not-false _ (ap not c.if-not-is_new.false) in
    (rw (← c.type_word-first.ensures.is, ← c.type_word-rows.ensures.is, name, ← c.type_word.ensures.is, lt-leb _ _ c.if-type_word-offset.true) refl, λ e. absurd (false≢true e))

pub lies_apart-requires : goal.lies_apart-requires
lies_apart-requires c =
    let first = c.type_word-first.ensures in
    let rows = c.type_word-rows.ensures in
    (c.requires.2, first.small, rows.small, c.requires.5, c.requires.6, λ j x y. c.requires.8 j (omega (arith, x, first.is)) (omega (arith, y, first.is, rows.is)))

pub returns : goal.returns
returns c =
    let a = c.args in
    let name = member_missing a.half.now a.sheet.now (bytes_at a.sheet.now a.start a.len) _ _ (type_at a.half.now a.sheet.now) refl c.is_new.ensures ∙ not-false _ (ap not c.if-not-is_new.false) in (
      rw (
        ← c.type_word-first.ensures.is,
        ← c.type_word-rows.ensures.is,
        name,
        ← c.type_word.ensures.is,
        le-leb _ _ c.if-type_word-offset.false,
        apart_is a.half.now a.sheet.now c.type_word-first.result c.type_word-rows.result a.offset a.width,
      )
          c.lies_apart.ensures,
      λ e. omega (arith, c.if-type_word-offset.false, c.type_word.ensures.small),
    )

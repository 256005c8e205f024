-- `judging::judge_value` meets its contract. Assumes nothing.
use mathlib.Core.Path.{sym, ◌∙◌}
use Rattle.table.specs.Table.{bytes_at}
use Rattle.number.specs.Parts.{signed_by}
use Rattle.sheet_steps.proofs.Added.{refused}
use Rattle.sheet_steps.proofs.Lines.{value_judged, value_first, value_other, value_refused}
use mathlib.Core.Path.{ap}
use mathlib.Core.Bool.{not}
use Rattle.judging.proofs.judge_value.Goals as goal

pub returns-then-so_far-eq0 : goal.returns-then-so_far-eq0
returns-then-so_far-eq0 c =
    let a = c.args in
    refused c.requires.0 (value_first a.half.now a.sheet.now _ (bytes_at a.sheet.now a.start a.len) (signed_by a.negative a.distance) c.if-so_far-eq0.true)

pub returns-then-type_word-ne-ENUM : goal.returns-then-type_word-ne-ENUM
returns-then-type_word-ne-ENUM c =
    let a = c.args in
    refused c.requires.0
    (value_other a.so_far.types a.sheet.now (bytes_at a.sheet.now a.start a.len) (signed_by a.negative a.distance) c.requires.0 c.if-so_far-eq0.false
    (λ e. c.if-type_word-ne-ENUM.true (c.type_word.ensures.is ∙ e)))

pub returns-then-not-may_list : goal.returns-then-not-may_list
returns-then-not-may_list c =
    let a = c.args in
    refused c.requires.0
    (value_refused a.so_far.types a.sheet.now (bytes_at a.sheet.now a.start a.len) (signed_by a.negative a.distance) c.requires.0 c.if-so_far-eq0.false
    (sym c.type_word.ensures.is ∙ c.if-type_word-ne-ENUM.false) c.may_list.ensures (ap not c.if-not-may_list.true))

pub returns : goal.returns
returns c =
    let a = c.args in
    value_judged a.so_far.types a.sheet.now a.start a.len a.negative a.distance c.requires.0 c.requires.1 c.if-so_far-eq0.false
    (sym c.type_word.ensures.is ∙ c.if-type_word-ne-ENUM.false) c.may_list.ensures (ap not c.if-not-may_list.false)
    c.mark_of-mark.ensures.0 c.value_record-r.ensures c.next_row.ensures

-- `judging::judge_member` meets its contract. Assumes nothing.
use mathlib.Core.Path.{sym, ◌∙◌}
use Rattle.table.specs.Table.{bytes_at}
use Rattle.sheet_steps.proofs.Added.{refused}
use Rattle.sheet_steps.proofs.Lines.{member_judged, member_first, member_late, member_other, member_refused}
use mathlib.Core.Path.{ap}
use mathlib.Core.Bool.{not}
use Rattle.judging.proofs.judge_member.Goals as goal

pub returns-then-so_far-eq0 : goal.returns-then-so_far-eq0
returns-then-so_far-eq0 c =
    let a = c.args in
    refused c.requires.0 (member_first a.half.now a.sheet.now _ (bytes_at a.sheet.now a.start a.len) a.offset a.kind a.word c.if-so_far-eq0.true)

pub returns-then-so_far-kind : goal.returns-then-so_far-kind
returns-then-so_far-kind c =
    let a = c.args in
    refused c.requires.0
    (member_late a.so_far.types a.sheet.now (bytes_at a.sheet.now a.start a.len) a.offset a.kind a.word c.requires.0 c.if-so_far-eq0.false c.if-so_far-kind.true)

pub returns-then-type_word-ne-COMPOUND : goal.returns-then-type_word-ne-COMPOUND
returns-then-type_word-ne-COMPOUND c =
    let a = c.args in
    refused c.requires.0
    (member_other a.so_far.types a.sheet.now (bytes_at a.sheet.now a.start a.len) a.offset a.kind a.word c.requires.0 c.if-so_far-eq0.false c.if-so_far-kind.false
    (λ e. c.if-type_word-ne-COMPOUND.true (c.type_word.ensures.is ∙ e)))

pub returns-then-not-may_add : goal.returns-then-not-may_add
returns-then-not-may_add c =
    let a = c.args in
    refused c.requires.0
    (member_refused a.so_far.types a.sheet.now (bytes_at a.sheet.now a.start a.len) a.offset a.kind a.word c.requires.0 c.if-so_far-eq0.false c.if-so_far-kind.false
    (sym c.type_word.ensures.is ∙ c.if-type_word-ne-COMPOUND.false) c.type_word-width.ensures.is c.may_add.ensures.0 (ap not c.if-not-may_add.true))

pub returns : goal.returns
returns c =
    let a = c.args in
    member_judged a.so_far.types a.sheet.now a.start a.len a.offset a.kind a.word c.requires.0 c.requires.1 c.if-so_far-eq0.false c.if-so_far-kind.false
    (sym c.type_word.ensures.is ∙ c.if-type_word-ne-COMPOUND.false) c.type_word-width.ensures.is c.may_add.ensures.0 (ap not c.if-not-may_add.false)
    c.mark_of-mark.ensures.0 c.member_record-r.ensures c.next_row-judged.ensures c.raise_end.ensures

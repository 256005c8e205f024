-- `judging::judge_array` meets its contract. Assumes nothing.
use mathlib.Core.Path.{◌≡◌}
use borrow.Author.Rules.{rules}
use lib.ListN.{length}
use Rattle.table.specs.Table.{up_to_zero}
use Rattle.sheet_steps.proofs.Added.{refused}
use Rattle.sheet_steps.proofs.Lines.{array_judged, array_high, array_large}
use Rattle.judging.proofs.judge_array.Goals as goal

pub returns-then-so_far-base : goal.returns-then-so_far-base
returns-then-so_far-base c =
    let a = c.args in
    refused c.requires.0 (array_high a.half.now a.sheet.now _ (up_to_zero a.dims) c.if-so_far-base.true)

pub returns-in_err-bytes : goal.returns-in_err-bytes
returns-in_err-bytes c =
    let a = c.args in
    let four : length a.dims ≡ 4 = search rules in
    rw c.from_residual.ensures
    (refused c.requires.0
    (array_large a.sheet.now a.dims c.requires.0 c.if-so_far-base.false four c.if-dims-eq0.false c.type_word-size.ensures.is c.total.ensures c.in_err-bytes.was))

pub returns : goal.returns
returns c =
    let a = c.args in
    let four : length a.dims ≡ 4 = search rules in
    array_judged a.sheet.now a.dims c.requires.0 c.requires.1 c.if-so_far-base.false four c.if-dims-eq0.false c.type_word-size.ensures.is c.total.ensures c.in_ok-bytes.was
    c.array_record.ensures c.next_type.ensures

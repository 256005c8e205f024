-- `leaf_columns::line_len` meets its contract. Assumes nothing.
use native.Mathlib.Omega.{arith}
use Rattle.leaf_columns.proofs.Columns.{word_digits, columns_count}
use borrow.Author.Rules.{rules}
use Rattle.leaf_columns.proofs.line_len.Goals as goal

pub overflow_add-result : goal.overflow_add-result
overflow_add-result c = omega (arith, word_digits c.args.byte (omega arith))

pub overflow_add-result-2 : goal.overflow_add-result-2
overflow_add-result-2 c =
    let a = c.args in
    omega (arith, word_digits a.byte (omega arith), word_digits a.size (omega arith))

pub overflow_add-result-3 : goal.overflow_add-result-3
overflow_add-result-3 c =
    let a = c.args in
    omega (arith, word_digits a.byte (omega arith), word_digits a.size (omega arith))

pub overflow_add-result-4 : goal.overflow_add-result-4
overflow_add-result-4 c =
    let a = c.args in
    omega (arith, word_digits a.byte (omega arith), word_digits a.size (omega arith))

pub returns : goal.returns
returns c = search (rules, columns_count)

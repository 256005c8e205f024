-- `difference_text::line_len` meets its contract. Assumes nothing.
use native.Mathlib.Omega.{arith}
use Rattle.number.specs.Parts.{meaning}
use Rattle.difference_text.proofs.Columns.{word_digits, line_count}
use Rattle.difference_text.proofs.line_len.Goals as goal

pub overflow_add-result : goal.overflow_add-result
overflow_add-result c = omega (arith, word_digits c.args.index (omega arith))

pub overflow_add-result-2 : goal.overflow_add-result-2
overflow_add-result-2 c = omega (arith, word_digits c.args.index (omega arith), word_digits c.args.byte (omega arith))

pub overflow_add-result-3 : goal.overflow_add-result-3
overflow_add-result-3 c = omega (arith, word_digits c.args.index (omega arith), word_digits c.args.byte (omega arith))

pub returns : goal.returns
returns c =
    let a = c.args in
    line_count a.index a.byte (meaning a.first) (meaning a.second) (omega arith) (omega arith) c.decimal_len.ensures c.decimal_len-2.ensures c.numbers_len.ensures

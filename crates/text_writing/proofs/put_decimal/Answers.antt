-- `text_writing::put_decimal` meets its contract: with the last i digits of m written too, the result is whole. Assumes nothing.
use native.Mathlib.Omega.{arith}
use borrow.Author.Rules.{rules}
use Rattle.text_writing.proofs.Digits.{digit_written, digits_start}
use Rattle.text_writing.proofs.put_decimal.Goals as goal

pub loop-i-init : goal.loop-i-init
loop-i-init c = search (rules, digits_start)

pub loop-i-preserved : goal.loop-i-preserved
loop-i-preserved c =
    let a = c.args in
    let l = c.loop-i in
    digit_written l.out _ a.at l.i l.m l.invariant (omega arith) (omega arith)

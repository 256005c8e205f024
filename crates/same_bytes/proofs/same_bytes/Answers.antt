-- `same_bytes::same_bytes` meets its contract. Assumes nothing.
use native.Mathlib.Omega.{arith}
use Rattle.same_bytes.proofs.Tests.{stays_is}
use Rattle.same_bytes.proofs.same_bytes.Goals as goal

pub returns-then-size-eq0 : goal.returns-then-size-eq0
returns-then-size-eq0 c = (λ some. absurd (omega (arith, some)), omega arith)

pub returns-then-is_alike : goal.returns-then-is_alike
returns-then-is_alike c =
    let source = c.filled_bytes-size.ensures in
    let destination = c.filled_bytes.ensures in
    let order = c.is_same_word.ensures c.if-is_same_word.true in
    let sign = c.is_same_word-then-is_same_word.ensures c.if-is_same_word-2.true in
    (stays_is _ _ _ _ source.0 destination.0 c.if-filled_bytes-size.true order sign (c.is_alike.ensures c.if-is_alike.true), source.1)

pub returns-else-is_alike : goal.returns-else-is_alike
returns-else-is_alike c = (λ some. absurd (omega (arith, some)), omega arith)

pub returns-else-is_same_word-2 : goal.returns-else-is_same_word-2
returns-else-is_same_word-2 c = (λ some. absurd (omega (arith, some)), omega arith)

pub returns-else-is_same_word : goal.returns-else-is_same_word
returns-else-is_same_word c = (λ some. absurd (omega (arith, some)), omega arith)

pub returns-else-filled_bytes-size : goal.returns-else-filled_bytes-size
returns-else-filled_bytes-size c = (λ some. absurd (omega (arith, some)), omega arith)

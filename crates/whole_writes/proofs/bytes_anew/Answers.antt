-- `whole_writes::bytes_anew` meets its contract. Assumes nothing.
use mathlib.Core.Path.{◌∙◌}
use native.Mathlib.Omega.{arith}
use Rattle.layout.proofs.Edits.{holds}
use Rattle.layout.proofs.Valid.{between}
use Rattle.whole_writes.proofs.Tests.{anew_is}
use mathlib.Core.Path.{ap}
use mathlib.Core.Bool.{not}
use Rattle.whole_writes.proofs.bytes_anew.Goals as goal

pub bits_of-whole-requires : goal.bits_of-whole-requires
bits_of-whole-requires c =
    let size = between c.type_word.result 8 (holds c.size_allowed.ensures (ap not c.if-not-size_allowed.false)) in
    omega (arith, size.1)

pub returns-then-keeps_none-2 : goal.returns-then-keeps_none-2
returns-then-keeps_none-2 c =
    let size = c.type_word.ensures in
    let below = c.keeps_none.ensures c.if-keeps_none.true in
    let above = c.keeps_none-then-keeps_none.ensures c.if-keeps_none-2.true in
    (λ some. anew_is _ _ size c.type_word-offset.ensures c.type_word-precision.ensures c.type_word-below.ensures c.type_word-above.ensures below (λ h. above h ∙ c.bits_of-whole.ensures), size.small)

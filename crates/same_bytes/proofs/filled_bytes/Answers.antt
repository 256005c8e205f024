-- `same_bytes::filled_bytes` meets its contract. Assumes nothing.
use native.Mathlib.Omega.{arith}
use Rattle.layout.proofs.Edits.{holds}
use Rattle.layout.proofs.Valid.{between}
use mathlib.Core.Path.{ap}
use mathlib.Core.Bool.{not}
use Rattle.same_bytes.proofs.filled_bytes.Goals as goal

pub bits_of-whole-requires : goal.bits_of-whole-requires
bits_of-whole-requires c =
    let size = between c.type_word.result 8 (holds c.size_allowed.ensures (ap not c.if-not-size_allowed.false)) in
    omega (arith, size.1)

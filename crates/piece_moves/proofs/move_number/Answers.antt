-- `piece_moves::move_number` meets its contract. Assumes nothing.
use mathlib.Core.Path.{◌∙◌}
use native.Mathlib.Omega.{arith}
use Rattle.bits.specs.declared.Order.TheVariants.{LE}
use Rattle.bits.proofs.Eight.{bytes_of}
use Rattle.piece_moves.proofs.Moves.{number_moved}
use Rattle.piece_moves.proofs.move_number.Goals as goal

pub returns : goal.returns
returns c =
    let a = c.args in
    let call = c.load-x in
    c.store.ensures ∙ number_moved LE a.bytes a.from a.to call.result a.src.now a.dst.now c.requires.1 (bytes_of a.src.now (λ i. omega (arith, c.type_inv.src i))) call.ensures

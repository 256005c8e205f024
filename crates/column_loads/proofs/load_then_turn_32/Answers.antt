-- `column_loads::load_then_turn_32` meets its contract. Assumes nothing.
use mathlib.Core.Path.{◌∙◌}
use Prim.Native.Nat.{ℕ, ◌+◌, ◌*◌, ◌≤◌}
use native.Mathlib.Omega.{arith}
use Rattle.loops.proofs.Lists.{row_within}
use Rattle.column_loads.proofs.TwoBytes.{turned_back}
use Rattle.column_loads.proofs.load_then_turn_32.Goals as goal

pub returns : goal.returns
returns c =
    let a = c.args in
    λ i h.
    let row : i * a.record_size + a.record_size ≤ a.count * a.record_size = row_within a.record_size h in
    let place : ℕ = i * a.record_size + a.byte in
    c.turn_each_32.ensures i h
    ∙ turned_back a.byte a.record_size a.src.now i _ (omega (arith, row, c.requires.1, c.requires.2)) (omega (arith, c.type_inv.src place))
    (omega (arith, c.type_inv.src (place + 1))) (c.load_le2_32.ensures i h)

-- `loading::window` meets its contract. Assumes nothing.
use native.Mathlib.Omega.{arith}
use Rattle.bits.specs.declared.Order.TheVariants.{LE, BE}
use Rattle.bits.proofs.Eight.{bytes_of, windowed}
use Rattle.loading.proofs.window.Goals as goal

pub returns-in-LE : goal.returns-in-LE
returns-in-LE c =
    let a = c.args in
    let h = c.requires in
    let b = bytes_of a.s.now (λ i. omega (arith, c.type_inv.s i)) in
    rw c.in-LE.is
    (windowed a.s.now a.at.0 a.size.0 a.offset.0 a.precision h.0 h.1 h.3 b LE _ c.bits_le.ensures)

pub returns-in-BE : goal.returns-in-BE
returns-in-BE c =
    let a = c.args in
    let h = c.requires in
    let b = bytes_of a.s.now (λ i. omega (arith, c.type_inv.s i)) in
    rw c.in-BE.is
    (windowed a.s.now a.at.0 a.size.0 a.offset.0 a.precision h.0 h.1 h.3 b BE _ (rw c.bits_of-behind.ensures at c.bits_be.ensures))

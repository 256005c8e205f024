-- `placing::store` meets its contract: a layout without pads takes the number as it is; else the calls' contracts compose. Assumes nothing.
use mathlib.Core.Path.{◌∙◌}
use native.Mathlib.Omega.{arith}
use Rattle.bits.proofs.Eight.{bytes_of}
use Rattle.number.proofs.Pads.{stored_whole, stored_filled}
use Rattle.placing.proofs.store.Goals as goal
use Rattle.placing.proofs.store.Goals.{then-l-eq0+then-l-bits_of, else-l-eq0}

pub returns : goal.returns
returns c =
    let a = c.args in
    elim c.if-l-eq0.branch [
      | then-l-eq0+then-l-bits_of w ↦
          stored_whole a.l a.at.0 a.raw a.d.now _ w.if-l-eq0.true (w.if-l-bits_of.true ∙ w.bits_of.ensures) c.requires.1
          (bytes_of a.d.now (λ i. omega (arith, c.slice_known-1.given i)))
          (rw w.container-is at c.store.ensures)
      | else-l-eq0 w ↦ stored_filled a.l a.at.0 a.raw _ _ a.d.now _ w.load.ensures.0 w.fill-container.ensures (rw w.container-is at c.store.ensures)
    ]

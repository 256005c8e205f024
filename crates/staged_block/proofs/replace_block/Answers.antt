-- `staged_block::replace_block` meets its contract: three calls, put together by one law. Assumes nothing.
use mathlib.Core.Path.{◌∙◌}
use Prim.Native.Nat.{◌*◌}
use native.Mathlib.Omega.{arith}
use Rattle.easy.proofs.Lent.{lent_room}
use Rattle.plans.specs.PlanWords.{entries_of}
use Rattle.whole_writes.proofs.Over.{each_alike}
use Rattle.staged_block.proofs.Staged.{staged_laid}
use Rattle.staged_block.proofs.replace_block.Goals as goal

pub grouped_block-requires : goal.grouped_block-requires
grouped_block-requires c =
    let a = c.args in
    let at = a.i * a.destination_size in (
      c.requires.0,
      c.requires.1,
      c.requires.2,
      c.requires.3,
      c.requires.4,
      omega (arith, c.requires.5),
      omega (arith, c.requires.5, c.requires.6),
      omega (arith, c.requires.5, c.requires.7),
      omega (arith, c.requires.8, c.take_bytes.auto.dst),
      lent_room at (a.k * a.destination_size) c.lay_bytes.new.dst (omega (arith, c.requires.10, c.lay_bytes.auto.dst)),
    )

pub shape_of-buf : goal.shape_of-buf
shape_of-buf c = c.buf-2-1.given.1 ∙ c.lay_bytes.auto.dst

pub returns : goal.returns
returns c =
    let a = c.args in
    let call = c.grouped_block.ensures in (
      (λ words p has kept. staged_laid a.source_size a.destination_size (entries_of p) p.sound a.k a.whole (λ w src x y. each_alike p (c.requires.12 w) src x y a.k) a.buf.now a.background.now a.staging.now c.take_bytes.new.dst c.lay_bytes.new.dst c.grouped_block.new.dst (a.i * a.source_size) (a.i * a.destination_size) c.grouped_block.result c.laid_bytes.result c.requires.9 c.requires.10 c.requires.11 c.laid_bytes.ensures.0 c.take_bytes.ensures c.lay_bytes.ensures (call.0 words p has kept)),
      call.1,
    )

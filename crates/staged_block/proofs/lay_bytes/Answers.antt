-- `staged_block::lay_bytes` meets its contract. Assumes nothing.
use mathlib.Core.Path.{ap}
use mathlib.Core.List.{List}
use Prim.Native.Nat.{ℕ, ◌-◌}
use borrow.Rule.Slice.PartMut.{put_mid}
use lib.ListN.{length}
use Rattle.staged_block.proofs.lay_bytes.Goals as goal

pub returns : goal.returns
returns c =
    let a = c.args in
    ap (λ (x : List ℕ). put_mid a.at (length a.dst.now - a.at) a.dst.now x) c.copy_bytes.ensures

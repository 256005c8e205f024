-- `placing::fill` meets its contract. The pads and the significant bits stand side by side in the container's bits (`cat-within`). Assumes nothing.
use native.Mathlib.Nat.{lt_of_lt_of_le}
use native.Mathlib.Omega.{arith}
use lib.Pow.{pow_mono, shr_lt}
use Rattle.number.proofs.Fields.{cat_within}
use Rattle.placing.proofs.fill.Goals as goal

-- the background's bits above the field
pub pad_bits-high-requires : goal.pad_bits-high-requires
pad_bits-high-requires c =
    let pre = c.requires in
    (omega arith, rw c.shift_right.ensures (shr_lt _ _ (lt_of_lt_of_le pre.1 (pow_mono (omega arith)))))

pub join-requires : goal.join-requires
join-requires c =
    let pre = c.requires in
    (omega arith, cat_within _ _ 64 pre.2 c.pad_bits-low.ensures.1 (omega arith))

pub join-requires-2 : goal.join-requires-2
join-requires-2 c =
    let pre = c.requires in
    let low = c.pad_bits-low.ensures.1 in
    (omega arith, cat_within _ _ 64 c.pad_bits-high.ensures.1 (rw c.join.ensures (cat_within _ _ _ pre.2 low (omega arith))) (omega arith))

-- `bulk_records::bulk_down` meets its contract: records that stay as they are keep their bytes, others go in blocks. Assumes nothing.
use mathlib.Core.Path.{◌≡◌}
use Prim.Native.Nat.{◌-◌}
use native.Mathlib.Nat.{le_refl}
use native.Mathlib.Omega.{arith}
use lib.ListN.{length}
use Rattle.bits.proofs.Eight.{bytes_of}
use Rattle.whole_copies.proofs.Whole.{whole_room, whole_down}
use Rattle.bulk_records.proofs.bulk_down.Goals as goal

pub returns-then-is_whole_copy : goal.returns-then-is_whole_copy
returns-then-is_whole_copy c =
    let a = c.args in
    let whole = c.is_whole_copy.ensures c.if-is_whole_copy.true in
    let bytes = bytes_of a.buf.now (λ i. omega (arith, c.type_inv.buf i)) in
    let none : a.count - a.count ≡ 0 = omega arith in
    (le_refl a.count, λ j. rw none (whole_down j whole a.count a.buf.now a.background.now (whole_room whole a.count (length a.buf.now) c.requires.4) c.requires.5 bytes c.requires.2))

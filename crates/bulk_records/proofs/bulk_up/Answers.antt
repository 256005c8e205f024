-- `bulk_records::bulk_up` meets its contract: records that stay as they are keep their bytes, others go in blocks. Assumes nothing.
use native.Mathlib.Nat.{le_refl}
use native.Mathlib.Omega.{arith}
use Rattle.bits.proofs.Eight.{bytes_of}
use Rattle.whole_copies.proofs.Whole.{whole_up}
use Rattle.bulk_records.proofs.bulk_up.Goals as goal

pub returns-then-is_whole_copy : goal.returns-then-is_whole_copy
returns-then-is_whole_copy c =
    let a = c.args in
    let whole = c.is_whole_copy.ensures c.if-is_whole_copy.true in
    let bytes = bytes_of a.buf.now (λ i. omega (arith, c.type_inv.buf i)) in
    (le_refl a.count, λ j. whole_up j whole a.count a.buf.now a.background.now c.requires.4 c.requires.5 bytes c.requires.2)

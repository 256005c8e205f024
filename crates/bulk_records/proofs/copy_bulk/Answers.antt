-- `bulk_records::copy_bulk` meets its contract: records that stay as they are in one copy, others in blocks. Assumes nothing.
use native.Mathlib.Nat.{le_refl}
use native.Mathlib.Omega.{arith}
use lib.ListN.{length}
use Rattle.bits.proofs.Eight.{bytes_of}
use Rattle.whole_copies.proofs.Whole.{whole_room, whole_copied}
use Rattle.bulk_records.proofs.copy_bulk.Goals as goal

pub copy_bytes-requires : goal.copy_bytes-requires
copy_bytes-requires c =
    let whole = c.is_whole_copy.ensures c.if-is_whole_copy.true in
    (c.requires.2, whole_room whole c.args.count (length c.args.dst.now) c.requires.3)

pub returns-then-is_whole_copy : goal.returns-then-is_whole_copy
returns-then-is_whole_copy c =
    let a = c.args in
    let whole = c.is_whole_copy.ensures c.if-is_whole_copy.true in
    let bytes = bytes_of a.src.now (λ i. omega (arith, c.type_inv.src i)) in
    (le_refl a.count, λ j. whole_copied j whole a.count a.src.now a.dst.now _ c.requires.2 c.requires.3 bytes c.copy_bytes.ensures)

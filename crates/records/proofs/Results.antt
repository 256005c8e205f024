-- The two results, part by part: the converted records, the cleared tail, the later bytes, and the length. Assumes nothing.
use mathlib.Core.Path.{◌≡◌, ap, ◌∙◌}
use mathlib.Core.List.{List, ◌++◌, append_assoc}
use Prim.Native.Nat.{ℕ, ◌-◌, ◌*◌, ◌≤◌, max}
use native.Mathlib.Nat.{zero-mul}
use native.Mathlib.Omega.{arith}
use lib.ListN.{length, take, drop, replicate, length-append, length-drop, length-replicate}
use lib.Seq.{take_at, drop_at}
use Rattle.datatype.specs.Datatype.{Datatype, size}
use Rattle.datatype.specs.WellFormed.{WellFormed}
use Rattle.records.specs.Records.{joined, readings, converted_records, copy_result, in_place_result}
use Rattle.records.proofs.ManyRecords.{converted_length}

-- no record: nothing changes
pub copy_none : (S D : Datatype) (source destination : List ℕ) → copy_result S D 0 source destination ≡ destination
unfolding joined
copy_none S D source destination = simp zero-mul

pub in_place_none : (S D : Datatype) (buffer background : List ℕ) → in_place_result S D 0 buffer background ≡ buffer
unfolding joined
in_place_none S D buffer background = simp zero-mul

module _ (S D : Datatype) (fs : WellFormed S) (fd : WellFormed D) (n : ℕ) (x y : List ℕ) (room : n * size D ≤ length y) where
  abbrev new : List ℕ
  new = converted_records S D n (readings S D x) y

  new_length : length (converted_records S D n (readings S D x) y) ≡ n * size D
  new_length = converted_length S D fs fd n (readings S D x) y room

  -- copying from x over y
  pub copy_converted : take (n * size D) (copy_result S D n x y) ≡ converted_records S D n (readings S D x) y
  copy_converted = take_at new _ (n * size D) new_length

  pub copy_later : drop (n * size D) (copy_result S D n x y) ≡ drop (n * size D) y
  copy_later = drop_at new _ (n * size D) new_length

  pub copy_length : length (copy_result S D n x y) ≡ length y
  copy_length = rw (length-append, new_length, length-drop) (omega arith)

  -- in place in x, with the background y
  pub in_place_converted : take (n * size D) (in_place_result S D n x y) ≡ converted_records S D n (readings S D x) y
  in_place_converted = take_at new _ (n * size D) new_length

  pub in_place_cleared : take (n * size S - n * size D) (drop (n * size D) (in_place_result S D n x y)) ≡ replicate (n * size S - n * size D) 0
  in_place_cleared =
      ap (take (n * size S - n * size D)) (drop_at new _ (n * size D) new_length)
      ∙ take_at (replicate (n * size S - n * size D) 0) _ (n * size S - n * size D) (length-replicate (n * size S - n * size D) 0)

  pub in_place_later : drop (max (n * size S) (n * size D)) (in_place_result S D n x y) ≡ drop (max (n * size S) (n * size D)) x
  in_place_later =
      rw (← append_assoc)
      (drop_at (new ++ replicate (n * size S - n * size D) 0) (drop (max (n * size S) (n * size D)) x) (max (n * size S) (n * size D))
      (rw (length-append, new_length, length-replicate) (omega arith)))

  pub in_place_length : n * size S ≤ length x → n * size D ≤ length x → length (in_place_result S D n x y) ≡ length x
  in_place_length h g = rw (length-append, new_length, length-append, length-replicate, length-drop) (omega arith)

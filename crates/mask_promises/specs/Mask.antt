-- What a call for the mask leaves in the mask buffer.
use Rattle.std.specs.Prelude.{◌≡◌, ◌↔◌, ℕ, ◌<◌, length, get_or, drop}
use Rattle.bits.specs.Container.{bit}
use Rattle.datatype.specs.Datatype.{Datatype, size}
use Rattle.sheet.specs.Sheet.{sheet_of}
use Rattle.sheet.specs.Sheet.Sheet.{of_type}
use Rattle.masks.specs.Says.{Significant}
use Rattle.reaches.specs.Call.{Call, mask_after}
use Rattle.mask_promises.specs.Demand1.{answer_number}

-- the call is done; S and D are the types of its sheets
pub record Masked (c : Call) (S D : Datatype) : Type 0 where
  pub source : sheet_of c.source_sheet ≡ of_type S
  pub destination : sheet_of c.destination_sheet ≡ of_type D
  pub done : answer_number c ≡ 0

-- what it leaves in the mask buffer
pub record MaskBuffer (c : Call) : Type 0 where
  pub lengths : length (mask_after c) ≡ length c.mask
  -- a refusal leaves it as it was
  pub refusals : ¬ (answer_number c ≡ 0) → mask_after c ≡ c.mask
  -- a bit of the mask is 1 exactly if it is a significant bit of a matched source leaf
  pub exactly : (S D : Datatype) → Masked c S D → (j q : ℕ) → j < size S → q < 8 → bit q (get_or (mask_after c) j 0) ≡ 1 ↔ Significant S D j q
  -- and bytes behind the mask never change
  pub behind : (S D : Datatype) → Masked c S D → drop (size S) (mask_after c) ≡ drop (size S) c.mask

-- The bits of a mask in n source records, and two buffers of them that differ in one bit.
use Rattle.std.specs.Prelude.{◌≡◌, List, [], ℕ, ◌+◌, ◌*◌, ◌<◌, get_or}
use Rattle.bits.specs.Container.{bit}
use Rattle.layout.specs.declared.Layout.{Layout}
use Rattle.datatype.specs.Datatype.{Leaf}
use Rattle.datatype.specs.Datatype.Leaf.{enumeration}
use Rattle.records.specs.Records.{record_at}

-- a buffer holds bytes
abbrev pub AreBytes : List ℕ → Type 0
AreBytes buffer = (j : ℕ) → get_or buffer j 0 < 256

-- a bit that the mask has, of one of n records of `size` bytes
pub record MaskBit (mask : List ℕ) (size n : ℕ) : Type 0 where
  pub index : ℕ
  pub byte : ℕ
  pub at : ℕ  -- the bit of that byte as it lies in memory, 0 the lowest
  pub in_records_lem : index < n
  pub in_record_lem : byte < size
  pub in_byte : at < 8
  pub set : bit at (get_or mask byte 0) ≡ 1

-- what it is in a buffer of such records
abbrev pub bit_at : {mask : List ℕ} {size n : ℕ} → MaskBit mask size n → List ℕ → ℕ
bit_at {size = size} b buffer = bit b.at (get_or (record_at size b.index buffer) b.byte 0)

-- two sources agree on the mask's bits in every record
abbrev pub AgreeOnMask : List ℕ → ℕ → ℕ → List ℕ → List ℕ → Type 0
AgreeOnMask mask size n p q = (b : MaskBit mask size n) → bit_at b p ≡ bit_at b q

-- two sources differ in that bit of that record alone: every other bit of every byte is the same
pub record DifferOnlyIn {mask : List ℕ} {size n : ℕ} (b : MaskBit mask size n) (p q : List ℕ) : Type 0 where
  pub differ : ¬ (bit_at b p ≡ bit_at b q)
  pub others : (j k : ℕ) → ¬ ((j ≡ b.index * size + b.byte) × (k ≡ b.at)) → bit k (get_or p j 0) ≡ bit k (get_or q j 0)

-- a source enum without a value
abbrev pub NoValue : Leaf → Type 0
NoValue x = (l : Layout) × (x ≡ enumeration l [])

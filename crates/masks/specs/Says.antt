-- What the mask says: a bit of it is one exactly if it is a significant bit of a matched source leaf.
use Rattle.std.specs.Prelude.{◌≡◌, ◌↔◌, ℕ, ◌+◌, ◌-◌, ◌/◌, ◌%◌, ◌≤◌, ◌<◌, length, get_or}
use Rattle.bits.specs.declared.Order.{Order}
use Rattle.bits.specs.declared.Order.TheVariants.{LE, BE}
use Rattle.bits.specs.Container.{bit}
use Rattle.datatype.specs.Datatype.{Leaf, layout_of, leaf_size, Datatype, size}
use Rattle.datatype.specs.Matches.{match_at}
use Rattle.datatype.specs.Matches.Match.{matched}
use Rattle.masks.specs.Mask.{mask}

-- "Bit 0 is the lowest bit of the lowest-address byte (LE) or of the highest-address byte (BE)": the byte of a container of s bytes that has its bit k; there it is bit k % 8
abbrev pub byte_of : Order → ℕ → ℕ → ℕ
byte_of LE s k = k / 8
byte_of BE s k = s - 1 - k / 8

-- bit q of byte j of a source record is significant: bit k of the container of a matched source leaf x, which starts at byte a
pub record Significant (S D : Datatype) (j q : ℕ) : Type 0 where
  pub to : ℕ
  pub from : ℕ
  pub source : Leaf
  pub destination : Leaf
  pub match : match_at S D to ≡ matched from source destination
  pub at : ℕ
  pub from_offset : (layout_of source).offset.0 ≤ at
  pub within_precision : at < (layout_of source).offset.0 + (layout_of source).precision
  pub byte : j ≡ from + byte_of (layout_of source).order (leaf_size source) at
  pub bit : q ≡ at % 8

pub record Says (S D : Datatype) : Type 0 where
  -- the mask is one source record long
  pub long : length (mask S D) ≡ size S
  -- and has exactly the significant bits of the matched source leaves
  pub exactly : (j q : ℕ) → j < size S → q < 8 → bit q (get_or (mask S D) j 0) ≡ 1 ↔ Significant S D j q
  pub bytes : (j : ℕ) → get_or (mask S D) j 0 < 256

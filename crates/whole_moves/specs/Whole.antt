-- Words of two numbers of whole bytes. No meaning of document 01 stands here.
use Rattle.std.specs.Prelude.{◌≡◌, ℕ, ◌+◌, ◌-◌, ◌*◌, ◌^◌, bit_and}
use Rattle.column_words.specs.declared.Words.{Words}

-- the number c of n bytes as one of m bytes
abbrev pub moved_by : ℕ → ℕ → ℕ → ℕ → ℕ
moved_by n m half c = bit_and (bit_and (c + half) (2 ^ (8 * n) - 1) + (2 ^ 64 - half)) (2 ^ (8 * m) - 1)

-- a number that is always in range and has all bits of both containers
pub record Whole (w : Words) : Type 0 where
  pub down : w.shift ≡ 0
  pub mask : w.mask ≡ 2 ^ (8 * w.source_size) - 1
  pub low : w.low ≡ 0
  pub high : w.high ≡ w.mask
  pub into : w.into ≡ 2 ^ (8 * w.size) - 1
  pub up : w.up ≡ 0
  pub ones : w.ones ≡ 0
  pub keep : w.keep ≡ 0

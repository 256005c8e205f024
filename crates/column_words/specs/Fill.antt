-- The container that a write leaves, by three words of its layout: how far up the number stands, the pad bits that are one, and a mask of the bits that stay.
-- No meaning of document 01 stands here.
use Rattle.std.specs.Prelude.{ℕ, ◌+◌, ◌-◌, ◌*◌, ◌^◌}
use Rattle.std.specs.Int.Bits.{bit_and}
use Rattle.layout.specs.declared.Pad.{Pad}
use Rattle.layout.specs.declared.Pad.TheVariants.{Zero, One, Keep}
use Rattle.layout.specs.declared.Layout.{Layout}

-- the bits of a pad that are one, and those that stay
abbrev pub ones_in : Pad → ℕ → ℕ
ones_in Zero bits = 0
ones_in One bits = bits
ones_in Keep bits = 0

abbrev pub kept_in : Pad → ℕ → ℕ
kept_in Zero bits = 0
kept_in One bits = 0
kept_in Keep bits = bits

-- the bits below the number, and those above
abbrev pub low_pad : Layout → ℕ
low_pad l = 2 ^ l.offset.0 - 1

abbrev pub high_pad : Layout → ℕ
high_pad l = 2 ^ (8 * l.size.0) - 2 ^ (l.offset.0 + l.precision)

unfoldable pub ones_of : Layout → ℕ
ones_of l = ones_in l.msb (high_pad l) + ones_in l.lsb (low_pad l)

unfoldable pub keep_of : Layout → ℕ
keep_of l = kept_in l.msb (high_pad l) + kept_in l.lsb (low_pad l)

-- the bits r at bit `up`, over the background's container g
abbrev pub filled_by : ℕ → ℕ → ℕ → ℕ → ℕ → ℕ
filled_by up ones keep g r = r * 2 ^ up + ones + bit_and g keep

-- Document 01, "Where the bits lie": the significant bits in a layout's place, and what a write leaves there.
use Rattle.std.specs.Prelude.{List, ℕ, ◌+◌, ◌-◌, ◌*◌, ◌/◌, ◌%◌, ◌^◌, take, drop}
use Rattle.std.proofs.Math.Seq.{paste}
use Rattle.bits.specs.Container.{container, contained, field}
use Rattle.layout.specs.declared.Pad.{Pad}
use Rattle.layout.specs.declared.Pad.TheVariants.{Zero, One, Keep}
use Rattle.layout.specs.declared.Layout.{Layout}

-- "pads `zero`, `one` or `keep` (HDF5's background)": w pad bits, where the background has the bits g
abbrev pub padded : Pad → ℕ → ℕ → ℕ
padded Zero w g = 0
padded One w g = 2 ^ w - 1
padded Keep w g = g

-- "Writing sets lower bits by the lsb pad and higher bits by the msb pad; `keep` takes the background's bits."
-- The container that a write of the significant bits r leaves, where the background's container is g.
abbrev pub filled : Layout → ℕ → ℕ → ℕ
filled l g r =
    padded l.msb (8 * l.size.0 - (l.offset.0 + l.precision)) (g / 2 ^ (l.offset.0 + l.precision)) * 2 ^ (l.offset.0 + l.precision)
    + (r * 2 ^ l.offset.0 + padded l.lsb l.offset.0 (g % 2 ^ l.offset.0))

-- the bytes of l's place at byte i of s
abbrev pub place : Layout → ℕ → List ℕ → List ℕ
place l i s = take l.size.0 (drop i s)

-- the significant bits in l's place at byte i of s
abbrev pub raw_at : Layout → ℕ → List ℕ → ℕ
raw_at l i s = field l.offset.0 l.precision (container l.order (place l i s))

-- s with the significant bits r in l's place at byte i: every byte outside the place is s's, and so is every bit that a pad keeps
abbrev pub stored : Layout → ℕ → ℕ → List ℕ → List ℕ
stored l i r s = paste s i (contained l.order l.size.0 (filled l (container l.order (place l i s)) r)) l.size.0

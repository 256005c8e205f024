-- A number of a column on its way from the source's container to the destination's, by the words of the two layouts. No meaning of document 01 stands here.
use Rattle.std.specs.Prelude.{ℕ, ◌+◌, ◌-◌, ◌*◌, ◌/◌, ◌^◌, ◌≤◌, ◌<◌}
use Rattle.std.specs.Int.Bits.{bit_and}
use Rattle.layout.specs.declared.Layout.{Layout}
use Rattle.records.specs.Record.{raises}
use Rattle.column_words.specs.declared.Words.{Words}
use Rattle.column_words.specs.Fit.{half_of, low_end, high_end, clamped, kind_by}
use Rattle.column_words.specs.Fill.{ones_of, keep_of}

unfoldable pub words_of : Layout → Layout → Words
words_of l m =
    record {
      source_size = l.size.0;
      source_order = l.order;
      shift = l.offset.0;
      mask = 2 ^ l.precision - 1;
      half = half_of l.signed l.precision;
      low = low_end l.signed l.precision m.signed m.precision;
      high = high_end l.signed l.precision m.signed m.precision;
      into = 2 ^ m.precision - 1;
      up = m.offset.0;
      ones = ones_of m;
      keep = keep_of m;
      size = m.size.0;
      order = m.order;
    }

-- the source's container x as a biased number
abbrev pub bias_by : Words → ℕ → ℕ
bias_by w x = bit_and (x / 2 ^ w.shift + w.half) w.mask

-- a biased number that is inside, as a container with the pads that are one
abbrev pub place_by : Words → ℕ → ℕ
place_by w b = bit_and (b + (2 ^ 64 - w.half)) w.into * 2 ^ w.up + w.ones

-- what the source's container becomes, without the background's bits, and whether it raises an exception
unfoldable pub make_by : Words → ℕ → ℕ
make_by w x = place_by w (clamped w.low w.high (bias_by w x))

unfoldable pub count_by : Words → ℕ → ℕ
count_by w x = raises (kind_by w.low w.high (bias_by w x))

-- the words fit numbers of v bits: 64, or 32 where both containers have at most four bytes
pub record Fits (v : ℕ) (w : Words) : Type 0 where
  pub source : 8 * w.source_size ≤ v
  pub destination : 8 * w.size ≤ v
  pub down : w.shift < v
  pub up : w.up < v
  pub mask : w.mask < 2 ^ v
  pub half : w.half < 2 ^ v
  pub low : w.low < 2 ^ v
  pub high : w.high < 2 ^ v
  pub into : w.into < 2 ^ v
  pub sum : w.into * 2 ^ w.up + w.ones + w.keep < 2 ^ v

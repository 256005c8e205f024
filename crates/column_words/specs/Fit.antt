-- A number of p bits brought into the range of q bits by its bits alone: half of the source's numbers is added first, so that the bits are in the numbers' order and have no sign.
-- No meaning of document 01 stands here. A Bool is whether the numbers are signed.
use Rattle.std.specs.Prelude.{Bool, true, false, cond, ℕ, ◌+◌, ◌-◌, ◌^◌, ◌%◌, min, ltb}
use Rattle.layout.specs.declared.Layout.{Layout}

-- how far below 0 the numbers of p bits go, and how far above
abbrev pub half_of : Bool → ℕ → ℕ
half_of false p = 0
half_of true p = 2 ^ (p - 1)

abbrev pub most_of : Bool → ℕ → ℕ
most_of signed p = 2 ^ p - 1 - half_of signed p

-- the ends of the destination's range among the biased numbers of the source
abbrev pub low_end : Bool → ℕ → Bool → ℕ → ℕ
low_end s p t q = half_of s p - half_of t q

abbrev pub high_end : Bool → ℕ → Bool → ℕ → ℕ
high_end s p t q = half_of s p + min (most_of s p) (most_of t q)

abbrev pub biased : Bool → ℕ → ℕ → ℕ
biased s p r = (r + half_of s p) % 2 ^ p

abbrev pub clamped : ℕ → ℕ → ℕ → ℕ
clamped low high b = cond (ltb high b) high (cond (ltb b low) low b)

abbrev pub kind_by : ℕ → ℕ → ℕ → ℕ
kind_by low high b = cond (ltb high b) 1 (cond (ltb b low) 2 0)

-- the q bits of a biased number: the difference x - half, modulo 2 ^ q
abbrev pub unbiased : ℕ → ℕ → ℕ → ℕ
unbiased half q x = (x + (2 ^ 64 - half)) % 2 ^ q

-- the bits r of l as those of m, and the kind of exception
abbrev pub raw_between : Layout → Layout → ℕ → ℕ
raw_between l m r =
    unbiased (half_of l.signed l.precision) m.precision
    (clamped (low_end l.signed l.precision m.signed m.precision) (high_end l.signed l.precision m.signed m.precision) (biased l.signed l.precision r))

abbrev pub kind_between : Layout → Layout → ℕ → ℕ
kind_between l m r =
    kind_by (low_end l.signed l.precision m.signed m.precision) (high_end l.signed l.precision m.signed m.precision) (biased l.signed l.precision r)

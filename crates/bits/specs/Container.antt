-- Document 01, "Where the bits lie": some bytes as one number, and a field of its bits.
use Rattle.std.specs.Prelude.{List, [], ◌∷◌, reverse, ℕ, zero, suc, ◌+◌, ◌*◌, ◌/◌, ◌%◌, ◌^◌}
use Rattle.bits.specs.declared.Order.{Order}
use Rattle.bits.specs.declared.Order.TheVariants.{LE, BE}

-- "Bit 0 is the lowest bit of the lowest-address byte (LE) or of the highest-address byte (BE)."
-- The bytes from the lowest to the highest, of the bytes by address; and the other way round.
abbrev pub arranged : Order → List ℕ → List ℕ
arranged LE bs = bs
arranged BE bs = reverse bs

-- the number whose base-256 digits are these, the lowest first
abbrev pub from_digits : List ℕ → ℕ
from_digits [] = 0
from_digits (b ∷ bs) = from_digits bs * 256 + b

-- the n lowest base-256 digits of c, the lowest first
abbrev pub to_digits : ℕ → ℕ → List ℕ
to_digits zero c = []
to_digits (suc n) c = c % 256 ∷ to_digits n (c / 256)

-- the container: the bytes as one number, whose bit k is document 01's bit k
abbrev pub container : Order → List ℕ → ℕ
container order bs = from_digits (arranged order bs)

-- the n bytes of the container c
abbrev pub contained : Order → ℕ → ℕ → List ℕ
contained order n c = arranged order (to_digits n c)

-- "The number occupies bits offset to offset + precision − 1": those bits of the container c, as a number
abbrev pub field : ℕ → ℕ → ℕ → ℕ
field offset precision c = c / 2 ^ offset % 2 ^ precision

-- bit k of the container c
abbrev pub bit : ℕ → ℕ → ℕ
bit k c = c / 2 ^ k % 2

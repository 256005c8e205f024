-- Pairs of layouts between which no number raises an exception, and the words by which such a leaf is converted without a look at its layouts.
use Rattle.std.specs.Prelude.{Bool, true, false, cond, ◌&&◌, List, [], ◌∷◌, ℕ, ◌+◌, ◌-◌, ◌*◌, ◌/◌, ◌%◌, ◌^◌, eqb, leb, ltb, replicate, set}
use Rattle.bits.specs.declared.Order.{Order}
use Rattle.bits.specs.declared.Order.TheVariants.{LE, BE}
use Rattle.layout.specs.declared.Layout.{Layout}
use Rattle.layout.specs.Layout.{valid}
use Rattle.table.specs.Records.{order_code}
use Rattle.entry_code.specs.Code.{packed}

-- whether every number of p bits is one of q bits
abbrev pub inside : Bool → Bool → ℕ → ℕ → Bool
inside false false p q = leb p q
inside false true p q = ltb p q
inside true false p q = false
inside true true p q = leb p q

-- whether every number of l is one of m's, and m has no bits beside its number, so that no background is needed
abbrev pub easy : Layout → Layout → Bool
easy l m = eqb m.offset.0 0 && (eqb m.precision (8 * m.size.0) && inside l.signed m.signed l.precision m.precision)

-- how far above bit 0 a number at bit o of n bytes lies, where eight bytes are read from its first byte on
abbrev pub shift_of : Order → ℕ → ℕ → ℕ
shift_of LE n o = o
shift_of BE n o = 64 - 8 * n + o

-- what a set sign bit of p bits adds to the same number in q bits
abbrev pub carry_of : Bool → ℕ → ℕ → ℕ
carry_of false p q = 0
carry_of true p q = (2 ^ q - 1) - (2 ^ p - 1)

-- the four words of a pair: the packed one, the two halves of the carry, and one that is free
abbrev pub words_of : Layout → Layout → List ℕ
words_of l m =
    let carry : ℕ = carry_of l.signed l.precision m.precision in
    packed (1 + order_code l.order) (shift_of l.order l.size.0 l.offset.0) l.precision m.size.0 (order_code m.order) 0
    ∷ carry % 4294967296 ∷ carry / 4294967296 ∷ 0 ∷ []

-- the words of a pair of valid layouts that is easy, and zeros for any other
abbrev pub easy_words : Layout → Layout → List ℕ
easy_words l m = cond (valid l && (valid m && easy l m)) (words_of l m) (replicate 4 0)

-- w with these words from word k on
unfoldable pub with_words : List ℕ → ℕ → List ℕ → List ℕ
with_words w k [] = w
with_words w k (x ∷ xs) = with_words (set w k x) (k + 1) xs

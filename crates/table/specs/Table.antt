-- Document 01, "A lent working table of 32-bit words holds the read sheets": the datatypes that half a table, 4,096 words, stands for beside its sheet's text.
-- The record of type i has 16 words from word 16 × i on: class (0 int, 1 bits, 2 enum, 3 compound, 4 array, 5 real), size, order, offset, precision, lsb, msb, signed,
-- base, first row, rows, four dimensions (0 for none), and one that is free. The record of row j has 8 words from word 1,024 + 8 × j on: where its name starts in
-- the text, the name's length, and of a member its byte offset, its type's number and, in word 5, its word (0 none, 1 clamp, 2 stop), of a value its sign and the two
-- halves of its distance; the others are free, and 0.
-- From word 3,072 on a half has no record: no type and no row depends on the words there, in which the reader of sheets keeps its notes.
-- Any words stand for some datatypes: a word outside the records reads as 0.
use Rattle.std.specs.Prelude.{Bool, true, false, cond, ◌≡◌, List, [], ◌∷◌, ℕ, zero, suc, ◌+◌, ◌*◌, ◌≤◌, ◌<◌, eqb, ltb, ℤ, get_or, length}
use Rattle.bits.specs.declared.Order.{Order}
use Rattle.bits.specs.declared.Order.TheVariants.{LE, BE}
use Rattle.layout.specs.declared.Class.{Class}
use Rattle.layout.specs.declared.Class.TheVariants.{Int, Bits}
use Rattle.layout.specs.declared.Pad.{Pad}
use Rattle.layout.specs.declared.Pad.TheVariants.{Zero, One, Keep}
use Rattle.layout.specs.declared.Layout.{Layout}
use Rattle.number.specs.Parts.{signed_by}
use Rattle.datatype.specs.declared.Word.{Word}
use Rattle.datatype.specs.declared.Word.TheVariants.{Silent, Clamp, Stop}
use Rattle.datatype.specs.Datatype.{Symbol, Leaf, Datatype, Members}
pub use Rattle.datatype.specs.Datatype.{up_to_zero}
use Rattle.datatype.specs.Datatype.Leaf.{atomic, enumeration, real}
use Rattle.datatype.specs.Datatype.Datatype.{leaf, compound, array}
use Rattle.datatype.specs.Datatype.Members.{empty, member}

-- ---- words

-- word q of the record of type i
unfoldable pub type_word : List ℕ → ℕ → ℕ → ℕ
type_word w i q = cond (ltb i 64) (get_or w (16 * i + q) 0) 0

-- word q of the record of row j
unfoldable pub row_word : List ℕ → ℕ → ℕ → ℕ
row_word w j q = cond (ltb j 256) (get_or w (1024 + 8 * j + q) 0) 0

abbrev pub class_word : List ℕ → ℕ → ℕ
class_word w i = type_word w i 0

abbrev pub size_word : List ℕ → ℕ → ℕ
size_word w i = type_word w i 1

abbrev pub base_word : List ℕ → ℕ → ℕ
base_word w i = type_word w i 8

abbrev pub first_word : List ℕ → ℕ → ℕ
first_word w i = type_word w i 9

abbrev pub rows_word : List ℕ → ℕ → ℕ
rows_word w i = type_word w i 10

abbrev pub offset_word : List ℕ → ℕ → ℕ
offset_word w j = row_word w j 2

abbrev pub member_type_word : List ℕ → ℕ → ℕ
member_type_word w j = row_word w j 3

-- ---- codes

abbrev pub order_of : ℕ → Order
order_of zero = LE
order_of (suc k) = BE

abbrev pub pad_of : ℕ → Pad
pad_of zero = Zero
pad_of (suc zero) = One
pad_of (suc (suc k)) = Keep

abbrev pub flag_of : ℕ → Bool
flag_of zero = false
flag_of (suc k) = true

abbrev pub class_of : ℕ → Class
class_of k = cond (eqb k 1) Bits Int

abbrev pub word_of : ℕ → Word
word_of zero = Silent
word_of (suc zero) = Clamp
word_of (suc (suc k)) = Stop

-- the word of the member in row j
abbrev pub word_at_row : List ℕ → ℕ → Word
word_at_row w j = word_of (row_word w j 5)

-- ---- leaves

-- the layout in the record of type i
unfoldable pub layout_at : List ℕ → ℕ → Layout
layout_at w i =
    record {
      class = class_of (type_word w i 0);
      size = record { 0 = type_word w i 1 };
      order = order_of (type_word w i 2);
      offset = record { 0 = type_word w i 3 };
      precision = type_word w i 4;
      lsb = pad_of (type_word w i 5);
      msb = pad_of (type_word w i 6);
      signed = flag_of (type_word w i 7);
    }

-- n bytes of the text t from byte s on; a byte past its end is 0
unfoldable pub bytes_at : List ℕ → ℕ → ℕ → List ℕ
bytes_at t s zero = []
bytes_at t s (suc n) = get_or t s 0 ∷ bytes_at t (s + 1) n

-- the name of row j
abbrev pub name_at : List ℕ → List ℕ → ℕ → List ℕ
name_at w t j = bytes_at t (row_word w j 0) (row_word w j 1)

-- the number of the value in row j
abbrev pub value_at : List ℕ → ℕ → ℤ
value_at w j = signed_by (flag_of (row_word w j 2)) (row_word w j 3 + row_word w j 4 * 4294967296)

-- the values in the n rows from first on, the newest first
unfoldable pub symbols_at : List ℕ → List ℕ → ℕ → ℕ → List Symbol
symbols_at w t first zero = []
symbols_at w t first (suc n) = record { name = name_at w t (first + n); number = value_at w (first + n) } ∷ symbols_at w t first n

-- type i where it is a leaf
unfoldable pub leaf_of_type : List ℕ → List ℕ → ℕ → Leaf
leaf_of_type w t i =
    cond (eqb (class_word w i) 2) (enumeration (layout_at w i) (symbols_at w t (first_word w i) (rows_word w i)))
    (cond (eqb (class_word w i) 5) (real (layout_at w i))
    (atomic (layout_at w i)))

-- ---- types

-- the members in the n rows from first on, the newest first, whose types D gives by their numbers
unfoldable pub members_at : (ℕ → Datatype) → List ℕ → List ℕ → ℕ → ℕ → Members
members_at D w t first zero = empty
members_at D w t first (suc n) =
    member (name_at w t (first + n)) (offset_word w (first + n)) (D (member_type_word w (first + n))) (word_at_row w (first + n)) (members_at D w t first n)

abbrev pub dimensions_at : List ℕ → ℕ → List ℕ
dimensions_at w i = up_to_zero (type_word w i 11 ∷ type_word w i 12 ∷ type_word w i 13 ∷ type_word w i 14 ∷ [])

-- type i, where D gives the types inside it by their numbers
unfoldable pub node : (ℕ → Datatype) → List ℕ → List ℕ → ℕ → Datatype
node D w t i =
    cond (eqb (class_word w i) 4) (array (size_word w i) (dimensions_at w i) (D (base_word w i)))
    (cond (eqb (class_word w i) 3) (compound (size_word w i) (members_at D w t (first_word w i) (rows_word w i)))
    (leaf (leaf_of_type w t i)))

-- type i to the depth f; what lies deeper is an empty compound. A sheet has at most 64 types and a type is made of lower ones, so 64 is deep enough
unfoldable pub decode : ℕ → List ℕ → List ℕ → ℕ → Datatype
decode zero w t i = compound (size_word w i) empty
decode (suc f) w t i = node (decode f w t) w t i

abbrev pub type_at : List ℕ → List ℕ → ℕ → Datatype
type_at w t i = decode 64 w t i

-- the first n types, the newest first, as a sheet's definition has them
unfoldable pub types_at : List ℕ → List ℕ → ℕ → List Datatype
types_at w t zero = []
types_at w t (suc n) = type_at w t n ∷ types_at w t n

-- ---- what the reader of sheets keeps true, so that later records change no earlier type

-- type i is made of lower types only, and its rows are below m
pub record Low (w : List ℕ) (m i : ℕ) : Type 0 where
  pub base : class_word w i ≡ 4 → base_word w i < i
  pub room : first_word w i + rows_word w i ≤ m
  pub inner : class_word w i ≡ 3 → (j : ℕ) → first_word w i ≤ j → j < first_word w i + rows_word w i → member_type_word w j < i

-- the table w holds n types and m rows; the rows of the newest type are the last ones
pub record Holds (w : List ℕ) (n m : ℕ) : Type 0 where
  pub words : length w ≡ 4096
  pub types : n ≤ 64
  pub rows : m ≤ 256
  pub low : (i : ℕ) → i < n → Low w m i
  pub newest : (i : ℕ) → n ≡ suc i → first_word w i + rows_word w i ≡ m

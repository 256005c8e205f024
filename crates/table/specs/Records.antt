-- The words of each record, as the code makes them. What each decodes to is proved in proofs/Made.antt.
use Rattle.std.specs.Prelude.{Bool, true, false, List, [], ◌∷◌, ℕ, ◌+◌, ◌-◌, ◌*◌, ◌/◌, ◌%◌, ◌≤◌, get_or, set, replicate}
use Rattle.std.proofs.Math.Seq.{paste}
use Rattle.bits.specs.declared.Order.{Order}
use Rattle.bits.specs.declared.Order.TheVariants.{LE, BE}
use Rattle.layout.specs.declared.Class.{Class}
use Rattle.layout.specs.declared.Class.TheVariants.{Int, Bits}
use Rattle.layout.specs.declared.Pad.{Pad}
use Rattle.layout.specs.declared.Pad.TheVariants.{Zero, One, Keep}
use Rattle.layout.specs.declared.Layout.{Layout}
use Rattle.datatype.specs.declared.Word.{Word}
use Rattle.datatype.specs.declared.Word.TheVariants.{Silent, Clamp, Stop}
use Rattle.table.specs.Table.{first_word, rows_word}

abbrev pub order_code : Order → ℕ
order_code LE = 0
order_code BE = 1

abbrev pub pad_code : Pad → ℕ
pad_code Zero = 0
pad_code One = 1
pad_code Keep = 2

abbrev pub flag_code : Bool → ℕ
flag_code false = 0
flag_code true = 1

abbrev pub class_code : Class → ℕ
class_code Int = 0
class_code Bits = 1

abbrev pub word_code : Word → ℕ
word_code Silent = 0
word_code Clamp = 1
word_code Stop = 2

-- class c, the layout l, no base, no rows from first on, no dimensions
unfoldable pub layout_record : ℕ → Layout → ℕ → List ℕ
layout_record c l first =
    c ∷ l.size.0 ∷ order_code l.order ∷ l.offset.0 ∷ l.precision ∷ pad_code l.lsb ∷ pad_code l.msb ∷ flag_code l.signed
    ∷ 0 ∷ first ∷ 0 ∷ 0 ∷ 0 ∷ 0 ∷ 0 ∷ 0 ∷ []

abbrev pub atomic_record : Layout → ℕ → List ℕ
atomic_record l first = layout_record (class_code l.class) l first

abbrev pub real_record : Layout → ℕ → List ℕ
real_record l first = layout_record 5 l first

abbrev pub enum_record : Layout → ℕ → List ℕ
enum_record l first = layout_record 2 l first

unfoldable pub compound_record : ℕ → ℕ → List ℕ
compound_record z first = 3 ∷ z ∷ 0 ∷ 0 ∷ 0 ∷ 0 ∷ 0 ∷ 0 ∷ 0 ∷ first ∷ 0 ∷ 0 ∷ 0 ∷ 0 ∷ 0 ∷ 0 ∷ []

unfoldable pub array_record : ℕ → ℕ → ℕ → List ℕ → List ℕ
array_record z base first ds =
    4 ∷ z ∷ 0 ∷ 0 ∷ 0 ∷ 0 ∷ 0 ∷ 0 ∷ base ∷ first ∷ 0 ∷ get_or ds 0 0 ∷ get_or ds 1 0 ∷ get_or ds 2 0 ∷ get_or ds 3 0 ∷ 0 ∷ []

unfoldable pub value_record : ℕ → ℕ → Bool → ℕ → List ℕ
value_record start len negative distance =
    start ∷ len ∷ flag_code negative ∷ distance % 4294967296 ∷ distance / 4294967296 ∷ 0 ∷ 0 ∷ 0 ∷ []

unfoldable pub member_record : ℕ → ℕ → ℕ → ℕ → Word → List ℕ
member_record start len offset kind word = start ∷ len ∷ offset ∷ kind ∷ 0 ∷ word_code word ∷ 0 ∷ 0 ∷ []

-- w with the record r of row j, and one row more of type i
unfoldable pub row_added : List ℕ → ℕ → ℕ → List ℕ → List ℕ
row_added w i j r = set (paste w (1024 + 8 * j) r 8) (16 * i + 10) (rows_word w i + 1)

-- w without the records of type n and of all behind it
unfoldable pub types_cleared : List ℕ → ℕ → List ℕ
types_cleared w n = paste w (16 * n) (replicate (1024 - 16 * n) 0) (1024 - 16 * n)

-- the rows of each of the 64 types are among the 256
abbrev pub RowsInside : List ℕ → Type 0
RowsInside w = (i : ℕ) → first_word w i + rows_word w i ≤ 256

-- The plan in words, as a call holds it. `plan` has two words an entry: its two byte places, and the numbers of its two types. `words` has what else is worked out once a call: ids of
-- the names of enums' rows, where a call wants them, in the first 512; then four words an entry, by which its leaf is converted; then the spans of enums. `ws` and `wd` are
-- the two halves of the working table, `ts` and `td` the sheets' texts beside them.
use Rattle.std.specs.Prelude.{Option, Some, None, ◌≡◌, Bool, true, false, cond, not, ◌&&◌, List, [], ◌∷◌, ℕ, zero, suc, ◌+◌, ◌-◌, ◌*◌, ◌/◌, ◌%◌, ◌^◌, ◌≤◌, ◌<◌, eqb, leb, ltb, length, get_or}
use Rattle.layout.specs.declared.Layout.{Layout}
use Rattle.layout.specs.Layout.{Valid}
use Rattle.number.specs.declared.Fitted.{Fitted}
use Rattle.number.specs.Number.{valued}
use Rattle.datatype.specs.Datatype.{Leaf, Datatype, size, same}
use Rattle.datatype.specs.WellFormed.{WellFormedLeaf, WellFormed}
use Rattle.table.specs.Table.{class_word, first_word, rows_word, flag_of, layout_at, name_at}
unfoldable pub use Rattle.table.specs.Table.{leaf_of_type}
use Rattle.table.specs.Records.{order_code}
use Rattle.table.specs.Rows.{row_named, row_numbered}
use Rattle.entry_code.specs.Code.{route_in, shift_in, precision_in, size_in, order_in, bits_in}
use Rattle.easy.specs.Easy.{shift_of}
use Rattle.easy.specs.Words.{EasyAt}
use Rattle.records.specs.Leaf.{number_in, converted}
use Rattle.records.specs.Plan.{Entry, plan_of, AllSound}

-- ---- entries

-- entry i: the byte of the destination record and that of the source record, the source leaf's type and the destination leaf's
unfoldable pub to_byte : List ℕ → ℕ → ℕ
to_byte plan i = get_or plan (2 * i) 0 / 4096

unfoldable pub from_byte : List ℕ → ℕ → ℕ
from_byte plan i = get_or plan (2 * i) 0 % 4096

unfoldable pub source_type_of : List ℕ → ℕ → ℕ
source_type_of plan i = get_or plan (2 * i + 1) 0 / 64

unfoldable pub destination_type_of : List ℕ → ℕ → ℕ
destination_type_of plan i = get_or plan (2 * i + 1) 0 % 64

abbrev pub entry_at : List ℕ → List ℕ → List ℕ → List ℕ → List ℕ → ℕ → Entry
entry_at plan ws ts wd td i =
    record {
      to = to_byte plan i;
      from = from_byte plan i;
      source = leaf_of_type ws ts (source_type_of plan i);
      destination = leaf_of_type wd td (destination_type_of plan i);
    }

-- the n entries from i on
unfoldable pub entries_from : List ℕ → List ℕ → List ℕ → List ℕ → List ℕ → ℕ → ℕ → List Entry
entries_from plan ws ts wd td i zero = []
entries_from plan ws ts wd td i (suc n) = entry_at plan ws ts wd td i ∷ entries_from plan ws ts wd td (i + 1) n

abbrev pub entries_at : List ℕ → ℕ → List ℕ → List ℕ → List ℕ → List ℕ → List Entry
entries_at plan n ws ts wd td = entries_from plan ws ts wd td 0 n

-- ---- symbols

-- the rows of type k are among the table's 256
abbrev pub RowsWithin : List ℕ → ℕ → Type 0
RowsWithin w k = first_word w k + rows_word w k ≤ 256

-- how many symbols type k has: none where it is no enum
unfoldable pub symbol_rows : List ℕ → ℕ → ℕ
symbol_rows w k = cond (eqb (class_word w k) 2) (rows_word w k) 0

-- the row of the source type s whose number these significant bits stand for
unfoldable pub number_row : List ℕ → ℕ → ℕ → Option ℕ
number_row ws s raw = row_numbered ws (valued (layout_at ws s).signed (layout_at ws s).precision raw) (first_word ws s) (symbol_rows ws s)

-- a row in one word: 0 for none
abbrev pub row_code : Option ℕ → ℕ
row_code (Some j) = j + 1
row_code None = 0

-- the row of the destination enum d that has the name of the source row that was found, in one word
abbrev pub named_code : List ℕ → List ℕ → List ℕ → List ℕ → ℕ → Option ℕ → ℕ
named_code ws ts wd td d (Some j) = row_code (row_named wd td (name_at ws ts j) (first_word wd d) (rows_word wd d))
named_code ws ts wd td d None = 0

-- "number to symbol, symbol to the destination's number": the row of the destination enum d for significant bits of the source type s, in one word
unfoldable pub translated_code : List ℕ → List ℕ → List ℕ → List ℕ → ℕ → ℕ → ℕ → ℕ
translated_code ws ts wd td s d raw = named_code ws ts wd td d (number_row ws s raw)

-- ---- reals

abbrev pub is_real : List ℕ → ℕ → Bool
is_real w k = eqb (class_word w k) 5

-- of the types s and d, one is a real and the other is none
unfoldable pub one_real : List ℕ → ℕ → List ℕ → ℕ → Bool
one_real ws s wd d = cond (is_real ws s) (not (is_real wd d)) (is_real wd d)

-- ---- the words of an entry, from word k on

-- where those of entry i begin
abbrev pub words_place : ℕ → ℕ
words_place i = 512 + 4 * i

-- the row for significant bits by a span: words k + 1 to k + 3 are the lowest bits, how many from there on, and where their rows stand
unfoldable pub span_code : List ℕ → ℕ → ℕ → ℕ
span_code words k raw =
    cond (leb (get_or words (k + 1) 0) raw && ltb (raw - get_or words (k + 1) 0) (get_or words (k + 2) 0))
    (get_or words (get_or words (k + 3) 0 + (raw - get_or words (k + 1) 0)) 0)
    0

-- the span of the enums s and d
pub record SpanAt (words : List ℕ) (k : ℕ) (ws ts wd td : List ℕ) (s d : ℕ) : Type 0 where
  pub is : (raw : ℕ) → raw < 2 ^ (layout_at ws s).precision → span_code words k raw ≡ translated_code ws ts wd td s d raw
  pub high : 512 ≤ get_or words (k + 3) 0

-- the packed word of two enums, where the destination's layout m has no bits beside its number
pub record EnumAt (l m : Layout) (words : List ℕ) (k : ℕ) : Type 0 where
  pub source : Valid l
  pub destination : Valid m
  pub lowest : m.offset.0 ≡ 0
  pub whole : m.precision ≡ 8 * m.size.0
  pub order : route_in (get_or words k 0) ≡ 4 + order_code l.order
  pub shift : shift_in (get_or words k 0) ≡ shift_of l.order l.size.0 l.offset.0
  pub precision : precision_in (get_or words k 0) ≡ l.precision
  pub size : size_in (get_or words k 0) ≡ m.size.0
  pub destination_order : order_in (get_or words k 0) ≡ order_code m.order
  pub bits : bits_in (get_or words k 0) ≡ m.precision

-- the words of an entry from layout l to layout m, of which one is a real's, where m has no bits beside its number: the packed one, 1 or 2 by the source's order, whether the source is the real, and
-- the sign of the other
pub record RealAt (l m : Layout) (real : Bool) (words : List ℕ) (k : ℕ) : Type 0 where
  pub source : Valid l
  pub destination : Valid m
  pub lowest : m.offset.0 ≡ 0
  pub whole : m.precision ≡ 8 * m.size.0
  pub shift : shift_in (get_or words k 0) ≡ shift_of l.order l.size.0 l.offset.0
  pub precision : precision_in (get_or words k 0) ≡ l.precision
  pub size : size_in (get_or words k 0) ≡ m.size.0
  pub destination_order : order_in (get_or words k 0) ≡ order_code m.order
  pub bits : bits_in (get_or words k 0) ≡ m.precision
  pub order : get_or words (k + 1) 0 ≡ 1 + order_code l.order
  pub from : flag_of (get_or words (k + 2) 0) ≡ real
  pub sign : flag_of (get_or words (k + 3) 0) ≡ cond real m.signed l.signed

-- the words of an entry from type s to type d say what its route needs
pub record EntryWords (words : List ℕ) (k : ℕ) (ws ts wd td : List ℕ) (s d : ℕ) : Type 0 where
  pub plain : route_in (get_or words k 0) < 4 → class_word wd d ≡ 2 → ⊥
  pub alike : route_in (get_or words k 0) < 3 → one_real ws s wd d ≡ false
  pub easy : 1 ≤ route_in (get_or words k 0) → route_in (get_or words k 0) < 3 → EasyAt (layout_at ws s) (layout_at wd d) words k
  pub mixed : route_in (get_or words k 0) ≡ 3 → one_real ws s wd d ≡ true
  pub real : route_in (get_or words k 0) ≡ 3 → 1 ≤ get_or words (k + 1) 0 → RealAt (layout_at ws s) (layout_at wd d) (is_real ws s) words k
  pub enum : 4 ≤ route_in (get_or words k 0) → class_word wd d ≡ 2
  pub fast : 4 ≤ route_in (get_or words k 0) → route_in (get_or words k 0) < 6 → EnumAt (layout_at ws s) (layout_at wd d) words k
  pub span : 4 ≤ route_in (get_or words k 0) → route_in (get_or words k 0) < 7 → SpanAt words k ws ts wd td s d

-- ---- names

-- row j is one of an enum's
pub record EnumRow (w : List ℕ) (j : ℕ) : Type 0 where
  pub type : ℕ
  pub enum : class_word w type ≡ 2
  pub from : first_word w type ≤ j
  pub below : j < first_word w type + rows_word w type

-- word j is the id of source row j's name, word 256 + k that of destination row k's: enums' rows have equal ids exactly where they have one name
abbrev pub NamesAt : List ℕ → List ℕ → List ℕ → List ℕ → List ℕ → Type 0
NamesAt words ws ts wd td =
    (j k : ℕ) → j < 256 → k < 256 → EnumRow ws j → EnumRow wd k → eqb (get_or words (256 + k) 0) (get_or words j 0) ≡ same (name_at ws ts j) (name_at wd td k)

-- of the n destination rows from first on, the newest whose name has this id
unfoldable pub row_alike : List ℕ → ℕ → ℕ → ℕ → Option ℕ
row_alike words id first zero = None
row_alike words id first (suc n) = cond (eqb (get_or words (256 + (first + n)) 0) id) (Some (first + n)) (row_alike words id first n)

-- the row of the destination enum d that has the name of the source row that was found, by ids and in one word
abbrev pub alike_code : List ℕ → List ℕ → ℕ → Option ℕ → ℕ
alike_code words wd d (Some j) = row_code (row_alike words (get_or words j 0) (first_word wd d) (rows_word wd d))
alike_code words wd d None = 0

-- ---- what the words have to stand for: the texts are in no word, and no code that goes by a plan looks at them

-- the leaves of types s and d, and the words of their entry
pub record Pair (s d : ℕ) (ws wd words : List ℕ) (k : ℕ) : Type 0 where
  pub source_text : List ℕ
  pub destination_text : List ℕ
  pub source : WellFormedLeaf (leaf_of_type ws source_text s)
  pub destination : WellFormedLeaf (leaf_of_type wd destination_text d)
  pub source_rows : RowsWithin ws s
  pub destination_rows : RowsWithin wd d
  pub entry : EntryWords words k ws source_text wd destination_text s d
  pub names : 7 ≤ route_in (get_or words k 0) → NamesAt words ws source_text wd destination_text

-- what the number of the pair's source leaf at byte a of the record r becomes
abbrev pub pair_becomes : {s d : ℕ} {ws wd words : List ℕ} {k : ℕ} → Pair s d ws wd words k → ℕ → List ℕ → Fitted
pair_becomes {s} {d} {ws} {wd} p a r =
    let x = leaf_of_type ws p.source_text s in
    converted x (leaf_of_type wd p.destination_text d) (number_in x a r)

-- a plan of n entries for source records of s bytes and destination records of d bytes
pub record Ready (s d : ℕ) (plan : List ℕ) (n : ℕ) (ws wd words : List ℕ) : Type 0 where
  pub source_text : List ℕ
  pub destination_text : List ℕ
  pub room : 2 * n ≤ length plan
  pub sound : AllSound s d (entries_at plan n ws source_text wd destination_text)
  pub source_rows : (i : ℕ) → i < n → RowsWithin ws (source_type_of plan i)
  pub destination_rows : (i : ℕ) → i < n → RowsWithin wd (destination_type_of plan i)
  pub most : n ≤ 4096
  pub long : words_place n ≤ length words
  pub entry : (i : ℕ) → i < n → EntryWords words (words_place i) ws source_text wd destination_text (source_type_of plan i) (destination_type_of plan i)
  pub names : (i : ℕ) → i < n → 7 ≤ route_in (get_or words (words_place i) 0) → NamesAt words ws source_text wd destination_text

abbrev pub entries_of : {s d : ℕ} {plan : List ℕ} {n : ℕ} {ws wd words : List ℕ} → Ready s d plan n ws wd words → List Entry
entries_of {plan = plan} {n = n} {ws = ws} {wd = wd} p = entries_at plan n ws p.source_text wd p.destination_text

-- the plan of two datatypes of s and d bytes
pub record Job (s d : ℕ) (plan : List ℕ) (n : ℕ) (ws wd words : List ℕ) : Type 0 where
  pub source : Datatype
  pub destination : Datatype
  pub source_formed : WellFormed source
  pub destination_formed : WellFormed destination
  pub source_size : s ≡ size source
  pub destination_size : d ≡ size destination
  pub source_text : List ℕ
  pub destination_text : List ℕ
  pub room : 2 * n ≤ length plan
  pub entries : entries_at plan n ws source_text wd destination_text ≡ plan_of source destination
  pub source_rows : (i : ℕ) → i < n → RowsWithin ws (source_type_of plan i)
  pub destination_rows : (i : ℕ) → i < n → RowsWithin wd (destination_type_of plan i)
  pub most : n ≤ 4096
  pub long : words_place n ≤ length words
  pub entry : (i : ℕ) → i < n → EntryWords words (words_place i) ws source_text wd destination_text (source_type_of plan i) (destination_type_of plan i)
  pub names : (i : ℕ) → i < n → 7 ≤ route_in (get_or words (words_place i) 0) → NamesAt words ws source_text wd destination_text

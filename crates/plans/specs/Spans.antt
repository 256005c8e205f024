-- What the functions that make the spans of enums promise. No meaning of document 01 stands here.
use Rattle.std.specs.Prelude.{None, ◌≡◌, cond, List, [], ◌∷◌, ℕ, ◌+◌, ◌^◌, ◌≤◌, ◌<◌, eqb, length, get_or}
use Rattle.layout.specs.declared.Layout.{Layout}
use Rattle.number.specs.Number.{valued, bits_of}
use Rattle.table.specs.Table.{first_word, layout_at, value_at}
use Rattle.table.specs.Rows.{row_numbered}
use Rattle.entry_code.specs.Code.{route_in}
use Rattle.plans.specs.PlanWords.{RowsWithin, symbol_rows, number_row, named_code, translated_code, source_type_of, destination_type_of, words_place, EnumAt}
use Rattle.plans.specs.PlanEntries.{Standing}

-- the p significant bits of the numbers in the n rows from first on are at least `low` and below `end`
abbrev pub RowsIn : List ℕ → ℕ → ℕ → ℕ → ℕ → ℕ → Type 0
RowsIn w p first n low end = (q : ℕ) → q < n → (low ≤ bits_of p (value_at w (first + q))) × (bits_of p (value_at w (first + q)) < end)

-- the significant bits of the numbers in the n rows from first on stand for these numbers
abbrev pub RowsBack : List ℕ → Layout → ℕ → ℕ → Type 0
RowsBack w l first n =
    (q : ℕ) → q < n → valued l.signed l.precision (bits_of l.precision (value_at w (first + q))) ≡ value_at w (first + q)

-- the symbols of type k are among the table's rows, and their numbers in its range
pub record SymbolsFormed (w : List ℕ) (k : ℕ) : Type 0 where
  pub within : RowsWithin w k
  pub some : 1 ≤ (layout_at w k).precision
  pub most : (layout_at w k).precision ≤ 64
  pub bits : RowsIn w (layout_at w k).precision (first_word w k) (symbol_rows w k) 0 (2 ^ (layout_at w k).precision)
  pub numbers : RowsBack w (layout_at w k) (first_word w k) (symbol_rows w k)

-- each symbol of type k has one of the `count` bits from `low` on, which are at most `room`
pub record SpanOf (w : List ℕ) (k room low count : ℕ) : Type 0 where
  pub few : count ≤ room
  pub inside : low + count ≤ 2 ^ (layout_at w k).precision
  pub outside : (raw : ℕ) → raw < 2 ^ (layout_at w k).precision → (low ≤ raw → raw < low + count → ⊥) → number_row w k raw ≡ None

-- `value` of each q below `count`, put into `before` from word `base` on
pub record WordsPut (before : List ℕ) (base count : ℕ) (value : ℕ → ℕ) (after : List ℕ) : Type 0 where
  pub each : (q : ℕ) → q < count → get_or after (base + q) 0 ≡ value q
  pub below : (j : ℕ) → j < base → get_or after j 0 ≡ get_or before j 0
  pub above : (j : ℕ) → base + count ≤ j → get_or after j 0 ≡ get_or before j 0
  pub long : length after ≡ length before

-- the rows of the enum d for these bits of type s, put into `before` from word `base` on
abbrev pub SpanPut : List ℕ → ℕ → ℕ → ℕ → List ℕ → List ℕ → List ℕ → List ℕ → ℕ → ℕ → List ℕ → Type 0
SpanPut before base low count ws ts wd td s d after = WordsPut before base count (λ q. translated_code ws ts wd td s d (low + q)) after

-- the row of the enum d for significant bits of type s, as far as the first n rows of s tell
unfoldable pub code_among : List ℕ → List ℕ → List ℕ → List ℕ → ℕ → ℕ → ℕ → ℕ → ℕ
code_among ws ts wd td s d n raw = named_code ws ts wd td d (row_numbered ws (valued (layout_at ws s).signed (layout_at ws s).precision raw) (first_word ws s) n)

-- `code` put where the bits are one of those of the span
abbrev pub CodePut : List ℕ → ℕ → ℕ → ℕ → ℕ → ℕ → List ℕ → Type 0
CodePut before base low count bits code after = WordsPut before base count (λ q. cond (eqb (low + q) bits) code (get_or before (base + q) 0)) after

-- the packed word of two enums that go by a span
pub record SpanWord (l m : Layout) (code : ℕ) : Type 0 where
  pub least : 4 ≤ route_in code
  pub most : route_in code < 7
  pub fast : route_in code < 6 → EnumAt l m (code ∷ []) 0

-- of n words, those of an entry from word k on stand before word `free`, from which on spans may be put
pub record EntryRoom (n k free : ℕ) : Type 0 where
  pub before : k + 4 ≤ free
  pub high : 512 ≤ free
  pub within : free ≤ n
  pub most : n ≤ 65536

-- the words of the first n entries of a plan, whose spans lie between `start` and `free`
abbrev pub AllStanding : List ℕ → List ℕ → ℕ → ℕ → ℕ → List ℕ → List ℕ → List ℕ → List ℕ → Type 0
AllStanding words plan n start free ws ts wd td =
    (i : ℕ) → i < n → Standing words (words_place i) start free ws ts wd td (source_type_of plan i) (destination_type_of plan i)

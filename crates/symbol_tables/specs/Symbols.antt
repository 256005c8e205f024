-- What the functions that make the table of two enums promise. No meaning of document 01 stands here.
use Rattle.std.specs.Prelude.{◌≡◌, List, ℕ, ◌+◌, ◌-◌, ◌*◌, ◌%◌, ◌^◌, ◌≤◌, ◌<◌, get_or}
use Rattle.number.specs.Number.{bits_of}
use Rattle.table.specs.Table.{first_word, layout_at, value_at}
use Rattle.records.specs.Record.{raises}
use Rattle.plans.specs.declared.Coded.{Coded}
use Rattle.plans.specs.PlanWords.{translated_code, Pair}
use Rattle.plans.specs.LeafSteps.{code_bits}
use Rattle.symbol_columns.specs.Tables.{out_in, none_in, Usable}

-- ---- the table of two enums

-- the table is that of the enums s and d: it says what the source's significant bits become, and where there is no symbol
pub record TableOf (table ws ts wd td : List ℕ) (s d : ℕ) : Type 0 where
  pub out : (raw : ℕ) → raw < 2 ^ (layout_at ws s).precision
      → out_in table (2 ^ (layout_at wd d).precision - 1) raw ≡ (code_bits wd (layout_at wd d).precision (translated_code ws ts wd td s d raw)).raw
  pub none : (raw : ℕ) → raw < 2 ^ (layout_at ws s).precision → none_in table raw ≡ raises (code_bits wd (layout_at wd d).precision (translated_code ws ts wd td s d raw)).kind
  pub usable : Usable table (2 ^ (layout_at wd d).precision - 1)
  pub low : 1 ≤ get_or table 1 0 → get_or table 2 0 < 2 ^ 32

-- the pair of which word 0 tells has its table
abbrev pub SymbolsKept : List ℕ → List ℕ → List ℕ → List ℕ → List ℕ → Type 0
SymbolsKept table ws ts wd td = (s d : ℕ) → d < 64 → get_or table 0 0 ≡ 64 * s + d + 1 → TableOf table ws ts wd td s d

-- the same for the texts of each pair that the words stand for
abbrev pub TableFor : List ℕ → ℕ → ℕ → List ℕ → List ℕ → List ℕ → ℕ → Type 0
TableFor table s d ws wd words k = (p : Pair s d ws wd words k) → TableOf table ws p.source_text wd p.destination_text s d

-- ---- by the span

-- an entry: q bits, and 2 ^ 32 more where there is no symbol
abbrev pub entry_of : ℕ → Coded → ℕ
entry_of q c = c.raw % 2 ^ q + raises c.kind * 2 ^ 32

-- the table has the entries of the span of which the words from word k on tell
pub record SpanTable (table words : List ℕ) (k : ℕ) (wd : List ℕ) (q : ℕ) : Type 0 where
  pub count : get_or table 1 0 ≡ get_or words (k + 2) 0
  pub low : get_or table 2 0 ≡ get_or words (k + 1) 0
  pub keys : get_or table 3 0 ≡ 0
  pub each : (j : ℕ) → j < get_or words (k + 2) 0 → get_or table (16 + j) 0 ≡ entry_of q (code_bits wd q (get_or words (get_or words (k + 3) 0 + j) 0))
  pub last : get_or table (16 + get_or words (k + 2) 0) 0 ≡ entry_of q (code_bits wd q 0)

-- ---- by halves

-- `rows` has the bits of the first n symbols of the enum s, and from word 256 on their rows in the enum d, where the bits are the source's
pub record RowsRead (s d : ℕ) (ws wd words : List ℕ) (k n : ℕ) (rows : List ℕ) : Type 0 where
  pub bits : (i : ℕ) → i < n → get_or rows i 0 ≡ bits_of (layout_at ws s).precision (value_at ws (first_word ws s + i))
  pub codes : (i : ℕ) → i < n → get_or rows i 0 < 2 ^ (layout_at ws s).precision → (p : Pair s d ws wd words k)
      → get_or rows (256 + i) 0 ≡ translated_code ws p.source_text wd p.destination_text s d (get_or rows i 0)

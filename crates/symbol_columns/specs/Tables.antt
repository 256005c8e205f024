-- The table of a pair of enums: what significant bits of the source become in the destination, by the span of the source's numbers, or by halves of them in order.
-- Words 0 to 3: the pair; how many entries the span has, 0 for a table by halves; the span's lowest bits; how many keys there are. Entries and keys stand from word 16 on, and from word 272
-- on what the keys become. No meaning of document 01 stands here.
use Rattle.std.specs.Prelude.{ℕ, zero, suc, ◌+◌, ◌-◌, ◌*◌, ◌/◌, ◌%◌, ◌^◌, ◌≤◌, Bool, cond, ◌&&◌, List, ◌==◌, bit_and, nat_le, nat_lt, slice_index, slice_index_or}
use Rattle.column_words.specs.declared.Words.{Words}

-- ---- by the span: an entry is the destination's bits, and 2 ^ 32 more where there is no symbol; the entry behind the last stands for all bits outside

abbrev pub span_place : List ℕ → ℕ → ℕ
span_place table raw = cond (nat_le (slice_index table 2) raw && nat_lt (raw - slice_index table 2) (slice_index table 1)) (raw - slice_index table 2) (slice_index table 1)

abbrev pub span_entry : List ℕ → ℕ → ℕ
span_entry table raw = slice_index table (16 + span_place table raw)

-- ---- by halves: of the keys, which are in order, the last that is not above the bits

-- a step of so many keys up from key `at`, if the key there is not above
abbrev pub step_up : List ℕ → ℕ → ℕ → ℕ → ℕ
step_up table raw step at = cond (nat_lt (at + step) (slice_index table 3) && nat_le (slice_index table (16 + (at + step))) raw) (at + step) at

-- k steps, each half as long as the one before
unfoldable pub key_below : List ℕ → ℕ → ℕ → ℕ → ℕ
key_below table raw zero at = at
key_below table raw (suc k) at = key_below table raw k (step_up table raw (2 ^ k) at)

-- 256 keys at most
abbrev pub key_for : List ℕ → ℕ → ℕ
key_for table raw = key_below table raw 8 0

abbrev pub is_key : List ℕ → ℕ → Bool
is_key table raw = nat_lt (key_for table raw) (slice_index table 3) && slice_index table (16 + key_for table raw) == raw

-- ---- either

-- what the bits become in a destination of which `into` is the largest number, and 1 where there is no symbol
unfoldable pub out_in : List ℕ → ℕ → ℕ → ℕ
out_in table into raw = cond (slice_index table 1 == 0) (cond (is_key table raw) (slice_index table (272 + key_for table raw)) into) (span_entry table raw % 2 ^ 32)

unfoldable pub none_in : List ℕ → ℕ → ℕ
none_in table raw = cond (slice_index table 1 == 0) (cond (is_key table raw) 0 1) (span_entry table raw / 2 ^ 32)

-- ---- a number of a column

-- the significant bits in the source's container x
abbrev pub raw_by : Words → ℕ → ℕ
raw_by w x = bit_and (x / 2 ^ w.shift) w.mask

-- the destination's container, without the background's bits, and 1 where there is no symbol: by the words that a loop has at hand
abbrev pub symbol_in : List ℕ → (shift mask into up ones : ℕ) → ℕ → ℕ
symbol_in table shift mask into up ones x = out_in table into (bit_and (x / 2 ^ shift) mask) * 2 ^ up + ones

abbrev pub missing_in : List ℕ → (shift mask : ℕ) → ℕ → ℕ
missing_in table shift mask x = none_in table (bit_and (x / 2 ^ shift) mask)

-- and by the words of the two layouts
unfoldable pub symbol_by : List ℕ → Words → ℕ → ℕ
symbol_by table w x = symbol_in table w.shift w.mask w.into w.up w.ones x

unfoldable pub missing_by : List ℕ → Words → ℕ → ℕ
missing_by table w x = missing_in table w.shift w.mask x

-- the table's words are what the loops over it need: entries that fit, and bits that fit the destination
pub record Usable (table : List ℕ) (into : ℕ) : Type 0 where
  pub few : slice_index_or table 1 0 ≤ 512
  pub keys : slice_index_or table 3 0 ≤ 256
  pub out : (raw : ℕ) → out_in table into raw ≤ into
  pub none : (raw : ℕ) → none_in table raw ≤ 1

-- What the functions that convert one leaf promise of an enum's and of a real's number on its way. No meaning of document 01 stands here.
use Rattle.std.specs.Prelude.{ℕ, zero, suc, ◌+◌, ◌-◌, ◌^◌, ◌≤◌, ◌<◌, ◌≡◌, Bool, false, cond, List, ℤ, get_or, length}
use Rattle.number.specs.declared.Fitted.{Fitted}
use Rattle.layout.specs.declared.Layout.{Layout}
use Rattle.layout.specs.Layout.{Valid}
use Rattle.number.specs.Number.{number_at, bits_of}
use Rattle.number.specs.Place.{raw_at}
use Rattle.reals.specs.Convert.{int_to_real, real_to_int}
use Rattle.table.specs.Table.{first_word, layout_at, value_at}
use Rattle.table.specs.Rows.{row_numbered}
use Rattle.entry_code.specs.Code.{route_in}
use Rattle.plans.specs.declared.Coded.{Coded}
use Rattle.plans.specs.PlanWords.{symbol_rows, alike_code, is_real, Pair}

abbrev pub all_ones : ℕ → Coded
all_ones p = record { raw = 2 ^ p - 1; kind = 3 }

-- a row in one word, as p significant bits
abbrev pub code_bits : List ℕ → ℕ → ℕ → Coded
code_bits w p zero = all_ones p
code_bits w p (suc j) = record { raw = bits_of p (value_at w j); kind = 0 }

-- the row of the destination enum d for the number z of the source type s, whose rows are looked through, in one word
abbrev pub looked_code : List ℕ → List ℕ → List ℕ → ℕ → ℕ → ℤ → ℕ
looked_code words ws wd s d z = alike_code words wd d (row_numbered ws z (first_word ws s) (symbol_rows ws s))

-- the leaf of type s at byte a of n bytes on its way to the enum d, by the words from word k on
pub record EnumReady (n a s d : ℕ) (ws wd words : List ℕ) (k : ℕ) : Type 0 where
  pub pair : Pair s d ws wd words k
  pub read : a + (layout_at ws s).size.0 ≤ n
  pub room : k + 4 ≤ length words
  pub enum : 4 ≤ route_in (get_or words k 0)

-- the same on its way to byte b of m bytes, where eight bytes can be read and its packed word says all
pub record EnumHere (n m b a s d : ℕ) (ws wd words : List ℕ) (k : ℕ) : Type 0 where
  pub pair : Pair s d ws wd words k
  pub read : a + 8 ≤ n
  pub write : b + (layout_at wd d).size.0 ≤ m
  pub room : k + 4 ≤ length words
  pub enum : 4 ≤ route_in (get_or words k 0)
  pub fast : route_in (get_or words k 0) < 6

-- what the number of the leaf of layout l at byte a of the record r becomes in layout m, where one of the two is a real's, and the source's or not
abbrev pub real_of : Bool → Layout → Layout → ℕ → List ℕ → Fitted
real_of real l m a r = cond real (real_to_int m (raw_at l a r)) (int_to_real (number_at l a r))

-- the same from type s to type d
unfoldable pub real_becomes : List ℕ → ℕ → List ℕ → ℕ → ℕ → List ℕ → Fitted
real_becomes ws s wd d a r = real_of (is_real ws s) (layout_at ws s) (layout_at wd d) a r

-- the leaf of type s at byte a of n bytes on its way to type d, where one of the two is a real
pub record RealReady (n a s d : ℕ) (ws wd : List ℕ) : Type 0 where
  pub source : Valid (layout_at ws s)
  pub destination : Valid (layout_at wd d)
  pub read : a + (layout_at ws s).size.0 ≤ n
  pub real : is_real ws s ≡ false → (layout_at wd d).precision ≡ 64

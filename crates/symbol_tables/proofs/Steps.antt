-- The steps by which a table of two enums is made, and kept. Assumes nothing.
use mathlib.Core.Path.{◌≡◌, refl, sym, ap, ◌∙◌}
use mathlib.Core.List.{List}
use Prim.Native.Nat.{ℕ, zero, suc, ◌+◌, ◌*◌, ◌%◌, ◌^◌, ◌≤◌, ◌<◌}
use native.Mathlib.Omega.{arith}
use borrow.Author.Count.{below_more}
use lib.ListN.{length, get_or, set, length-set, replicate, get_or-replicate}
use lib.Seq.{get_or-set_same, get_or-set_other}
use Rattle.layout.specs.declared.Layout.{Layout}
use Rattle.number.specs.Number.{bits_of}
use Rattle.table.specs.Table.{first_word, layout_at, value_at}
use Rattle.table.specs.Words.{Reads}
use Rattle.records.specs.Record.{raises}
use Rattle.plans.specs.declared.Coded.{Coded}
use Rattle.plans.specs.PlanWords.{translated_code, symbol_rows, Pair}
use Rattle.plans.specs.LeafSteps.{code_bits}
use Rattle.symbol_keys.specs.Keys.{KeysOf}
use Rattle.symbol_tables.specs.Symbols.{TableOf, SymbolsKept, TableFor, entry_of, SpanTable, RowsRead}
use Rattle.symbol_tables.proofs.Tables.{keys_table}

-- ---- an entry

raises_one : (kind : ℕ) → (kind ≡ 0 → ⊥) → raises kind ≡ 1
raises_one zero has = absurd (has refl)
raises_one (suc kind) has = refl

module _ (w : List ℕ) (q code : ℕ) {c : Coded} {b : ℕ} (e : c ≡ code_bits w q code) (low : b ≡ c.raw % 2 ^ q) where
  pub entry_met : c.kind ≡ 0 → b ≡ entry_of q (code_bits w q code)
  entry_met k = rw (← e, k) (low ∙ omega arith)

  pub entry_missed : (c.kind ≡ 0 → ⊥) → b + 4294967296 ≡ entry_of q (code_bits w q code)
  entry_missed k = rw (← e, raises_one c.kind k) (ap (λ (x : ℕ). x + 4294967296) low ∙ omega arith)

-- ---- by the span

-- the first n entries for the words from word `start` on
abbrev pub Entries : List ℕ → List ℕ → ℕ → ℕ → List ℕ → ℕ → Type 0
Entries table words start n w q = (j : ℕ) → j < n → get_or table (16 + j) 0 ≡ entry_of q (code_bits w q (get_or words (start + j) 0))

pub entries_more : (table words : List ℕ) (start n : ℕ) (w : List ℕ) (q : ℕ) {v x : ℕ} → Entries table words start n w q → 16 + n < length table → Reads (get_or words (start + n) 0) x
    → v ≡ entry_of q (code_bits w q x) → Entries (set table (16 + n) v) words start (n + 1) w q
entries_more table words start n w q {v} all room r e =
    below_more (λ (j : ℕ). get_or (set table (16 + n) v) (16 + j) 0 ≡ entry_of q (code_bits w q (get_or words (start + j) 0))) n
    (λ j h. get_or-set_other table (16 + n) (16 + j) v 0 (λ g. omega (arith, g)) ∙ all j h)
    (get_or-set_same table (16 + n) v 0 room ∙ e ∙ ap (λ (y : ℕ). entry_of q (code_bits w q y)) r.is)

module _ (t : List ℕ) (n last pair low : ℕ) (long : 544 ≤ length t) (few : n ≤ 512) where
  abbrev a₁ : List ℕ
  a₁ = set t (16 + n) last

  abbrev a₂ : List ℕ
  a₂ = set a₁ 0 pair

  abbrev a₃ : List ℕ
  a₃ = set a₂ 1 n

  abbrev a₄ : List ℕ
  a₄ = set a₃ 2 low

  abbrev a₅ : List ℕ
  a₅ = set a₄ 3 0

  l₁ : length a₁ ≡ length t
  l₁ = length-set t (16 + n) last

  l₂ : length a₂ ≡ length t
  l₂ = length-set a₁ 0 pair ∙ l₁

  l₃ : length a₃ ≡ length t
  l₃ = length-set a₂ 1 n ∙ l₂

  l₄ : length a₄ ≡ length t
  l₄ = length-set a₃ 2 low ∙ l₃

  pub span_long : length a₅ ≡ length t
  span_long = length-set a₄ 3 0 ∙ l₄

  -- behind the head nothing changed
  behind : (j : ℕ) → 4 ≤ j → get_or a₅ j 0 ≡ get_or a₁ j 0
  behind j h =
      get_or-set_other a₄ 3 j 0 0 (λ g. omega (arith, g)) ∙ get_or-set_other a₃ 2 j low 0 (λ g. omega (arith, g)) ∙ get_or-set_other a₂ 1 j n 0 (λ g. omega (arith, g))
      ∙ get_or-set_other a₁ 0 j pair 0 (λ g. omega (arith, g))

  head_0 : get_or a₅ 0 0 ≡ pair
  head_0 =
      get_or-set_other a₄ 3 0 0 0 (λ g. omega (arith, g)) ∙ get_or-set_other a₃ 2 0 low 0 (λ g. omega (arith, g)) ∙ get_or-set_other a₂ 1 0 n 0 (λ g. omega (arith, g))
      ∙ get_or-set_same a₁ 0 pair 0 (omega (arith, l₁))

  head_1 : get_or a₅ 1 0 ≡ n
  head_1 = get_or-set_other a₄ 3 1 0 0 (λ g. omega (arith, g)) ∙ get_or-set_other a₃ 2 1 low 0 (λ g. omega (arith, g)) ∙ get_or-set_same a₂ 1 n 0 (omega (arith, l₂))

  head_2 : get_or a₅ 2 0 ≡ low
  head_2 = get_or-set_other a₄ 3 2 0 0 (λ g. omega (arith, g)) ∙ get_or-set_same a₃ 2 low 0 (omega (arith, l₃))

  head_3 : get_or a₅ 3 0 ≡ 0
  head_3 = get_or-set_same a₄ 3 0 0 (omega (arith, l₄))

  -- the whole table of a span
  pub span_put : (words : List ℕ) (k : ℕ) (w : List ℕ) (q : ℕ) {start : ℕ} → Reads (get_or words (k + 2) 0) n → Reads (get_or words (k + 1) 0) low → Reads (get_or words (k + 3) 0) start
      → Entries t words start n w q → last ≡ entry_of q (code_bits w q 0)
      → (get_or a₅ 0 0 ≡ pair) × SpanTable a₅ words k w q × (get_or a₅ 1 0 ≤ 512) × (get_or a₅ 2 0 < 4294967296)
  span_put words k w q rn rl rs all e = (
    head_0,
    record {
      count = head_1 ∙ rn.is;
      low = head_2 ∙ rl.is;
      keys = head_3;
      each =
          λ j h.
          let i : j < n = rw rn.is h in
          behind (16 + j) (omega arith) ∙ get_or-set_other t (16 + n) (16 + j) last 0 (λ g. omega (arith, g)) ∙ all j i
          ∙ ap (λ (y : ℕ). entry_of q (code_bits w q (get_or words (y + j) 0))) rs.is;
      last = rw (← rn.is) (behind (16 + n) (omega arith) ∙ get_or-set_same t (16 + n) last 0 (omega arith) ∙ e);
    },
    omega (arith, head_1),
    omega (arith, head_2, rl.small),
  )

-- ---- by halves

pub rows_none : (s d : ℕ) (ws wd words : List ℕ) (k : ℕ) (rows : List ℕ) → RowsRead s d ws wd words k 0 rows
rows_none s d ws wd words k rows = record { bits = λ i h. absurd (omega arith); codes = λ i h. absurd (omega arith) }

pub rows_more : (s d : ℕ) (ws wd words : List ℕ) (k i : ℕ) (rows : List ℕ) {first bits code : ℕ} {l : Layout} → RowsRead s d ws wd words k i rows → i < 256 → 512 ≤ length rows
    → first ≡ first_word ws s → l ≡ layout_at ws s → bits ≡ bits_of l.precision (value_at ws (first + i))
    → (bits < 2 ^ l.precision → (p : Pair s d ws wd words k) → code ≡ translated_code ws p.source_text wd p.destination_text s d bits)
    → RowsRead s d ws wd words k (i + 1) (set (set rows i bits) (256 + i) code)
rows_more s d ws wd words k i rows {first} {bits} {code} {l} r few long ef el eb ec =
    let a : List ℕ = set rows i bits in
    let out : List ℕ = set a (256 + i) code in
    let la : length a ≡ length rows = length-set rows i bits in
    let here : get_or out i 0 ≡ bits = get_or-set_other a (256 + i) i code 0 (λ g. omega (arith, g)) ∙ get_or-set_same rows i bits 0 (omega arith) in
    let coded : get_or out (256 + i) 0 ≡ code = get_or-set_same a (256 + i) code 0 (omega arith) in
    let low : (j : ℕ) → j < i → get_or out j 0 ≡ get_or rows j 0 =
    λ j h. get_or-set_other a (256 + i) j code 0 (λ g. omega (arith, g)) ∙ get_or-set_other rows i j bits 0 (λ g. omega (arith, g)) in
    let high : (j : ℕ) → j < i → get_or out (256 + j) 0 ≡ get_or rows (256 + j) 0 =
    λ j h. get_or-set_other a (256 + i) (256 + j) code 0 (λ g. omega (arith, g)) ∙ get_or-set_other rows i (256 + j) bits 0 (λ g. omega (arith, g)) in
    record {
      bits = below_more (λ (j : ℕ). get_or out j 0 ≡ bits_of (layout_at ws s).precision (value_at ws (first_word ws s + j))) i (λ j h. low j h ∙ r.bits j h) (here ∙ eb ∙ rw (el, ef));
      codes =
          below_more
          (λ (j : ℕ). get_or out j 0 < 2 ^ (layout_at ws s).precision → (p : Pair s d ws wd words k)
          → get_or out (256 + j) 0 ≡ translated_code ws p.source_text wd p.destination_text s d (get_or out j 0)) i
          (λ j h. rw (low j h, high j h) (r.codes j h))
          (λ h p. coded ∙ ec (rw (el, ← here) h) p ∙ ap (translated_code ws p.source_text wd p.destination_text s d) (sym here));
    }

pub rows_all : (s d : ℕ) (ws wd words : List ℕ) (k : ℕ) (rows : List ℕ) {i n : ℕ} → i ≤ n → n ≤ i → RowsRead s d ws wd words k i rows → RowsRead s d ws wd words k n rows
rows_all s d ws wd words k rows {i} {n} most least r =
    let e : i ≡ n = omega arith in
    rw (← e) r

pub halves_put : (s d : ℕ) (ws wd words : List ℕ) (k n q : ℕ) {table rows : List ℕ} → (n ≡ symbol_rows ws s) × (n < 4294967296) → q ≡ (layout_at wd d).precision
    → RowsRead s d ws wd words k n rows → KeysOf table rows n wd q → TableFor table s d ws wd words k
halves_put s d ws wd words k n q {table} {rows} rn eq read keys p = keys_table table rows n s d ws wd words k (rw (← eq) keys) read rn.0 p

-- ---- a table that is kept

-- a table of no pair
pub cleared : (table ws ts wd td : List ℕ) → 1 ≤ length table → SymbolsKept (set table 0 0) ws ts wd td
cleared table ws ts wd td long s d low e = absurd (omega (arith, e, get_or-set_same table 0 0 0 long))

pub none_kept : (n : ℕ) (ws ts wd td : List ℕ) → 1 ≤ n → SymbolsKept (replicate n 0) ws ts wd td
none_kept n ws ts wd td some s d low e =
    let z : ◌≡◌ {A = ℕ} (get_or (replicate n 0) 0 0) 0 = get_or-replicate n 0 0 0 some in
    absurd (omega arith)

-- the table of the pair of which word 0 tells
pub made_kept : (table ws ts wd td : List ℕ) (s d : ℕ) {pair : ℕ} → d < 64 → pair ≡ 64 * s + d + 1 → get_or table 0 0 ≡ pair → TableOf table ws ts wd td s d → SymbolsKept table ws ts wd td
made_kept table ws ts wd td s d low ep e t s' d' low' e' =
    let es : s ≡ s' = omega arith in
    let ed : d ≡ d' = omega arith in
    rw (← es, ← ed) t

-- The table of two enums, by their span or by halves: what it says of bits of the source is what the words of the plan lead to. Assumes nothing.
use mathlib.Core.Path.{◌≡◌, refl, sym, ap, ◌∙◌}
use mathlib.Core.Bool.{Bool, true, false, cond, ◌&&◌, false≢true}
use mathlib.Core.List.{List}
use mathlib.Core.Option.{Option as MathOption, none, some}
use Prim.Native.Nat.{ℕ, zero, suc, ◌+◌, ◌-◌, ◌/◌, ◌%◌, ◌^◌, ◌≤◌, ◌<◌}
use native.Mathlib.Nat.{le_refl, mod-lt, mod-eq_of_lt, lt_of_lt_of_le}
use native.Mathlib.Omega.{arith}
use borrow.Author.Tests.{eqb-true, eqb-false, eq-eqb, ltb-true, le-ltb}
use lib.Dec.{eqb, leb, ltb}
use lib.IntN.{ℤ}
use lib.ListN.{get_or}
use lib.Pow.{pow_pos, pow_mono, ones_lt}
use Rattle.layout.specs.declared.Layout.{Layout}
use Rattle.layout.specs.Layout.{Valid}
use Rattle.number.specs.declared.Fitted.{Fitted}
use Rattle.number.specs.Number.{valued, bits_of}
use Rattle.number.proofs.RoundTrip.{bits_back, fitted_lt}
use Rattle.datatype.specs.Datatype.{Leaf}
use Rattle.datatype.specs.Symbols.{same_number, on_some}
use Rattle.datatype.proofs.Tests.{sameNumber→eq}
use Rattle.std.specs.Prelude.{Option, Some, None}
use Rattle.table.specs.Table.{first_word, rows_word, layout_at, value_at, symbols_at}
use Rattle.table.specs.Rows.{row_numbered}
use Rattle.entry_code.specs.Code.{route_in}
use Rattle.records.specs.Record.{raises}
use Rattle.records.specs.Leaf.{symbols, translated, translated_to, untranslated, given_of}
use Rattle.plans.specs.declared.Coded.{Coded}
use Rattle.plans.specs.PlanWords.{leaf_of_type, symbol_rows, number_row, named_code, translated_code, span_code, SpanAt, Pair}
use Rattle.plans.specs.LeafSteps.{code_bits}
use Rattle.plans.proofs.Names.{numbered_within}
use Rattle.plans.proofs.LeafSteps.{leaf_enum, inside_bits, enum_converted, pair_valid}
use Rattle.symbol_columns.specs.Tables.{span_entry, key_for, is_key, out_in, none_in, Usable}
use Rattle.symbol_columns.proofs.Halves.{found, is_found}
use Rattle.symbol_keys.specs.Keys.{KeyFor, KeysOf}
use Rattle.symbol_tables.specs.Symbols.{TableOf, TableFor, entry_of, SpanTable, RowsRead}

-- ---- a row's bits

some_kind : (w : List ℕ) (q code : ℕ) → (code ≡ 0 → ⊥) → (code_bits w q code).kind ≡ 0
some_kind w q zero has = absurd (has refl)
some_kind w q (suc j) has = refl

raises_le : (kind : ℕ) → raises kind ≤ 1
raises_le zero = omega arith
raises_le (suc kind) = omega arith

-- the bits of a number of p bits are those that it was made of
bits_valued : (l : Layout) (raw : ℕ) → Valid l → raw < 2 ^ l.precision → bits_of l.precision (valued l.signed l.precision raw) ≡ raw
bits_valued l raw v h =
    let back = bits_back l.signed l.precision raw v.some h in
    ap (λ (f : Fitted). f.raw) (inside_bits l (valued l.signed l.precision raw) (ap (λ (f : Fitted). f.kind) back)) ∙ ap (λ (f : Fitted). f.raw) back

-- what bits of the source become fits the destination
pub code_lt : {s d : ℕ} {ws wd words : List ℕ} {k : ℕ} (p : Pair s d ws wd words k) → 4 ≤ route_in (get_or words k 0) → (raw : ℕ)
    → (code_bits wd (layout_at wd d).precision (translated_code ws p.source_text wd p.destination_text s d raw)).raw < 2 ^ (layout_at wd d).precision
code_lt {s} {d} {ws} {wd} p route raw =
    rw ((enum_converted ws p.source_text wd p.destination_text s d p.destination (p.entry.enum route) raw).0, leaf_enum wd p.destination_text d (p.entry.enum route))
    (go (translated (symbols x) (symbols_at wd p.destination_text (first_word wd d) (rows_word wd d)) z))
  where
    x : Leaf
    x = leaf_of_type ws p.source_text s

    z : ℤ
    z = valued (layout_at ws s).signed (layout_at ws s).precision raw

    m : Layout
    m = layout_at wd d

    go : (o : MathOption ℤ) → (on_some (translated_to m (given_of x z)) (untranslated m (given_of x z)) o).raw < 2 ^ m.precision
    go none = ones_lt m.precision
    go (some w) = fitted_lt m.signed m.precision w (pair_valid p).1.some

-- ---- by the span

second : (a b : Bool) → (a && b) ≡ true → b ≡ true
second true b h = h
second false b h = absurd (false≢true h)

module _ (q : ℕ) (narrow : q ≤ 32) (c : Coded) where
  low_lt : c.raw % 2 ^ q < 4294967296
  low_lt = lt_of_lt_of_le (mod-lt c.raw (pow_pos q)) (pow_mono {j = 32} narrow)

  entry_bits : entry_of q c % 2 ^ 32 ≡ c.raw % 2 ^ q
  entry_bits = omega (arith, low_lt)

  entry_none : entry_of q c / 2 ^ 32 ≡ raises c.kind
  entry_none = omega (arith, low_lt)

module _ (table words : List ℕ) (k : ℕ) (wd : List ℕ) (q : ℕ) (t : SpanTable table words k wd q) where
  span_entry_lem : (raw : ℕ) → span_entry table raw ≡ entry_of q (code_bits wd q (span_code words k raw))
  unfolding span_code
  span_entry_lem raw = rw (t.count, t.low) (go (leb low raw && ltb (raw - low) count) refl)
    where
      low : ℕ
      low = get_or words (k + 1) 0

      count : ℕ
      count = get_or words (k + 2) 0

      go : (b : Bool) → (leb low raw && ltb (raw - low) count) ≡ b
          → get_or table (16 + cond b (raw - low) count) 0 ≡ entry_of q (code_bits wd q (cond b (get_or words (get_or words (k + 3) 0 + (raw - low)) 0) 0))
      go true e = t.each (raw - low) (ltb-true (raw - low) count (second (leb low raw) (ltb (raw - low) count) e))
      go false e = t.last

  -- a span of no entries has no row
  no_row : get_or table 1 0 ≡ 0 → (raw : ℕ) → span_code words k raw ≡ 0
  unfolding span_code
  no_row e raw = rw (sym t.count ∙ e, le-ltb (raw - get_or words (k + 1) 0) 0 (omega arith)) (go (leb (get_or words (k + 1) 0) raw))
    where
      go : (b : Bool) → cond (b && false) (get_or words (get_or words (k + 3) 0 + (raw - get_or words (k + 1) 0)) 0) 0 ≡ 0
      go true = refl
      go false = refl

  no_key : (raw : ℕ) → is_key table raw ≡ false
  no_key raw = rw (t.keys, le-ltb (key_for table raw) 0 (omega arith)) refl

  module _ (narrow : q ≤ 32) where
    span_says : (raw : ℕ) → (out_in table (2 ^ q - 1) raw ≡ (code_bits wd q (span_code words k raw)).raw % 2 ^ q) × (none_in table raw ≡ raises (code_bits wd q (span_code words k raw)).kind)
    unfolding out_in none_in
    span_says raw = go (eqb (get_or table 1 0) 0) refl
      where
        c : Coded
        c = code_bits wd q (span_code words k raw)

        go : (b : Bool) → eqb (get_or table 1 0) 0 ≡ b
            → (cond b (cond (is_key table raw) (get_or table (272 + key_for table raw) 0) (2 ^ q - 1)) (span_entry table raw % 2 ^ 32) ≡ c.raw % 2 ^ q)
            × (cond b (cond (is_key table raw) 0 1) (span_entry table raw / 2 ^ 32) ≡ raises c.kind)
        go true e = rw (no_key raw, no_row (eqb-true (get_or table 1 0) 0 e) raw) (sym (mod-eq_of_lt (ones_lt q)), refl)
        go false e = rw (span_entry_lem raw) (entry_bits q narrow c, entry_none q narrow c)

    span_usable : get_or table 1 0 ≤ 512 → Usable table (2 ^ q - 1)
    span_usable few =
        record {
          few = few;
          keys = omega (arith, t.keys);
          out = λ raw. omega (arith, (span_says raw).0, mod-lt (code_bits wd q (span_code words k raw)).raw (pow_pos q));
          none = λ raw. rw (span_says raw).1 (raises_le (code_bits wd q (span_code words k raw)).kind);
        }

pub span_table : (s d : ℕ) (ws wd words : List ℕ) (k : ℕ) {table : List ℕ} {m : Layout} → m ≡ layout_at wd d → m.precision ≤ 32 → SpanTable table words k wd m.precision
    → get_or table 1 0 ≤ 512 → get_or table 2 0 < 4294967296 → 4 ≤ route_in (get_or words k 0) → route_in (get_or words k 0) < 7 → TableFor table s d ws wd words k
span_table s d ws wd words k {table} {m} em narrow t few small enum most p =
    let q : ℕ = (layout_at wd d).precision in
    let span : SpanAt words k ws p.source_text wd p.destination_text s d = p.entry.span enum most in
    let low : q ≤ 32 = rw (← em) narrow in
    let u : SpanTable table words k wd q = rw (← em) t in
    record {
      out =
          λ raw h.
          (span_says table words k wd q u low raw).0 ∙ rw (span.is raw h) (mod-eq_of_lt (code_lt p enum raw));
      none = λ raw h. (span_says table words k wd q u low raw).1 ∙ rw (span.is raw h);
      usable = span_usable table words k wd q u low few;
      low = λ h. small;
    }

-- ---- a row of the source

numbered_value : (w : List ℕ) (z : ℤ) (first n j : ℕ) → row_numbered w z first n ≡ Some j → value_at w j ≡ z
unfolding row_numbered
numbered_value w z first zero j e = let no : ◌≡◌ {A = ℕ} 0 1 = cc in absurd (omega arith)
numbered_value w z first (suc n) j e = go (numbered_value w z first n j) (same_number z (value_at w (first + n))) refl e
  where
    go : (row_numbered w z first n ≡ Some j → value_at w j ≡ z) → (b : Bool) → same_number z (value_at w (first + n)) ≡ b
        → cond b (Some (first + n)) (row_numbered w z first n) ≡ Some j → value_at w j ≡ z
    go later true q h =
        let i : first + n ≡ j = cc in
        rw (← i) (sym (sameNumber→eq z (value_at w (first + n)) q))
    go later false q h = later h

-- a symbol of the enum s that has these bits
record RowOf (ws : List ℕ) (s raw : ℕ) : Type 0 where
  row : ℕ
  within : row < symbol_rows ws s
  is : bits_of (layout_at ws s).precision (value_at ws (first_word ws s + row)) ≡ raw

module _ (ws : List ℕ) (s raw : ℕ) (v : Valid (layout_at ws s)) (h : raw < 2 ^ (layout_at ws s).precision) where
  row_of : (j : ℕ) → number_row ws s raw ≡ Some j → RowOf ws s raw
  unfolding number_row
  row_of j e =
      let z : ℤ = valued (layout_at ws s).signed (layout_at ws s).precision raw in
      let w = numbered_within ws z (first_word ws s) (symbol_rows ws s) j e in
      let at : first_word ws s + (j - first_word ws s) ≡ j = omega (arith, w.0) in
      record {
        row = j - first_word ws s;
        within = omega (arith, w.0, w.1);
        is = rw (at, numbered_value ws z (first_word ws s) (symbol_rows ws s) j e) (bits_valued (layout_at ws s) raw v h);
      }

  -- bits that have a row in the destination are a symbol's
  code_row : (ts wd td : List ℕ) (d : ℕ) → (translated_code ws ts wd td s d raw ≡ 0 → ⊥) → RowOf ws s raw
  unfolding translated_code
  code_row ts wd td d has = go (number_row ws s raw) refl has
    where
      go : (f : Option ℕ) → number_row ws s raw ≡ f → (named_code ws ts wd td d f ≡ 0 → ⊥) → RowOf ws s raw
      go (Some j) e found = row_of j e
      go None e found = absurd (found refl)

-- ---- by halves

module _ (table rows : List ℕ) (n s d : ℕ) (ws wd words : List ℕ) (k : ℕ) (keys : KeysOf table rows n wd (layout_at wd d).precision) (read : RowsRead s d ws wd words k n rows)
    (all : n ≡ symbol_rows ws s) (p : Pair s d ws wd words k) where
  abbrev q : ℕ
  q = (layout_at wd d).precision

  abbrev code : ℕ → ℕ
  code raw = translated_code ws p.source_text wd p.destination_text s d raw

  -- a key is bits that have a row in the destination
  hit : (raw : ℕ) → raw < 2 ^ (layout_at ws s).precision → is_key table raw ≡ true → (get_or table (272 + key_for table raw) 0 ≡ (code_bits wd q (code raw)).raw) × (code raw ≡ 0 → ⊥)
  hit raw h e =
      let f = found table raw e in
      let key = keys.good.keys (key_for table raw) f.0 in
      let same : get_or rows key.row 0 ≡ raw = sym key.is ∙ f.1 in
      let is : get_or rows (256 + key.row) 0 ≡ code raw = read.codes key.row key.within (rw same h) p ∙ ap code same in
      (key.out ∙ ap (λ (c : ℕ). (code_bits wd q c).raw) is, λ z. key.some (is ∙ z))

  -- and all of them are keys
  key_met : (raw i : ℕ) → get_or rows i 0 ≡ raw → KeyFor table rows (get_or table 3 0) i → is_key table raw ≡ true
  key_met raw i bits m = is_found table keys.good.rising m.key m.within keys.few raw (m.is ∙ bits)

  row_met : (raw : ℕ) → raw < 2 ^ (layout_at ws s).precision → (code raw ≡ 0 → ⊥) → RowOf ws s raw → is_key table raw ≡ true
  row_met raw h has r =
      let low : r.row < n = rw all r.within in
      let bits : get_or rows r.row 0 ≡ raw = read.bits r.row low ∙ r.is in
      let is : get_or rows (256 + r.row) 0 ≡ code raw = read.codes r.row low (rw bits h) p ∙ ap code bits in
      key_met raw r.row bits (keys.good.met r.row low (λ z. has (sym is ∙ z)))

  missed : (raw : ℕ) → raw < 2 ^ (layout_at ws s).precision → is_key table raw ≡ false → code raw ≡ 0
  missed raw h e = go (eqb (code raw) 0) refl
    where
      go : (b : Bool) → eqb (code raw) 0 ≡ b → code raw ≡ 0
      go true t = eqb-true (code raw) 0 t
      go false t =
          let has : code raw ≡ 0 → ⊥ = eqb-false (code raw) 0 t in
          let r = code_row ws s raw (pair_valid p).0 h p.source_text wd p.destination_text d has in
          absurd (false≢true (sym e ∙ row_met raw h has r))

  keys_say : (raw : ℕ) → raw < 2 ^ (layout_at ws s).precision
      → (out_in table (2 ^ q - 1) raw ≡ (code_bits wd q (code raw)).raw) × (none_in table raw ≡ raises (code_bits wd q (code raw)).kind)
  unfolding out_in none_in
  keys_say raw h = rw (eq-eqb (get_or table 1 0) 0 keys.halves) (go (is_key table raw) refl)
    where
      go : (b : Bool) → is_key table raw ≡ b
          → (cond b (get_or table (272 + key_for table raw) 0) (2 ^ q - 1) ≡ (code_bits wd q (code raw)).raw) × (cond b 0 1 ≡ raises (code_bits wd q (code raw)).kind)
      go true e =
          let x = hit raw h e in
          (x.0, rw (some_kind wd q (code raw) x.1))
      go false e = rw (missed raw h e) (refl, refl)

  keys_most : (raw : ℕ) → (out_in table (2 ^ q - 1) raw ≤ 2 ^ q - 1) × (none_in table raw ≤ 1)
  unfolding out_in none_in
  keys_most raw = rw (eq-eqb (get_or table 1 0) 0 keys.halves) (go (is_key table raw) refl)
    where
      go : (b : Bool) → is_key table raw ≡ b → (cond b (get_or table (272 + key_for table raw) 0) (2 ^ q - 1) ≤ 2 ^ q - 1) × (cond b 0 1 ≤ 1)
      go true e = ((keys.good.keys (key_for table raw) (found table raw e).0).most, omega arith)
      go false e = (le_refl (2 ^ q - 1), omega arith)

  pub keys_table : TableOf table ws p.source_text wd p.destination_text s d
  keys_table =
      record {
        out = λ raw h. (keys_say raw h).0;
        none = λ raw h. (keys_say raw h).1;
        usable = record { few = omega (arith, keys.halves); keys = keys.few; out = λ raw. (keys_most raw).0; none = λ raw. (keys_most raw).1 };
        low = λ h. absurd (omega (arith, keys.halves, h));
      }

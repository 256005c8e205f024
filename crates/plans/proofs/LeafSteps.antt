-- A leaf's number on its way through the words of a table, step by step. Assumes nothing.
use mathlib.Core.Path.{◌≡◌, refl, sym, ap, subst, ◌∙◌}
use mathlib.Core.Bool.{Bool, true, false, cond, not, false≢true}
use mathlib.Core.List.{List}
use mathlib.Core.Option.{none}
use Prim.Native.Nat.{ℕ, zero, suc, ◌+◌, ◌*◌, ◌-◌, ◌^◌, ◌≤◌, ◌<◌}
use native.Mathlib.Nat.{not-suc-le-zero, mod-lt}
use native.Mathlib.Numerals.{add-one}
use native.Mathlib.Omega.{arith}
use lib.Dec.{eqb}
use lib.IntN.{ℤ, pos}
use lib.ListN.{length, get_or}
use lib.Pow.{pow_pos}
use lib.Signed.{lt_z}
use borrow.Author.Tests.{eqb-true, eq-eqb, ne_eqb, le-leb, lt-leb, lt-ltb, le-ltb}
use Rattle.layout.specs.declared.Layout.{Layout}
use Rattle.layout.specs.Layout.{Valid}
use Rattle.number.specs.declared.Number.{Number}
use Rattle.number.specs.declared.Parts.{Parts}
use Rattle.number.specs.declared.Fitted.{Fitted}
use Rattle.answer.specs.declared.Given.{Given}
use Rattle.answer.specs.declared.Given.TheVariants.{Real}
use Rattle.number.specs.Number.{valued, number_at, bits_of, largest, smallest, number_given, fitted}
use Rattle.number.specs.Place.{raw_at, stored}
use Rattle.number.specs.Parts.{meaning, signed_by}
use Rattle.number.proofs.RoundTrip.{bits_back}
use Rattle.reals.specs.Convert.{int_to_real, real_to_int}
use Rattle.datatype.specs.Datatype.{Symbol, Leaf, layout_of, binary64}
use Rattle.datatype.specs.Datatype.Leaf.{atomic, enumeration, real}
use Rattle.datatype.specs.Symbols.{on_some, number_of}
use Rattle.datatype.specs.WellFormed.{WellFormedLeaf, Symbols}
use Rattle.datatype.proofs.Ways.{valid}
use Rattle.std.specs.Prelude.{Option, Some, None}
use Rattle.table.specs.Table.{row_word, class_word, first_word, rows_word, flag_of, layout_at, name_at, value_at, symbols_at}
use Rattle.table.specs.Words.{Reads}
use Rattle.table.specs.Rows.{row_named, row_numbered, value_found, name_found}
use Rattle.table.proofs.Lookups.{symbol_named, symbol_numbered}
use Rattle.entry_code.specs.Code.{route_in}
use Rattle.records.specs.Leaf.{number_in, symbols, translated_to, untranslated, real_bits, given_of, converted}
use Rattle.records.proofs.OneLeaf.{read_in_range, converted_lt, listed_in_range}
use Rattle.plans.specs.PlanWords.{leaf_of_type, symbol_rows, number_row, row_code, named_code, translated_code, is_real, one_real, span_code, row_alike, Pair, pair_becomes}
use Rattle.plans.specs.declared.Coded.{Coded}
use Rattle.plans.specs.LeafSteps.{all_ones, code_bits, looked_code, EnumReady, real_becomes, RealReady}
use Rattle.plans.proofs.Names.{looked_named}

-- ---- the words of a row

pub value_negative : (w : List ℕ) (j p : ℕ) {low high a o r : ℕ} {sign : Bool} → Reads (row_word w j 3) low → Reads (row_word w j 4) high
    → Reads (row_word w j 2) a → sign ≡ flag_of a → sign ≡ true → o ≡ 2 ^ p - 1 → r ≡ o - (low + high * 4294967296) → r ≡ bits_of p (value_at w j)
value_negative w j p {low} {high} rl rh ra e t ho hr =
    let f : flag_of (row_word w j 2) ≡ true = rw (← ra.is, ← e) t in
    hr ∙ rw (f, ← rl.is, ← rh.is, ho) (omega arith)

pub value_plain : (w : List ℕ) (j p : ℕ) {low high a : ℕ} {sign : Bool} → Reads (row_word w j 3) low → Reads (row_word w j 4) high
    → Reads (row_word w j 2) a → sign ≡ flag_of a → sign ≡ false → low + high * 4294967296 ≡ bits_of p (value_at w j)
value_plain w j p rl rh ra e t =
    let f : flag_of (row_word w j 2) ≡ false = rw (← ra.is, ← e) t in
    rw (f, ← rl.is, ← rh.is)

pub code_none : (w : List ℕ) (p : ℕ) {code : ℕ} {r : Coded} → code ≡ 0 → r ≡ all_ones p → r ≡ code_bits w p code
code_none w p e h = rw e h

pub code_some : (w : List ℕ) (p : ℕ) {code b : ℕ} → (code ≡ 0 → ⊥) → b ≡ bits_of p (value_at w (code - 1)) → ◌≡◌ {A = Coded} (record { raw = b; kind = 0 }) (code_bits w p code)
code_some w p {code} not h = let e : code ≡ suc (code - 1) = omega arith in rw e (rw h)

-- ---- how many symbols a type has

pub symbols_some : (w : List ℕ) (k : ℕ) {c r : ℕ} → Reads (class_word w k) c → c ≡ 2 → Reads (rows_word w k) r → (r ≡ symbol_rows w k) × (r < 4294967296)
unfolding symbol_rows
symbols_some w k rc e rr = (rw (eq-eqb (class_word w k) 2 (sym rc.is ∙ e)) rr.is, rr.small)

pub symbols_none : (w : List ℕ) (k : ℕ) {c : ℕ} → Reads (class_word w k) c → (c ≡ 2 → ⊥) → (0 ≡ symbol_rows w k) × (0 < 4294967296)
unfolding symbol_rows
symbols_none w k rc not = (rw (ne_eqb (class_word w k) 2 (λ e. not (rc.is ∙ e))), omega arith)

-- ---- the leaf that a type's words stand for

pub leaf_layout : (w t : List ℕ) (k : ℕ) → layout_of (leaf_of_type w t k) ≡ layout_at w k
unfolding leaf_of_type
leaf_layout w t k = go (eqb (class_word w k) 2) (is_real w k)
  where
    go : (b c : Bool) → layout_of (cond b (enumeration (layout_at w k) (symbols_at w t (first_word w k) (rows_word w k))) (cond c (real (layout_at w k)) (atomic (layout_at w k)))) ≡ layout_at w k
    go true c = refl
    go false true = refl
    go false false = refl

pub leaf_symbols : (w t : List ℕ) (k : ℕ) → symbols (leaf_of_type w t k) ≡ symbols_at w t (first_word w k) (symbol_rows w k)
unfolding leaf_of_type symbol_rows symbols_at
leaf_symbols w t k = go (eqb (class_word w k) 2) (is_real w k)
  where
    go : (b c : Bool) → symbols (cond b (enumeration (layout_at w k) (symbols_at w t (first_word w k) (rows_word w k))) (cond c (real (layout_at w k)) (atomic (layout_at w k))))
        ≡ symbols_at w t (first_word w k) (cond b (rows_word w k) 0)
    go true c = refl
    go false true = refl
    go false false = refl

pub leaf_enum : (w t : List ℕ) (k : ℕ) → class_word w k ≡ 2 → leaf_of_type w t k ≡ enumeration (layout_at w k) (symbols_at w t (first_word w k) (rows_word w k))
unfolding leaf_of_type
leaf_enum w t k e = rw (eq-eqb (class_word w k) 2 e)

pub leaf_real : (w t : List ℕ) (k : ℕ) → is_real w k ≡ true → leaf_of_type w t k ≡ real (layout_at w k)
unfolding leaf_of_type
leaf_real w t k e = rw (eqb-true (class_word w k) 5 e)

pub leaf_plain : (w t : List ℕ) (k : ℕ) → (class_word w k ≡ 2 → ⊥) → is_real w k ≡ false → leaf_of_type w t k ≡ atomic (layout_at w k)
unfolding leaf_of_type
leaf_plain w t k not e = rw (ne_eqb (class_word w k) 2 not, e)

pub leaf_valid : (w t : List ℕ) (k : ℕ) → WellFormedLeaf (leaf_of_type w t k) → Valid (layout_at w k)
leaf_valid w t k f = subst Valid (leaf_layout w t k) (valid (leaf_of_type w t k) f)

-- ---- whether a type is a real, by its class

module _ (w : List ℕ) (k : ℕ) {class : ℕ} (rc : Reads (class_word w k) class) where
  pub class_real : class ≡ 5 → is_real w k ≡ true
  class_real e = eq-eqb _ 5 (sym rc.is ∙ e)

  pub class_other : (class ≡ 5 → ⊥) → is_real w k ≡ false
  class_other e = ne_eqb _ 5 (λ i. e (rc.is ∙ i))

-- ---- a row by a span

module _ (words : List ℕ) (k raw : ℕ) {low : ℕ} (rl : Reads (get_or words (k + 1) 0) low) where
  pub span_below : raw < low → (0 ≡ span_code words k raw) × (0 < 4294967296)
  unfolding span_code
  span_below h = (rw (← rl.is, lt-leb low raw h), omega arith)

  module _ (above : low ≤ raw) {count : ℕ} (rc : Reads (get_or words (k + 2) 0) count) where
    pub span_above : count ≤ raw - low → (0 ≡ span_code words k raw) × (0 < 4294967296)
    unfolding span_code
    span_above h = (rw (← rl.is, ← rc.is, le-leb low raw above, le-ltb (raw - low) count h), omega arith)

    pub span_inside : {start r : ℕ} → raw - low < count → Reads (get_or words (k + 3) 0) start → Reads (get_or words (start + (raw - low)) 0) r
        → (r ≡ span_code words k raw) × (r < 4294967296)
    unfolding span_code
    span_inside h rs rr = (rw (← rl.is, ← rc.is, ← rs.is, le-leb low raw above, lt-ltb (raw - low) count h) rr.is, rr.small)

-- ---- a row by ids

module _ (words : List ℕ) (id first : ℕ) where
  pub alike_none : (n : ℕ) → n ≤ 0 → row_alike words id first n ≡ None
  unfolding row_alike
  alike_none zero h = refl
  alike_none (suc n) h = absurd (not-suc-le-zero h)

  pub alike_hit : (n : ℕ) {x : ℕ} → 0 < n → Reads (get_or words (256 + (first + (n - 1))) 0) x → x ≡ id → row_alike words id first n ≡ Some (first + (n - 1))
  unfolding row_alike
  alike_hit zero h r e = absurd (not-suc-le-zero h)
  alike_hit (suc n) h r e =
      let s : suc n - 1 ≡ n = omega arith in
      let q : get_or words (256 + (first + n)) 0 ≡ id = sym (simp s at r.is) ∙ e in
      rw (s, eq-eqb (get_or words (256 + (first + n)) 0) id q)

  pub alike_skip : (n : ℕ) {x : ℕ} → 0 < n → Reads (get_or words (256 + (first + (n - 1))) 0) x → (x ≡ id → ⊥) → row_alike words id first n ≡ row_alike words id first (n - 1)
  unfolding row_alike
  alike_skip zero h r e = absurd (not-suc-le-zero h)
  alike_skip (suc n) h r e =
      let s : suc n - 1 ≡ n = omega arith in
      rw (s, ne_eqb (get_or words (256 + (first + n)) 0) id (λ q. e (simp s at r.is ∙ q)))

pub alike_read : (words wd : List ℕ) (j d : ℕ) {id first rows r : ℕ} → Reads (get_or words j 0) id → Reads (first_word wd d) first → Reads (rows_word wd d) rows
    → r ≡ row_code (row_alike words id first rows) → r ≡ row_code (row_alike words (get_or words j 0) (first_word wd d) (rows_word wd d))
alike_read words wd j d ri rf rr h = h ∙ rw (ri.is, rf.is, rr.is)

pub looked_found : (words ws wd : List ℕ) (z : ℤ) (s d : ℕ) {first rows j r : ℕ} {f : Option ℕ} → Reads (first_word ws s) first → (rows ≡ symbol_rows ws s) × (rows < 4294967296)
    → f ≡ row_numbered ws z first rows → f ≡ Some j → r ≡ row_code (row_alike words (get_or words j 0) (first_word wd d) (rows_word wd d)) → r ≡ looked_code words ws wd s d z
looked_found words ws wd z s d rf rr e q h = rw (← rf.is, ← rr.0, ← e, q) h

pub looked_missing : (words ws wd : List ℕ) (z : ℤ) (s d : ℕ) {first rows : ℕ} {f : Option ℕ} → Reads (first_word ws s) first → (rows ≡ symbol_rows ws s) × (rows < 4294967296)
    → f ≡ row_numbered ws z first rows → f ≡ None → 0 ≡ looked_code words ws wd s d z
looked_missing words ws wd z s d rf rr e q = rw (← rf.is, ← rr.0, ← e, q)

-- ---- a number in range keeps its bits

pub inside_bits : (l : Layout) (z : ℤ) → (fitted l z).kind ≡ 0 → record { raw = bits_of l.precision z; kind = 0; given = number_given z } ≡ fitted l z
inside_bits l z e = go (lt_z (largest l.signed l.precision) z) (lt_z z (smallest l.signed l.precision)) e
  where
    go : (a b : Bool)
        → (cond {A = Fitted} a (record { raw = bits_of l.precision (largest l.signed l.precision); kind = 1; given = number_given z })
        (cond b (record { raw = bits_of l.precision (smallest l.signed l.precision); kind = 2; given = number_given z }) (record { raw = bits_of l.precision z; kind = 0; given = number_given z }))).kind ≡ 0
        → ◌≡◌ {A = Fitted} (record { raw = bits_of l.precision z; kind = 0; given = number_given z })
        (cond a (record { raw = bits_of l.precision (largest l.signed l.precision); kind = 1; given = number_given z })
        (cond b (record { raw = bits_of l.precision (smallest l.signed l.precision); kind = 2; given = number_given z }) (record { raw = bits_of l.precision z; kind = 0; given = number_given z })))
    go true b h = let no : ◌≡◌ {A = ℕ} 1 0 = h in absurd (omega arith)
    go false true h = let no : ◌≡◌ {A = ℕ} 2 0 = h in absurd (omega arith)
    go false false h = refl

-- ---- an enum's number

-- a row's bits and kind are those of a number brought into a range
abbrev pub Agrees : Coded → Fitted → Type 0
Agrees c f = (c.raw ≡ f.raw) × (c.kind ≡ f.kind)

module _ (ws ts wd td : List ℕ) (s d : ℕ) (formed : WellFormedLeaf (leaf_of_type wd td d)) (enum : class_word wd d ≡ 2) where
  abbrev names : List Symbol
  names = symbols_at wd td (first_word wd d) (rows_word wd d)

  listed : Symbols (layout_at wd d) names
  listed = (subst WellFormedLeaf (leaf_enum wd td d enum) formed).symbols

  code_names : (g : Given) (x : List ℕ) (o : Option ℕ) → row_named wd td x (first_word wd d) (rows_word wd d) ≡ o
      → Agrees (code_bits wd (layout_at wd d).precision (row_code o)) (on_some (translated_to (layout_at wd d) g) (untranslated (layout_at wd d) g) (value_found wd o))
  code_names g x (Some i) q =
      let e = inside_bits (layout_at wd d) (value_at wd i)
      (listed_in_range (layout_at wd d) names x (value_at wd i) listed (symbol_named wd td x (first_word wd d) (rows_word wd d) ∙ rw q)) in
      rw add-one (ap (λ (f : Fitted). f.raw) e, ap (λ (f : Fitted). f.kind) e)
  code_names g x None q = (refl, refl)

  found_names : (g : Given) (o : Option ℕ)
      → Agrees (code_bits wd (layout_at wd d).precision (named_code ws ts wd td d o))
      (on_some (translated_to (layout_at wd d) g) (untranslated (layout_at wd d) g) (on_some (λ x. number_of x names) none (name_found ws ts o)))
  found_names g (Some j) =
      rw (symbol_named wd td (name_at ws ts j) (first_word wd d) (rows_word wd d))
      (code_names g (name_at ws ts j) (row_named wd td (name_at ws ts j) (first_word wd d) (rows_word wd d)) refl)
  found_names g None = (refl, refl)

  -- the row that the words lead to, as significant bits, is what the definition makes of the number
  pub enum_converted : (raw : ℕ)
      → Agrees (code_bits wd (layout_at wd d).precision (translated_code ws ts wd td s d raw))
      (converted (leaf_of_type ws ts s) (leaf_of_type wd td d) (valued (layout_at ws s).signed (layout_at ws s).precision raw))
  unfolding translated_code number_row
  enum_converted raw =
      let z : ℤ = valued (layout_at ws s).signed (layout_at ws s).precision raw in
      rw (leaf_enum wd td d enum, leaf_symbols ws ts s, symbol_numbered ws z (first_word ws s) ts (symbol_rows ws s)) (found_names (given_of (leaf_of_type ws ts s) z) (row_numbered ws z (first_word ws s) (symbol_rows ws s)))

-- ---- the row of an enum's number, by the route

module _ (s d : ℕ) (ws wd words : List ℕ) (k raw : ℕ) {x o : ℕ} (rx : Reads (get_or words k 0) x) (ro : o ≡ route_in x) where
  route_is : o ≡ route_in (get_or words k 0)
  route_is = ro ∙ ap route_in rx.is

  pub spanned : {code : ℕ} → raw < 2 ^ (layout_at ws s).precision → 4 ≤ route_in (get_or words k 0) → o < 7 → code ≡ span_code words k raw
      → (p : Pair s d ws wd words k) → code ≡ translated_code ws p.source_text wd p.destination_text s d raw
  spanned low enum few h p = h ∙ (p.entry.span enum (rw (← route_is) few)).is raw low

  pub looked_up : {code : ℕ} {l : Layout} (n : Number) (z : Parts) → 7 ≤ o → l ≡ layout_at ws s → meaning n ≡ valued l.signed l.precision raw
      → meaning n ≡ signed_by z.negative z.distance → code ≡ looked_code words ws wd s d (signed_by z.negative z.distance)
      → (p : Pair s d ws wd words k) → code ≡ translated_code ws p.source_text wd p.destination_text s d raw
  unfolding translated_code number_row
  looked_up n z many el hn hz h p =
      let class = p.entry.enum (omega (arith, route_is)) in
      h ∙ looked_named words ws p.source_text wd p.destination_text (p.names (rw (← route_is) many)) d class p.destination_rows s (signed_by z.negative z.distance) p.source_rows
      ∙ rw (← hz, hn, el)

pub code_here : (src : List ℕ) (a s d : ℕ) (ws wd words : List ℕ) (k : ℕ) {raw code : ℕ} {l : Layout} → l ≡ layout_at ws s → raw ≡ raw_at l a src
    → ((p : Pair s d ws wd words k) → code ≡ translated_code ws p.source_text wd p.destination_text s d raw)
    → (p : Pair s d ws wd words k) → code ≡ translated_code ws p.source_text wd p.destination_text s d (raw_at (layout_at ws s) a src)
code_here src a s d ws wd words k el er h p = h p ∙ rw (er, el)

-- ---- a leaf's number

-- what a leaf's function promises: the definition's bits and kind, whatever the texts are
abbrev pub Becomes : List ℕ → ℕ → ℕ → ℕ → List ℕ → List ℕ → List ℕ → ℕ → Coded → Type 0
Becomes src a s d ws wd words k r = ((p : Pair s d ws wd words k) → Agrees r (pair_becomes p a src)) × (r.raw < 2 ^ (layout_at wd d).precision)

becomes_lt : (src : List ℕ) (a s d : ℕ) (ws wd words : List ℕ) (k : ℕ) (r : Coded) → Pair s d ws wd words k → ((p : Pair s d ws wd words k) → Agrees r (pair_becomes p a src))
    → Becomes src a s d ws wd words k r
becomes_lt src a s d ws wd words k r p h =
    (h, rw ((h p).0, ← (leaf_layout wd p.destination_text d)) (converted_lt (leaf_of_type ws p.source_text s) (leaf_of_type wd p.destination_text d) (number_in (leaf_of_type ws p.source_text s) a src) p.source p.destination (read_in_range (leaf_of_type ws p.source_text s) a src p.source)))

module _ (n a s d : ℕ) (ws wd words : List ℕ) (k : ℕ) (ready : EnumReady n a s d ws wd words k) where
  pub enum_source : {l : Layout} → l ≡ layout_at ws s → Valid l × (a + l.size.0 ≤ n)
  enum_source e = rw e (leaf_valid ws ready.pair.source_text s ready.pair.source, ready.read)

  pub enum_precision : {q : ℕ} → q ≡ (layout_at wd d).precision → q ≤ 64
  enum_precision e = rw e (leaf_valid wd ready.pair.destination_text d ready.pair.destination).most

module _ (src : List ℕ) (a s d : ℕ) (ws wd words : List ℕ) (k : ℕ) (ready : EnumReady (length src) a s d ws wd words k)
    {code : ℕ} (is : (p : Pair s d ws wd words k) → code ≡ translated_code ws p.source_text wd p.destination_text s d (raw_at (layout_at ws s) a src)) where
  bits_become : (p : Pair s d ws wd words k) → Agrees (code_bits wd (layout_at wd d).precision code) (pair_becomes p a src)
  bits_become p =
      rw (is p, leaf_layout ws p.source_text s)
      (enum_converted ws p.source_text wd p.destination_text s d p.destination (p.entry.enum ready.enum) (raw_at (layout_at ws s) a src))

  pub enum_becomes : {q : ℕ} {r : Coded} → q ≡ (layout_at wd d).precision → r ≡ code_bits wd q code → Becomes src a s d ws wd words k r
  enum_becomes {r = r} e h = becomes_lt src a s d ws wd words k r ready.pair (λ p. rw (h, e) (bits_become p))

  pub enum_missing : code ≡ 0 → (p : Pair s d ws wd words k) → 3 ≡ (pair_becomes p a src).kind
  enum_missing e p = (rw e at (bits_become p)).1

  pub enum_found : (code ≡ 0 → ⊥) → (p : Pair s d ws wd words k) → 0 ≡ (pair_becomes p a src).kind
  enum_found not p =
      let e : code ≡ suc (code - 1) = omega arith in
      (rw e at (bits_become p)).1

-- ---- a number that becomes a number, and a real that becomes a real

one_real_cases : (a b : Bool) → cond a (not b) b ≡ false → a ≡ b
one_real_cases true true e = refl
one_real_cases true false e = absurd (false≢true (sym e))
one_real_cases false true e = absurd (false≢true (sym e))
one_real_cases false false e = refl

-- a leaf that is no real gives its number
plain_gives : (ws ts : List ℕ) (s : ℕ) → is_real ws s ≡ false → (l : Layout) (z : ℤ) → (converted (leaf_of_type ws ts s) (atomic l) z ≡ fitted l z) × (converted (leaf_of_type ws ts s) (real l) z ≡ int_to_real z)
unfolding leaf_of_type
plain_gives ws ts s e l z = rw e (go (eqb (class_word ws s) 2))
  where
    go : (b : Bool) → let x = cond b (enumeration (layout_at ws s) (symbols_at ws ts (first_word ws s) (rows_word ws s))) (atomic (layout_at ws s)) in
        (converted x (atomic l) z ≡ fitted l z) × (converted x (real l) z ≡ int_to_real z)
    go true = (refl, refl)
    go false = (refl, refl)

-- a real has the layout of 64 bits
real_formed : (w t : List ℕ) (k : ℕ) → is_real w k ≡ true → WellFormedLeaf (leaf_of_type w t k) → layout_at w k ≡ binary64 (layout_at w k).order
real_formed w t k e f = subst WellFormedLeaf (leaf_real w t k e) f

-- the number of a real is its bits, and fits any real
real_number : (l : Layout) (a : ℕ) (src : List ℕ) → l ≡ binary64 l.order → number_at l a src ≡ pos (raw_at l a src)
real_number l a src f = ap (λ (m : Layout). valued m.signed m.precision (raw_at l a src)) f

real_kept : (l k : Layout) (a : ℕ) (src : List ℕ) → l ≡ binary64 l.order → k ≡ binary64 k.order
    → ((fitted k (number_at l a src)).raw ≡ real_bits (number_at l a src)) × ((fitted k (number_at l a src)).kind ≡ 0)
real_kept l k a src f g =
    let low : raw_at l a src < 2 ^ 64 = subst (λ (q : ℕ). raw_at l a src < 2 ^ q) (ap (λ (m : Layout). m.precision) f) (mod-lt _ (pow_pos l.precision)) in
    let e = ap (λ (m : Layout). fitted m (pos (raw_at l a src))) g ∙ bits_back false 64 (raw_at l a src) (omega arith) low in
    rw (real_number l a src f) (ap (λ (t : Fitted). t.raw) e, ap (λ (t : Fitted). t.kind) e)

-- ---- what was given

plain_given : (ws ts : List ℕ) (s : ℕ) → is_real ws s ≡ false → (z : ℤ) → given_of (leaf_of_type ws ts s) z ≡ number_given z
unfolding leaf_of_type
plain_given ws ts s e z = rw e (go (eqb (class_word ws s) 2))
  where
    go : (b : Bool) → given_of (cond b (enumeration (layout_at ws s) (symbols_at ws ts (first_word ws s) (rows_word ws s))) (atomic (layout_at ws s))) z ≡ number_given z
    go true = refl
    go false = refl

module _ (src : List ℕ) (a s : ℕ) (ws : List ℕ) {l : Layout} {raw : ℕ} (el : l ≡ layout_at ws s) (er : raw ≡ raw_at l a src) where
  pub real_given : (tf : List ℕ) → is_real ws s ≡ true → WellFormedLeaf (leaf_of_type ws tf s)
      → (ts : List ℕ) → Real raw ≡ given_of (leaf_of_type ws ts s) (number_in (leaf_of_type ws ts s) a src)
  real_given tf e f ts =
      rw (er, el, leaf_real ws ts s e) (ap (λ (z : ℤ). Real (real_bits z)) (sym (real_number (layout_at ws s) a src (real_formed ws tf s e f))))

  pub whole_given : {g : Given} {z : ℤ} → is_real ws s ≡ false → z ≡ valued l.signed l.precision raw → g ≡ number_given z
      → (ts : List ℕ) → g ≡ given_of (leaf_of_type ws ts s) (number_in (leaf_of_type ws ts s) a src)
  whole_given {g} {z} e hz h ts =
      let i : z ≡ number_at (layout_at ws s) a src = hz ∙ rw (er, el) in
      rw (leaf_layout ws ts s) (h ∙ ap number_given i ∙ sym (plain_given ws ts s e (number_at (layout_at ws s) a src)))

-- a leaf that is no enum, where both are reals or neither is: its bits and its kind
pub number_becomes : {s d : ℕ} {ws wd words : List ℕ} {k : ℕ} (p : Pair s d ws wd words k) → (class_word wd d ≡ 2 → ⊥) → one_real ws s wd d ≡ false → (a : ℕ) (src : List ℕ)
    → ((fitted (layout_at wd d) (number_at (layout_at ws s) a src)).raw ≡ (pair_becomes p a src).raw)
    × ((fitted (layout_at wd d) (number_at (layout_at ws s) a src)).kind ≡ (pair_becomes p a src).kind)
unfolding one_real
number_becomes {s} {d} {ws} {wd} p not_enum alike a src = go (is_real wd d) refl
  where
    ts : List ℕ
    ts = p.source_text

    td : List ℕ
    td = p.destination_text

    same : is_real ws s ≡ is_real wd d
    same = one_real_cases (is_real ws s) (is_real wd d) alike

    go : (b : Bool) → is_real wd d ≡ b → ((fitted (layout_at wd d) (number_at (layout_at ws s) a src)).raw ≡ (pair_becomes p a src).raw)
        × ((fitted (layout_at wd d) (number_at (layout_at ws s) a src)).kind ≡ (pair_becomes p a src).kind)
    go true e =
        let f : is_real ws s ≡ true = same ∙ e in
        rw (leaf_real ws ts s f, leaf_real wd td d e)
        (real_kept (layout_at ws s) (layout_at wd d) a src (real_formed ws ts s f p.source) (real_formed wd td d e p.destination))
    go false e =
        let g = sym (plain_gives ws ts s (same ∙ e) (layout_at wd d) (number_at (layout_at ws s) a src)).0 in
        rw (leaf_plain wd td d not_enum e, leaf_layout ws ts s) (ap (λ (t : Fitted). t.raw) g, ap (λ (t : Fitted). t.kind) g)

-- ---- between a real and another leaf

pub real_becomes_lem : {s d : ℕ} {ws wd words : List ℕ} {k : ℕ} (p : Pair s d ws wd words k) → (class_word wd d ≡ 2 → ⊥) → one_real ws s wd d ≡ true → (a : ℕ) (src : List ℕ)
    → real_becomes ws s wd d a src ≡ pair_becomes p a src
unfolding one_real real_becomes
real_becomes_lem {s} {d} {ws} {wd} p not_enum mixed a src = go (is_real ws s) (is_real wd d) refl refl mixed
  where
    ts : List ℕ
    ts = p.source_text

    td : List ℕ
    td = p.destination_text

    go : (b c : Bool) → is_real ws s ≡ b → is_real wd d ≡ c → cond b (not c) c ≡ true
        → cond b (real_to_int (layout_at wd d) (raw_at (layout_at ws s) a src)) (int_to_real (number_at (layout_at ws s) a src)) ≡ pair_becomes p a src
    go true true e f m = absurd (false≢true m)
    go true false e f m =
        rw (leaf_real ws ts s e, leaf_plain wd td d not_enum f) (ap (λ (z : ℤ). real_to_int (layout_at wd d) (real_bits z)) (sym (real_number (layout_at ws s) a src (real_formed ws ts s e p.source))))
    go false true e f m = rw (leaf_real wd td d f, leaf_layout ws ts s) (sym (plain_gives ws ts s e (layout_at wd d) (number_at (layout_at ws s) a src)).1)
    go false false e f m = absurd (false≢true m)

pub pair_valid : {s d : ℕ} {ws wd words : List ℕ} {k : ℕ} → Pair s d ws wd words k → Valid (layout_at ws s) × Valid (layout_at wd d)
pair_valid {s} {d} {ws} {wd} p = (leaf_valid ws p.source_text s p.source, leaf_valid wd p.destination_text d p.destination)

-- what a leaf's function asks for between a real and another leaf
pub real_ready : (n a s d : ℕ) (ws wd words : List ℕ) (k : ℕ) → Pair s d ws wd words k → one_real ws s wd d ≡ true → a + (layout_at ws s).size.0 ≤ n → RealReady n a s d ws wd
unfolding one_real
real_ready n a s d ws wd words k p mixed h =
    record {
      source = (pair_valid p).0;
      destination = (pair_valid p).1;
      read = h;
      real = λ e. ap (λ (m : Layout). m.precision) (real_formed wd p.destination_text d (rw e at mixed) p.destination);
    }

-- ---- what is stored

pub store_fits : (s d b n raw : ℕ) (ws wd words : List ℕ) (k : ℕ) {l : Layout} → Pair s d ws wd words k → b + (layout_at wd d).size.0 ≤ n → l ≡ layout_at wd d
    → raw < 2 ^ (layout_at wd d).precision → Valid l × (b + l.size.0 ≤ n) × (raw < 2 ^ l.precision)
store_fits s d b n raw ws wd words k p h e g = rw e ((pair_valid p).1, h, g)

pub leaf_stored : (src dst out : List ℕ) (a b s d : ℕ) (ws wd words : List ℕ) (k : ℕ) {l : Layout} {f : Coded} → Becomes src a s d ws wd words k f → l ≡ layout_at wd d
    → out ≡ stored l b f.raw dst
    → (p : Pair s d ws wd words k) → (f.kind ≡ (pair_becomes p a src).kind) × (out ≡ stored (layout_at wd d) b (pair_becomes p a src).raw dst)
leaf_stored src dst out a b s d ws wd words k {l} {f} h e g p = ((h.0 p).1, g ∙ rw (e, (h.0 p).0))

-- what was promised of a number, as the pair's
pub number_stored : (src dst out : List ℕ) (a b s d kind : ℕ) (ws wd words : List ℕ) (k : ℕ) → (class_word wd d ≡ 2 → ⊥) → one_real ws s wd d ≡ false
    → (kind ≡ (fitted (layout_at wd d) (number_at (layout_at ws s) a src)).kind) × (out ≡ stored (layout_at wd d) b (fitted (layout_at wd d) (number_at (layout_at ws s) a src)).raw dst)
    → (p : Pair s d ws wd words k) → (kind ≡ (pair_becomes p a src).kind) × (out ≡ stored (layout_at wd d) b (pair_becomes p a src).raw dst)
number_stored src dst out a b s d kind ws wd words k not_enum alike h p =
    let e = number_becomes p not_enum alike a src in
    (h.0 ∙ e.1, h.1 ∙ ap (λ (raw : ℕ). stored (layout_at wd d) b raw dst) e.0)

-- and of a number between a real and another leaf
pub real_stored : (src dst out : List ℕ) (a b s d kind : ℕ) (ws wd words : List ℕ) (k : ℕ) → (class_word wd d ≡ 2 → ⊥) → one_real ws s wd d ≡ true
    → (kind ≡ (real_becomes ws s wd d a src).kind) × (out ≡ stored (layout_at wd d) b (real_becomes ws s wd d a src).raw dst)
    → (p : Pair s d ws wd words k) → (kind ≡ (pair_becomes p a src).kind) × (out ≡ stored (layout_at wd d) b (pair_becomes p a src).raw dst)
real_stored src dst out a b s d kind ws wd words k not_enum mixed h p = rw (real_becomes_lem p not_enum mixed a src) at h

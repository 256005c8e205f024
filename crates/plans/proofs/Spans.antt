-- The rows of enums by significant bits, and the spans in which they stand. Assumes nothing.
use mathlib.Core.Path.{◌≡◌, refl, sym, ap, subst, ◌∙◌}
use mathlib.Core.Bool.{Bool, true, false, cond, not, ◌&&◌, false≢true}
use mathlib.Core.Logic.{⊎_elim}
use mathlib.Core.List.{List, [], ◌∷◌}
use Prim.Native.Nat.{ℕ, zero, suc, ◌+◌, ◌*◌, ◌-◌, ◌^◌, ◌≤◌, ◌<◌, min, max}
use native.Mathlib.Nat.{le_refl, lt_of_not-le, eq-or-lt_of_le}
use native.Mathlib.Decide.{dec_le}
use native.Mathlib.Omega.{arith}
use native.Mathlib.Numerals.{add-one}
use lib.Dec.{eqb, leb, ltb}
use lib.IntN.{ℤ}
use lib.ListN.{length, get_or, set, length-set, replicate}
use lib.Seq.{get_or-set_same, get_or-set_other}
use borrow.Author.Count.{below_more}
use borrow.Author.Tests.{eqb-true, eq-eqb, ne_eqb, leb-true, ltb-true, le-leb, lt-ltb}
use Rattle.layout.specs.declared.Layout.{Layout}
use Rattle.layout.specs.Layout.{valid, Valid}
use Rattle.number.specs.declared.Fitted.{Fitted}
use Rattle.number.specs.Number.{valued, bits_of}
use Rattle.number.proofs.Range.{valued_low, valued_high}
use Rattle.number.proofs.RoundTrip.{fitted_lt, fitted_back}
use Rattle.datatype.specs.Symbols.{same_number}
use Rattle.datatype.specs.WellFormed.{WellFormedLeaf, Symbols}
use Rattle.datatype.proofs.Tests.{sameNumber→eq, sameNumber_refl}
use Rattle.std.specs.Prelude.{Option, Some, None}
use Rattle.table.specs.Table.{row_word, class_word, first_word, rows_word, flag_of, layout_at, bytes_at, name_at, value_at, symbols_at}
use Rattle.table.specs.Words.{Reads}
use Rattle.table.specs.Records.{order_code}
use Rattle.table.proofs.Coded.{flag_back}
use Rattle.table.specs.Rows.{row_named, row_numbered}
use Rattle.entry_code.specs.Code.{packed, route_in, shift_in, precision_in, size_in, order_in, bits_in}
use Rattle.entry_code.proofs.Packed.{route_back, shift_back, precision_back, size_back, order_back, bits_back}
use Rattle.easy.specs.Easy.{easy, shift_of, easy_words, with_words, words_of}
use Rattle.easy.proofs.Easy.{shift_small, order_small}
use Rattle.easy.proofs.Words.{words_length, words_below, words_above, words_at_lem, easy_stands, easy_route}
use Rattle.plans.specs.PlanWords.{RowsWithin, symbol_rows, number_row, row_code, named_code, translated_code, source_type_of, destination_type_of, words_place, is_real, one_real, span_code, EnumAt, RealAt}
use Rattle.plans.specs.PlanEntries.{PairFormed, whole_words, real_words, plain_words, Standing, EntryPut}
use Rattle.plans.specs.Spans.{RowsIn, RowsBack, SymbolsFormed, SpanOf, WordsPut, SpanPut, code_among, CodePut, SpanWord, EntryRoom, AllStanding}
use Rattle.plans.proofs.Names.{numbered_within, named_within}
use Rattle.plans.proofs.LeafSteps.{leaf_enum, leaf_valid, inside_bits}

-- ---- the row that was found

numbered_value : (w : List ℕ) (z : ℤ) (first n j : ℕ) → row_numbered w z first n ≡ Some j → value_at w j ≡ z
unfolding row_numbered
numbered_value w z first zero j e = let no : ◌≡◌ {A = ℕ} 0 1 = cc in absurd (omega arith)
numbered_value w z first (suc n) j e = go (numbered_value w z first n j) (same_number z (value_at w (first + n))) refl e
  where
    go : (row_numbered w z first n ≡ Some j → value_at w j ≡ z) → (b : Bool) → same_number z (value_at w (first + n)) ≡ b
        → cond b (Some (first + n)) (row_numbered w z first n) ≡ Some j → value_at w j ≡ z
    go later true q h =
        let i : first + n ≡ j = cc in
        rw (← i) (sym (sameNumber→eq z (value_at w (first + n)) q))
    go later false q h = later h

pub row_small : (w t x : List ℕ) (k : ℕ) {first n j : ℕ} {f : Option ℕ} → f ≡ row_named w t x first n → f ≡ Some j → Reads (first_word w k) first → Reads (rows_word w k) n → RowsWithin w k
    → j < 256
row_small w t x k {first} {n} {j} e q rf rr h = omega (arith, (named_within w t x first n j (sym e ∙ q)).1, rf.is, rr.is)

-- the row that has the name of source row j, in one word
pub named_code_lem : (ws ts wd td : List ℕ) (d j : ℕ) {first rows start len : ℕ} {f : Option ℕ} → Reads (first_word wd d) first → Reads (rows_word wd d) rows
    → Reads (row_word ws j 0) start → Reads (row_word ws j 1) len → f ≡ row_named wd td (bytes_at ts start len) first rows
    → row_code f ≡ row_code (row_named wd td (name_at ws ts j) (first_word wd d) (rows_word wd d))
named_code_lem ws ts wd td d j rf rr rs rl e = rw (← rf.is, ← rr.is, ← rs.is, ← rl.is, e)

-- ---- significant bits of symbols

valued_back : (s : Bool) (p r : ℕ) → r < 2 ^ p → bits_of p (valued s p r) ≡ r
valued_back false p r h = refl
valued_back true p r h = elim (dec_le (2 ^ (p - 1)) r) [ yes t ↦ rw (valued_high p r t) (omega arith) | no f ↦ rw (valued_low p r (lt_of_not-le f)) ]

-- bits that no symbol has
bits_missing : (w : List ℕ) (k raw : ℕ) → raw < 2 ^ (layout_at w k).precision
    → ((q : ℕ) → q < symbol_rows w k → bits_of (layout_at w k).precision (value_at w (first_word w k + q)) ≡ raw → ⊥) → number_row w k raw ≡ None
unfolding number_row
bits_missing w k raw h none = go (row_numbered w z (first_word w k) (symbol_rows w k)) refl
  where
    z : ℤ
    z = valued (layout_at w k).signed (layout_at w k).precision raw

    go : (f : Option ℕ) → row_numbered w z (first_word w k) (symbol_rows w k) ≡ f → f ≡ None
    go (Some j) e =
        let in_rows = numbered_within w z (first_word w k) (symbol_rows w k) j e in
        let at : first_word w k + (j - first_word w k) ≡ j = omega (arith, in_rows.0) in
        absurd
        (none (j - first_word w k) (omega (arith, in_rows.0, in_rows.1))
        (rw (at, numbered_value w z (first_word w k) (symbol_rows w k) j e) (valued_back (layout_at w k).signed (layout_at w k).precision raw h)))
    go None e = refl

listed_bits : (l : Layout) (w t : List ℕ) (first n : ℕ) → 1 ≤ l.precision → Symbols l (symbols_at w t first n) → RowsIn w l.precision first n 0 (2 ^ l.precision)
unfolding symbols_at
listed_bits l w t first zero some h q low = absurd (omega arith)
listed_bits l w t first (suc n) some h q low =
    ⊎_elim
    (λ (e : q ≡ n). rw e (omega arith, rw (ap (λ (f : Fitted). f.raw) (inside_bits l (value_at w (first + n)) h.0.in_range)) (fitted_lt l.signed l.precision (value_at w (first + n)) some)))
    (λ (less : q < n). listed_bits l w t first n some h.1 q less)
    (eq-or-lt_of_le (omega arith))

listed_back : (l : Layout) (w t : List ℕ) (first n : ℕ) → 1 ≤ l.precision → Symbols l (symbols_at w t first n) → RowsBack w l first n
unfolding symbols_at
listed_back l w t first zero some h q low = absurd (omega arith)
listed_back l w t first (suc n) some h q low =
    ⊎_elim
    (λ (e : q ≡ n).
    rw e
    (ap (λ (f : Fitted). valued l.signed l.precision f.raw) (inside_bits l (value_at w (first + n)) h.0.in_range)
    ∙ fitted_back l.signed l.precision (value_at w (first + n)) some h.0.in_range))
    (λ (less : q < n). listed_back l w t first n some h.1 q less)
    (eq-or-lt_of_le (omega arith))

pub symbols_formed : (ws ts wd td : List ℕ) (s d : ℕ) → PairFormed ws ts wd td s d → SymbolsFormed ws s
unfolding symbol_rows
symbols_formed ws ts wd td s d f =
    let v = leaf_valid ws ts s f.source in
    record { within = f.source_rows; some = v.some; most = v.most; bits = in_range (eqb (class_word ws s) 2) refl; numbers = back (eqb (class_word ws s) 2) refl }
  where
    listed : eqb (class_word ws s) 2 ≡ true → Symbols (layout_at ws s) (symbols_at ws ts (first_word ws s) (rows_word ws s))
    listed e = (subst WellFormedLeaf (leaf_enum ws ts s (eqb-true (class_word ws s) 2 e)) f.source).symbols

    in_range : (b : Bool) → eqb (class_word ws s) 2 ≡ b → RowsIn ws (layout_at ws s).precision (first_word ws s) (cond b (rows_word ws s) 0) 0 (2 ^ (layout_at ws s).precision)
    in_range true e = listed_bits (layout_at ws s) ws ts (first_word ws s) (rows_word ws s) (leaf_valid ws ts s f.source).some (listed e)
    in_range false e = λ q low. absurd (omega arith)

    back : (b : Bool) → eqb (class_word ws s) 2 ≡ b → RowsBack ws (layout_at ws s) (first_word ws s) (cond b (rows_word ws s) 0)
    back true e = listed_back (layout_at ws s) ws ts (first_word ws s) (rows_word ws s) (leaf_valid ws ts s f.source).some (listed e)
    back false e = λ q low. absurd (omega arith)

pub pair_valid : (ws ts wd td : List ℕ) (s d : ℕ) → PairFormed ws ts wd td s d → Valid (layout_at ws s) × Valid (layout_at wd d)
pair_valid ws ts wd td s d f = (leaf_valid ws ts s f.source, leaf_valid wd td d f.destination)

-- ---- the span of a type's symbols

-- one row more
pub rows_more : (w : List ℕ) (p first n : ℕ) {low end low' end' b : ℕ} → RowsIn w p first n low end → b ≡ bits_of p (value_at w (first + n)) → low' ≡ min low b → end' ≡ max end (b + 1)
    → RowsIn w p first (n + 1) low' end'
rows_more w p first n {low} {end} {low'} {end'} all e el ee =
    below_more (λ (q : ℕ). (low' ≤ bits_of p (value_at w (first + q))) × (bits_of p (value_at w (first + q)) < end')) n
    (λ q h. (omega (arith, (all q h).0), omega (arith, (all q h).1)))
    (omega arith, omega arith)

symbols_most : (w : List ℕ) (k : ℕ) → symbol_rows w k ≤ rows_word w k
unfolding symbol_rows
symbols_most w k = go (eqb (class_word w k) 2)
  where
    go : (b : Bool) → cond b (rows_word w k) 0 ≤ rows_word w k
    go true = le_refl (rows_word w k)
    go false = omega arith

-- the rows of type k, read by the code
module _ (w : List ℕ) (k : ℕ) {first rows : ℕ} {l : Layout} (rf : Reads (first_word w k) first) (rr : (rows ≡ symbol_rows w k) × (rows < 4294967296)) (el : l ≡ layout_at w k) where
  pub rows_asked : SymbolsFormed w k → l.precision ≤ 32 → (first + rows ≤ 256) × (l.precision ≤ 32) × RowsIn w l.precision first rows 0 (2 ^ l.precision)
  rows_asked f low = (omega (arith, f.within, rf.is, rr.0, symbols_most w k), low, rw (el, rf.is, rr.0) f.bits)

  module _ {low end : ℕ} (all : RowsIn w l.precision first rows low end) where
    told : RowsIn w (layout_at w k).precision (first_word w k) (symbol_rows w k) low end
    told = rw (← el, ← rf.is, ← rr.0) all

    pub span_some : (room bound : ℕ) {most : ℕ} → low ≤ end → end ≤ 2 ^ l.precision → most ≡ min room bound → end - low ≤ most → SpanOf w k room low (end - low)
    span_some room bound some inside e few =
        record {
          few = omega arith;
          inside = rw (← el) (omega arith);
          outside = λ raw h not. bits_missing w k raw h (λ q s e. not (omega (arith, (told q s).0)) (omega (arith, (told q s).1)));
        }

    pub span_none : (room : ℕ) → end ≤ low → SpanOf w k room 0 0
    span_none room none =
        record {
          few = omega arith;
          inside = omega arith;
          outside = λ raw h not. bits_missing w k raw h (λ q s e. omega (arith, (told q s).0, (told q s).1));
        }

-- ---- the words of a span

-- none is put
pub words_begin : (before : List ℕ) (base : ℕ) (value : ℕ → ℕ) → WordsPut before base 0 value before
words_begin before base value = record { each = λ q h. absurd (omega arith); below = λ j h. refl; above = λ j h. refl; long = refl }

-- one word more
pub words_more : (before : List ℕ) (base q : ℕ) (value : ℕ → ℕ) (mid : List ℕ) {v : ℕ} → WordsPut before base q value mid → base + q < length mid → v ≡ value q
    → WordsPut before base (q + 1) value (set mid (base + q) v)
words_more before base q value mid {v} p room e =
    record {
      each =
          below_more (λ (i : ℕ). get_or (set mid (base + q) v) (base + i) 0 ≡ value i) q
          (λ i h. get_or-set_other mid (base + q) (base + i) v 0 (λ g. omega (arith, g)) ∙ p.each i h)
          (get_or-set_same mid (base + q) v 0 room ∙ e);
      below = λ j h. get_or-set_other mid (base + q) j v 0 (λ g. omega (arith, g)) ∙ p.below j h;
      above = λ j h. get_or-set_other mid (base + q) j v 0 (λ g. omega (arith, g)) ∙ p.above j (omega arith);
      long = length-set mid (base + q) v ∙ p.long;
    }

pub words_all : (before : List ℕ) (base : ℕ) (value : ℕ → ℕ) (after : List ℕ) {q count : ℕ} → q ≤ count → count ≤ q → WordsPut before base q value after → WordsPut before base count value after
words_all before base value after {q} {count} most least p =
    let e : q ≡ count = omega arith in
    subst (λ (n : ℕ). WordsPut before base n value after) e p

-- put again, by what stands there
pub words_again : (before : List ℕ) (base count : ℕ) (was value : ℕ → ℕ) (mid after : List ℕ) {new : ℕ → ℕ} → WordsPut before base count was mid → WordsPut mid base count new after
    → ((q : ℕ) → q < count → get_or mid (base + q) 0 ≡ was q → new q ≡ value q) → WordsPut before base count value after
words_again before base count was value mid after p r same =
    record {
      each = λ q h. r.each q h ∙ same q h (p.each q h);
      below = λ j h. r.below j h ∙ p.below j h;
      above = λ j h. r.above j h ∙ p.above j h;
      long = r.long ∙ p.long;
    }

-- bits outside the span, and one of its bits
pub code_outside : (before : List ℕ) (base low count bits code : ℕ) → ((q : ℕ) → q < count → low + q ≡ bits → ⊥) → CodePut before base low count bits code before
code_outside before base low count bits code out =
    record { each = λ q h. rw (ne_eqb (low + q) bits (out q h)); below = λ j h. refl; above = λ j h. refl; long = refl }

pub code_inside : (before : List ℕ) (base low count bits code : ℕ) → base + count ≤ length before → low ≤ bits → bits - low < count
    → CodePut before base low count bits code (set before (base + (bits - low)) code)
code_inside before base low count bits code room least most =
    record {
      each = λ q h. here q h (eqb (low + q) bits) refl;
      below = λ j h. get_or-set_other before (base + (bits - low)) j code 0 (λ g. omega (arith, g));
      above = λ j h. get_or-set_other before (base + (bits - low)) j code 0 (λ g. omega (arith, g));
      long = length-set before (base + (bits - low)) code;
    }
  where
    here : (q : ℕ) → q < count → (b : Bool) → eqb (low + q) bits ≡ b → get_or (set before (base + (bits - low)) code) (base + q) 0 ≡ cond b code (get_or before (base + q) 0)
    here q h true e =
        let g = eqb-true (low + q) bits e in
        let at : base + q ≡ base + (bits - low) = omega (arith, g) in
        rw at (get_or-set_same before (base + (bits - low)) code 0 (omega arith))
    here q h false e = get_or-set_other before (base + (bits - low)) (base + q) code 0 (λ g. false≢true (sym e ∙ eq-eqb (low + q) bits (omega (arith, g))))

-- ---- the rows of a span, oldest first

-- bits stand for the number of a symbol exactly where they are its bits
number_tested : (w : List ℕ) (k q raw : ℕ) → SymbolsFormed w k → q < symbol_rows w k → raw < 2 ^ (layout_at w k).precision
    → same_number (valued (layout_at w k).signed (layout_at w k).precision raw) (value_at w (first_word w k + q)) ≡ eqb raw (bits_of (layout_at w k).precision (value_at w (first_word w k + q)))
number_tested w k q raw f low fits = go (eqb raw bits) refl
  where
    z : ℤ
    z = valued (layout_at w k).signed (layout_at w k).precision raw

    v : ℤ
    v = value_at w (first_word w k + q)

    bits : ℕ
    bits = bits_of (layout_at w k).precision v

    differ : (t : Bool) → same_number z v ≡ t → (raw ≡ bits → ⊥) → t ≡ false
    differ true e not =
        absurd (not (sym (valued_back (layout_at w k).signed (layout_at w k).precision raw fits) ∙ ap (bits_of (layout_at w k).precision) (sameNumber→eq z v e)))
    differ false e not = refl

    go : (b : Bool) → eqb raw bits ≡ b → same_number z v ≡ b
    go true e =
        let is : z ≡ v = ap (valued (layout_at w k).signed (layout_at w k).precision) (eqb-true raw bits e) ∙ f.numbers q low in
        ap (λ (y : ℤ). same_number y v) is ∙ sameNumber_refl v
    go false e = differ (same_number z v) refl (λ g. false≢true (sym e ∙ eq-eqb raw bits g))

-- no rows
pub among_none : (ws ts wd td : List ℕ) (s d raw : ℕ) → code_among ws ts wd td s d 0 raw ≡ 0
unfolding code_among row_numbered
among_none ws ts wd td s d raw = refl

-- one row more, whose bits and whose row in the destination are these
among_more : (ws ts wd td : List ℕ) (s d n raw : ℕ) → SymbolsFormed ws s → n < symbol_rows ws s → raw < 2 ^ (layout_at ws s).precision
    → cond (eqb raw (bits_of (layout_at ws s).precision (value_at ws (first_word ws s + n)))) (named_code ws ts wd td d (Some (first_word ws s + n))) (code_among ws ts wd td s d n raw)
    ≡ code_among ws ts wd td s d (n + 1) raw
unfolding code_among row_numbered
among_more ws ts wd td s d n raw f low fits =
    rw (add-one, ← number_tested ws s n raw f low fits) (go (same_number (valued (layout_at ws s).signed (layout_at ws s).precision raw) (value_at ws (first_word ws s + n))))
  where
    older : Option ℕ
    older = row_numbered ws (valued (layout_at ws s).signed (layout_at ws s).precision raw) (first_word ws s) n

    go : (b : Bool) → cond b (named_code ws ts wd td d (Some (first_word ws s + n))) (named_code ws ts wd td d older) ≡ named_code ws ts wd td d (cond b (Some (first_word ws s + n)) older)
    go true = refl
    go false = refl

-- all rows
pub among_all : (ws ts wd td : List ℕ) (s d raw : ℕ) → code_among ws ts wd td s d (symbol_rows ws s) raw ≡ translated_code ws ts wd td s d raw
unfolding code_among translated_code number_row
among_all ws ts wd td s d raw = refl

-- the rows of type s, read by the code, and its layout
module _ (ws ts wd td : List ℕ) (s d base low count : ℕ) {first rows : ℕ} {l : Layout} (rf : Reads (first_word ws s) first) (rr : (rows ≡ symbol_rows ws s) × (rows < 4294967296)) (el : l ≡ layout_at ws s) where
  pub symbols_begin : (before : List ℕ) → ((q : ℕ) → q < count → get_or before (base + q) 0 ≡ 0) → WordsPut before base count (λ q. code_among ws ts wd td s d 0 (low + q)) before
  symbols_begin before clear =
      record { each = λ q h. clear q h ∙ sym (among_none ws ts wd td s d (low + q)); below = λ j h. refl; above = λ j h. refl; long = refl }

  pub symbols_more : (before : List ℕ) (n : ℕ) (mid after : List ℕ) {bits code : ℕ} → SymbolsFormed ws s → low + count ≤ 2 ^ (layout_at ws s).precision → n < rows
      → WordsPut before base count (λ q. code_among ws ts wd td s d n (low + q)) mid → bits ≡ bits_of l.precision (value_at ws (first + n))
      → code ≡ row_code (row_named wd td (name_at ws ts (first + n)) (first_word wd d) (rows_word wd d)) → CodePut mid base low count bits code after
      → WordsPut before base count (λ q. code_among ws ts wd td s d (n + 1) (low + q)) after
  symbols_more before n mid after {bits} {code} f inside less p eb ec put =
      words_again before base count (λ q. code_among ws ts wd td s d n (low + q)) (λ q. code_among ws ts wd td s d (n + 1) (low + q)) mid after p put
      (λ q h is.
      rw (is, eb, ec, el, rf.is) (among_more ws ts wd td s d n (low + q) f (omega (arith, rr.0)) (omega arith)))

  pub symbols_all : (before after : List ℕ) {n : ℕ} → n ≤ rows → rows ≤ n → WordsPut before base count (λ q. code_among ws ts wd td s d n (low + q)) after → SpanPut before base low count ws ts wd td s d after
  symbols_all before after {n} most least p =
      let e : n ≡ symbol_rows ws s = omega (arith, rr.0) in
      record { each = λ q h. p.each q h ∙ rw e (among_all ws ts wd td s d (low + q)); below = p.below; above = p.above; long = p.long }

-- ---- the words of an entry, kept or copied

both : (a b : Bool) → (a && b) ≡ true → (a ≡ true) × (b ≡ true)
both true b h = (refl, h)
both false b h = absurd (false≢true h)

enum_moved : (l m : Layout) (v w : List ℕ) (k h : ℕ) → get_or v k 0 ≡ get_or w h 0 → EnumAt l m w h → EnumAt l m v k
enum_moved l m v w k h first e =
    record {
      source = e.source;
      destination = e.destination;
      lowest = e.lowest;
      whole = e.whole;
      order = ap route_in first ∙ e.order;
      shift = ap shift_in first ∙ e.shift;
      precision = ap precision_in first ∙ e.precision;
      size = ap size_in first ∙ e.size;
      destination_order = ap order_in first ∙ e.destination_order;
      bits = ap bits_in first ∙ e.bits;
    }

real_moved : (l m : Layout) (real : Bool) (v w : List ℕ) (k h : ℕ) → get_or v k 0 ≡ get_or w h 0 → get_or v (k + 1) 0 ≡ get_or w (h + 1) 0 → get_or v (k + 2) 0 ≡ get_or w (h + 2) 0
    → get_or v (k + 3) 0 ≡ get_or w (h + 3) 0 → RealAt l m real w h → RealAt l m real v k
real_moved l m real v w k h first second third fourth e =
    record {
      source = e.source;
      destination = e.destination;
      lowest = e.lowest;
      whole = e.whole;
      shift = ap shift_in first ∙ e.shift;
      precision = ap precision_in first ∙ e.precision;
      size = ap size_in first ∙ e.size;
      destination_order = ap order_in first ∙ e.destination_order;
      bits = ap bits_in first ∙ e.bits;
      order = second ∙ e.order;
      from = ap flag_of third ∙ e.from;
      sign = ap flag_of fourth ∙ e.sign;
    }

-- what stands from word h of w on stands from word k of v on, where the entry's words are the same, and the words of spans
module _ (v w : List ℕ) (k h start free : ℕ) (same : (q : ℕ) → q < 4 → get_or v (k + q) 0 ≡ get_or w (h + q) 0) (kept : (j : ℕ) → start ≤ j → j < free → get_or v j 0 ≡ get_or w j 0) where
  first : get_or v k 0 ≡ get_or w h 0
  first =
      let a : k + 0 ≡ k = omega arith in
      let b : h + 0 ≡ h = omega arith in
      rw (a, b) at (same 0 (omega arith))

  span_moved : (raw : ℕ) → (start ≤ get_or w (h + 3) 0) × (get_or w (h + 3) 0 + get_or w (h + 2) 0 ≤ free) → span_code v k raw ≡ span_code w h raw
  unfolding span_code
  span_moved raw inside =
      rw (same 1 (omega arith), same 2 (omega arith), same 3 (omega arith))
      (go (leb (get_or w (h + 1) 0) raw && ltb (raw - get_or w (h + 1) 0) (get_or w (h + 2) 0)) refl)
    where
      go : (t : Bool) → (leb (get_or w (h + 1) 0) raw && ltb (raw - get_or w (h + 1) 0) (get_or w (h + 2) 0)) ≡ t
          → cond t (get_or v (get_or w (h + 3) 0 + (raw - get_or w (h + 1) 0)) 0) 0 ≡ cond t (get_or w (get_or w (h + 3) 0 + (raw - get_or w (h + 1) 0)) 0) 0
      go true e =
          let low = ltb-true (raw - get_or w (h + 1) 0) (get_or w (h + 2) 0) (both (leb (get_or w (h + 1) 0) raw) (ltb (raw - get_or w (h + 1) 0) (get_or w (h + 2) 0)) e).1 in
          kept (get_or w (h + 3) 0 + (raw - get_or w (h + 1) 0)) (omega (arith, inside.0)) (omega (arith, inside.1, low))
      go false e = refl

  pub standing_moved : (ws ts wd td : List ℕ) (s d : ℕ) → Standing w h start free ws ts wd td s d → Standing v k start free ws ts wd td s d
  standing_moved ws ts wd td s d x =
      record {
        entry =
            record {
              plain = λ low. x.entry.plain (rw first at low);
              alike = λ low. x.entry.alike (rw first at low);
              mixed = λ is. x.entry.mixed (rw first at is);
              real =
                  λ is some.
                  real_moved (layout_at ws s) (layout_at wd d) (is_real ws s) v w k h first (same 1 (omega arith)) (same 2 (omega arith)) (same 3 (omega arith))
                  (x.entry.real (rw first at is) (rw (same 1 (omega arith)) at some));
              easy = λ some low. rw (first, same 1 (omega arith), same 2 (omega arith)) (x.entry.easy (rw first at some) (rw first at low));
              enum = λ high. x.entry.enum (rw first at high);
              fast = λ high low. enum_moved (layout_at ws s) (layout_at wd d) v w k h first (x.entry.fast (rw first at high) (rw first at low));
              span =
                  λ high low.
                  let g = x.entry.span (rw first at high) (rw first at low) in
                  record {
                    is = λ raw fits. span_moved raw (x.bounds (rw first at high) (rw first at low)) ∙ g.is raw fits;
                    high = rw (same 3 (omega arith)) g.high;
                  };
            };
        bounds = λ high low. rw (same 2 (omega arith), same 3 (omega arith)) (x.bounds (rw first at high) (rw first at low));
      }

standing_wider : (w : List ℕ) (k start free start' free' : ℕ) (ws ts wd td : List ℕ) (s d : ℕ) → start' ≤ start → free ≤ free' → Standing w k start free ws ts wd td s d
    → Standing w k start' free' ws ts wd td s d
standing_wider w k start free start' free' ws ts wd td s d hs hf x =
    record { entry = x.entry; bounds = λ high low. let b = x.bounds high low in (omega (arith, b.0), omega (arith, b.1)) }

-- ---- the words of one entry are put

put_by : (w : List ℕ) (xs : List ℕ) (k q : ℕ) → length xs ≡ 4 → k + 4 ≤ length w → q < 4 → get_or (with_words w k xs) (k + q) 0 ≡ get_or xs q 0
put_by w xs k q e room low = words_at_lem xs w k q (omega (arith, e)) (omega (arith, e))

put_first : (w : List ℕ) (a : ℕ) (xs : List ℕ) (k : ℕ) → length (a ∷ xs) ≡ 4 → k + 4 ≤ length w → get_or (with_words w k (a ∷ xs)) k 0 ≡ a
put_first w a xs k e room =
    let z : k + 0 ≡ k = omega arith in
    rw z at (put_by w (a ∷ xs) k 0 e room (omega arith))

easy_four : (l m : Layout) → length (easy_words l m) ≡ 4
easy_four l m = go (valid l && (valid m && easy l m))
  where
    go : (t : Bool) → length (cond t (words_of l m) (replicate 4 0)) ≡ 4
    go true = refl
    go false = refl

-- one of two types is a real, by their classes
pub one_from : (ws : List ℕ) (s : ℕ) (wd : List ℕ) (d : ℕ) {from to : ℕ} → Reads (class_word ws s) from → Reads (class_word wd d) to → from ≡ 5 → not (eqb to 5) ≡ one_real ws s wd d
unfolding one_real
one_from ws s wd d rf rt e = rw (← rf.is, ← rt.is, eq-eqb _ 5 e)

pub one_to : (ws : List ℕ) (s : ℕ) (wd : List ℕ) (d : ℕ) {from to : ℕ} → Reads (class_word ws s) from → Reads (class_word wd d) to → (from ≡ 5 → ⊥) → eqb to 5 ≡ one_real ws s wd d
unfolding one_real
one_to ws s wd d rf rt e = rw (← rf.is, ← rt.is, ne_eqb _ 5 e)

-- two leaves of one kind, or an int beside bits, none an enum
put_alike : (before : List ℕ) (k free : ℕ) (ws ts wd td : List ℕ) (s d : ℕ) {after : List ℕ} → EntryRoom (length before) k free → (class_word wd d ≡ 2 → ⊥) → one_real ws s wd d ≡ false
    → after ≡ with_words before k (easy_words (layout_at ws s) (layout_at wd d)) → EntryPut before k free free ws ts wd td s d after free
put_alike before k free ws ts wd td s d room not alike h =
    let fits : k + 4 ≤ length before = omega (arith, room.before, room.within) in
    let route = easy_route (layout_at ws s) (layout_at wd d) before k fits in
    rw h (record {
      here =
          record {
            entry =
                record {
                  plain = λ low. not;
                  alike = λ low. alike;
                  mixed = λ is. absurd (omega (arith, route));
                  real = λ is some. absurd (omega (arith, route));
                  easy = λ some low. easy_stands (layout_at ws s) (layout_at wd d) before k fits (λ z. omega (arith, z));
                  enum = λ high. absurd (omega (arith, route));
                  fast = λ high low. absurd (omega (arith, route));
                  span = λ high low. absurd (omega (arith, route));
                };
            bounds = λ high low. absurd (omega (arith, route));
          };
      grows = le_refl free;
      below = λ j low. words_below (easy_words (layout_at ws s) (layout_at wd d)) before k j low;
      between = λ j high low. words_above (easy_words (layout_at ws s) (layout_at wd d)) before k j (rw (easy_four (layout_at ws s) (layout_at wd d)) high);
      long = words_length (easy_words (layout_at ws s) (layout_at wd d)) before k;
    })

route_three : route_in 3 ≡ 3
unfolding route_in
route_three = omega arith

-- the words of a real and another leaf
real_four : (l m : Layout) (real : Bool) → length (real_words l m real) ≡ 4
unfolding real_words
real_four l m real = go (eqb m.offset.0 0 && eqb m.precision (8 * m.size.0))
  where
    go : (t : Bool) → length (cond t (whole_words l m real) (3 ∷ 0 ∷ 0 ∷ 0 ∷ [])) ≡ 4
    go true = refl
    go false = refl

real_stands : (l m : Layout) (real : Bool) → Valid l → Valid m → (route_in (get_or (real_words l m real) 0 0) ≡ 3) × (1 ≤ get_or (real_words l m real) 1 0 → RealAt l m real (real_words l m real) 0)
unfolding real_words
real_stands l m real v u = go (eqb m.offset.0 0 && eqb m.precision (8 * m.size.0)) refl
  where
    go : (t : Bool) → (eqb m.offset.0 0 && eqb m.precision (8 * m.size.0)) ≡ t
        → (route_in (get_or (cond t (whole_words l m real) (3 ∷ 0 ∷ 0 ∷ 0 ∷ [])) 0 0) ≡ 3)
        × (1 ≤ get_or (cond t (whole_words l m real) (3 ∷ 0 ∷ 0 ∷ 0 ∷ [])) 1 0 → RealAt l m real (cond t (whole_words l m real) (3 ∷ 0 ∷ 0 ∷ 0 ∷ [])) 0)
    go true e =
        let r : 3 < 8 = omega arith in
        let s = shift_small l.order l.size.0 l.offset.0 l.precision v.sized v.some v.inside in
        let p : l.precision < 128 = omega (arith, v.most) in
        let z : m.size.0 < 16 = omega (arith, u.sized) in
        let o : order_code m.order < 2 = omega (arith, order_small m.order) in
        let b = both (eqb m.offset.0 0) (eqb m.precision (8 * m.size.0)) e in (
          route_back _ _ _ _ _ m.precision r s p z o,
          λ some.
              record {
                source = v;
                destination = u;
                lowest = eqb-true m.offset.0 0 b.0;
                whole = eqb-true m.precision (8 * m.size.0) b.1;
                shift = shift_back _ _ _ _ _ m.precision r s p z o;
                precision = precision_back _ _ _ _ _ m.precision r s p z o;
                size = size_back _ _ _ _ _ m.precision r s p z o;
                destination_order = order_back _ _ _ _ _ m.precision r s p z o;
                bits = bits_back _ _ _ _ _ m.precision r s p z o;
                order = refl;
                from = flag_back real;
                sign = flag_back (cond real m.signed l.signed);
              },
        )
    go false e = (route_three, λ some. absurd (omega (arith, some)))

-- a real and another leaf
put_mixed : (before : List ℕ) (k free : ℕ) (ws ts wd td : List ℕ) (s d : ℕ) {after : List ℕ} → EntryRoom (length before) k free → (class_word wd d ≡ 2 → ⊥) → one_real ws s wd d ≡ true
    → (xs : List ℕ) → length xs ≡ 4 → (route_in (get_or xs 0 0) ≡ 3) × (1 ≤ get_or xs 1 0 → RealAt (layout_at ws s) (layout_at wd d) (is_real ws s) xs 0)
    → after ≡ with_words before k xs → EntryPut before k free free ws ts wd td s d after free
put_mixed before k free ws ts wd td s d room not mixed xs four stands h =
    let fits : k + 4 ≤ length before = omega (arith, room.before, room.within) in
    let word : (q : ℕ) → q < 4 → get_or (with_words before k xs) (k + q) 0 ≡ get_or xs q 0 = λ q low. put_by before xs k q four fits low in
    let z : k + 0 ≡ k = omega arith in
    let first : get_or (with_words before k xs) k 0 ≡ get_or xs 0 0 = rw z at (word 0 (omega arith)) in
    let route : route_in (get_or (with_words before k xs) k 0) ≡ 3 = ap route_in first ∙ stands.0 in
    rw h (record {
      here =
          record {
            entry =
                record {
                  plain = λ low. not;
                  alike = λ low. absurd (omega (arith, route));
                  mixed = λ is. mixed;
                  real =
                      λ is some.
                      real_moved (layout_at ws s) (layout_at wd d) (is_real ws s) (with_words before k xs) xs k 0 first (word 1 (omega arith)) (word 2 (omega arith)) (word 3 (omega arith))
                      (stands.1 (rw (word 1 (omega arith)) at some));
                  easy = λ some low. absurd (omega (arith, route));
                  enum = λ high. absurd (omega (arith, route));
                  fast = λ high low. absurd (omega (arith, route));
                  span = λ high low. absurd (omega (arith, route));
                };
            bounds = λ high low. absurd (omega (arith, route));
          };
      grows = le_refl free;
      below = λ j low. words_below xs before k j low;
      between = λ j high low. words_above xs before k j (rw four high);
      long = words_length xs before k;
    })

-- a destination that is no enum
pub put_plain : (before : List ℕ) (k free : ℕ) (ws ts wd td : List ℕ) (s d : ℕ) {after : List ℕ} {c : ℕ} → EntryRoom (length before) k free → PairFormed ws ts wd td s d → Reads (class_word wd d) c
    → (c ≡ 2 → ⊥) → after ≡ with_words before k (plain_words ws s wd d) → EntryPut before k free free ws ts wd td s d after free
unfolding plain_words
put_plain before k free ws ts wd td s d {after} room formed rc not h = go (one_real ws s wd d) refl h
  where
    no_enum : class_word wd d ≡ 2 → ⊥
    no_enum is = not (rc.is ∙ is)

    valid_both : Valid (layout_at ws s) × Valid (layout_at wd d)
    valid_both = pair_valid ws ts wd td s d formed

    go : (t : Bool) → one_real ws s wd d ≡ t → after ≡ with_words before k (cond t (real_words (layout_at ws s) (layout_at wd d) (is_real ws s)) (easy_words (layout_at ws s) (layout_at wd d)))
        → EntryPut before k free free ws ts wd td s d after free
    go true e g =
        put_mixed before k free ws ts wd td s d room no_enum e (real_words (layout_at ws s) (layout_at wd d) (is_real ws s)) (real_four (layout_at ws s) (layout_at wd d) (is_real ws s))
        (real_stands (layout_at ws s) (layout_at wd d) (is_real ws s) valid_both.0 valid_both.1) g
    go false e g = put_alike before k free ws ts wd td s d room no_enum e g

-- an enum whose rows are looked through
pub put_looked : (before : List ℕ) (k free : ℕ) (ws ts wd td : List ℕ) (s d : ℕ) {after : List ℕ} → EntryRoom (length before) k free → class_word wd d ≡ 2
    → after ≡ with_words before k (7 ∷ 0 ∷ 0 ∷ 0 ∷ []) → EntryPut before k free free ws ts wd td s d after free
unfolding route_in
put_looked before k free ws ts wd td s d room is h =
    let fits : k + 4 ≤ length before = omega (arith, room.before, room.within) in
    let route : route_in (get_or (with_words before k (7 ∷ 0 ∷ 0 ∷ 0 ∷ [])) k 0) ≡ 7 = rw (put_first before 7 (0 ∷ 0 ∷ 0 ∷ []) k refl fits) in
    rw h (record {
      here =
          record {
            entry =
                record {
                  plain = λ low. absurd (omega (arith, route));
                  alike = λ low. absurd (omega (arith, route));
                  mixed = λ is. absurd (omega (arith, route));
                  real = λ is some. absurd (omega (arith, route));
                  easy = λ some low. absurd (omega (arith, route));
                  enum = λ high. is;
                  fast = λ high low. absurd (omega (arith, route));
                  span = λ high low. absurd (omega (arith, route));
                };
            bounds = λ high low. absurd (omega (arith, route));
          };
      grows = le_refl free;
      below = λ j low. words_below (7 ∷ 0 ∷ 0 ∷ 0 ∷ []) before k j low;
      between = λ j high low. words_above (7 ∷ 0 ∷ 0 ∷ 0 ∷ []) before k j high;
      long = words_length (7 ∷ 0 ∷ 0 ∷ 0 ∷ []) before k;
    })

-- significant bits by the words of a span
module _ (words : List ℕ) (k room low count base : ℕ) (ws ts wd td : List ℕ) (s d : ℕ) (el : get_or words (k + 1) 0 ≡ low) (ec : get_or words (k + 2) 0 ≡ count) (eb : get_or words (k + 3) 0 ≡ base)
    (of : SpanOf ws s room low count) (each : (q : ℕ) → q < count → get_or words (base + q) 0 ≡ translated_code ws ts wd td s d (low + q)) where
  span_code_lem : (raw : ℕ) → raw < 2 ^ (layout_at ws s).precision → span_code words k raw ≡ translated_code ws ts wd td s d raw
  unfolding span_code translated_code
  span_code_lem raw fits = rw (el, ec, eb) (go (leb low raw && ltb (raw - low) count) refl)
    where
      go : (t : Bool) → (leb low raw && ltb (raw - low) count) ≡ t → cond t (get_or words (base + (raw - low)) 0) 0 ≡ translated_code ws ts wd td s d raw
      go true e =
          let b = both (leb low raw) (ltb (raw - low) count) e in
          let l = leb-true low raw b.0 in
          let at : low + (raw - low) ≡ raw = omega (arith, l) in
          rw at at (each (raw - low) (ltb-true (raw - low) count b.1))
      go false e =
          let not : low ≤ raw → raw < low + count → ⊥ =
          λ a b.
          let t : (leb low raw && ltb (raw - low) count) ≡ true = rw (le-leb low raw a, lt-ltb (raw - low) count (omega arith)) in
          false≢true (sym e ∙ t)
          in
          rw (of.outside raw fits not)

-- there is room for the span of an entry whose words are put
pub span_asked : (before : List ℕ) (k free : ℕ) (xs ws ts wd td : List ℕ) (s d : ℕ) {mid : List ℕ} {low count : ℕ} → EntryRoom (length before) k free → PairFormed ws ts wd td s d
    → SpanOf ws s (length before - free) low count → mid ≡ with_words before k xs
    → SymbolsFormed ws s × RowsWithin wd d × (low + count ≤ 2 ^ (layout_at ws s).precision) × (free + count ≤ length mid)
span_asked before k free xs ws ts wd td s d {mid} room f of hm =
    let long : length mid ≡ length before = rw hm (words_length xs before k) in
    (symbols_formed ws ts wd td s d f, f.destination_rows, of.inside, omega (arith, of.few, room.within))

-- an enum that goes by its span
pub put_spanned : (before : List ℕ) (k free : ℕ) (ws ts wd td : List ℕ) (s d : ℕ) {mid after : List ℕ} {code n low count : ℕ} → EntryRoom (length before) k free → class_word wd d ≡ 2
    → SpanWord (layout_at ws s) (layout_at wd d) code → SpanOf ws s n low count → mid ≡ with_words before k (code ∷ low ∷ count ∷ free ∷ []) → SpanPut mid free low count ws ts wd td s d after
    → EntryPut before k free free ws ts wd td s d after (free + count)
put_spanned before k free ws ts wd td s d {mid} {after} {code} {n} {low} {count} room is packs of hm put =
    let fits : k + 4 ≤ length before = omega (arith, room.before, room.within) in
    let word : (q : ℕ) → q < 4 → get_or after (k + q) 0 ≡ get_or (code ∷ low ∷ count ∷ free ∷ []) q 0 =
    λ q h. put.below (k + q) (omega (arith, room.before)) ∙ rw hm (put_by before (code ∷ low ∷ count ∷ free ∷ []) k q refl fits h)
    in
    let z : k + 0 ≡ k = omega arith in
    let first : get_or after k 0 ≡ code = rw z at (word 0 (omega arith)) in
    record {
      here =
          record {
            entry =
                record {
                  plain = λ less. absurd (omega (arith, packs.least, rw first at less));
                  alike = λ less. absurd (omega (arith, packs.least, rw first at less));
                  mixed = λ is. absurd (omega (arith, packs.least, rw first at is));
                  real = λ is some. absurd (omega (arith, packs.least, rw first at is));
                  easy = λ some less. absurd (omega (arith, packs.least, rw first at less));
                  enum = λ more. is;
                  fast = λ more less. enum_moved (layout_at ws s) (layout_at wd d) after (code ∷ []) k 0 first (packs.fast (rw first at less));
                  span =
                      λ more less.
                      record {
                        is = span_code_lem after k n low count free ws ts wd td s d (word 1 (omega arith)) (word 2 (omega arith)) (word 3 (omega arith)) of put.each;
                        high = rw (word 3 (omega arith)) room.high;
                      };
                };
            bounds = λ more less. rw (word 2 (omega arith), word 3 (omega arith)) (le_refl free, le_refl (free + count));
          };
      grows = omega arith;
      below = λ j h. put.below j (omega (arith, room.before)) ∙ rw hm (words_below (code ∷ low ∷ count ∷ free ∷ []) before k j h);
      between = λ j a b. put.below j b ∙ rw hm (words_above (code ∷ low ∷ count ∷ free ∷ []) before k j a);
      long = put.long ∙ rw hm (words_length (code ∷ low ∷ count ∷ free ∷ []) before k);
    }

-- ---- the packed word of two enums

pub word_slow : (l m : Layout) → SpanWord l m 6
unfolding route_in
word_slow l m = record { least = omega arith; most = omega arith; fast = λ h. absurd (omega arith) }

word_fast : (l m : Layout) → Valid l → Valid m → m.offset.0 ≡ 0 → m.precision ≡ 8 * m.size.0
    → SpanWord l m (packed (4 + order_code l.order) (shift_of l.order l.size.0 l.offset.0) l.precision m.size.0 (order_code m.order) m.precision)
word_fast l m v u lowest whole =
    let route = order_small l.order in
    let r : 4 + order_code l.order < 8 = omega arith in
    let s = shift_small l.order l.size.0 l.offset.0 l.precision v.sized v.some v.inside in
    let p : l.precision < 128 = omega (arith, v.most) in
    let z : m.size.0 < 16 = omega (arith, u.sized) in
    let o : order_code m.order < 2 = omega (arith, order_small m.order) in
    let back = route_back _ _ _ _ _ m.precision r s p z o in
    record {
      least = omega (arith, back);
      most = omega (arith, back);
      fast =
          λ h.
          record {
            source = v;
            destination = u;
            lowest = lowest;
            whole = whole;
            order = back;
            shift = shift_back _ _ _ _ _ m.precision r s p z o;
            precision = precision_back _ _ _ _ _ m.precision r s p z o;
            size = size_back _ _ _ _ _ m.precision r s p z o;
            destination_order = order_back _ _ _ _ _ m.precision r s p z o;
            bits = bits_back _ _ _ _ _ m.precision r s p z o;
          };
    }

pub word_read : (ws wd : List ℕ) (s d : ℕ) {l m : Layout} {code : ℕ} → Valid (layout_at ws s) × Valid (layout_at wd d) → l ≡ layout_at ws s → m ≡ layout_at wd d → m.offset.0 ≡ 0
    → m.precision ≡ 8 * m.size.0
    → code ≡ packed (4 + order_code l.order) (shift_of l.order l.size.0 l.offset.0) l.precision m.size.0 (order_code m.order) m.precision
    → SpanWord (layout_at ws s) (layout_at wd d) code
word_read ws wd s d {l} {m} v el em lowest whole h = rw (h, ← el, ← em) (word_fast l m (rw el v.0) (rw em v.1) lowest whole)

-- ---- the words of entries

four : (w : List ℕ) (k q : ℕ) → q < 4 → get_or (get_or w k 0 ∷ get_or w (k + 1) 0 ∷ get_or w (k + 2) 0 ∷ get_or w (k + 3) 0 ∷ []) q 0 ≡ get_or w (k + q) 0
four w k zero h =
    let z : k + 0 ≡ k = omega arith in
    rw z
four w k (suc zero) h = refl
four w k (suc (suc zero)) h = refl
four w k (suc (suc (suc zero))) h = refl
four w k (suc (suc (suc (suc q)))) h = absurd (omega arith)

-- entry i has the words of entry h, which is before it and has the same types
pub put_copied : (before plan : List ℕ) (h i start free : ℕ) (ws ts wd td : List ℕ) {after : List ℕ} → h < i → get_or plan (2 * h + 1) 0 ≡ get_or plan (2 * i + 1) 0 → words_place i + 4 ≤ start
    → start ≤ length before → AllStanding before plan i start free ws ts wd td
    → after ≡ with_words before (words_place i) (get_or before (words_place h) 0 ∷ get_or before (words_place h + 1) 0 ∷ get_or before (words_place h + 2) 0 ∷ get_or before (words_place h + 3) 0 ∷ [])
    → EntryPut before (words_place i) start free ws ts wd td (source_type_of plan i) (destination_type_of plan i) after free
unfolding source_type_of destination_type_of
put_copied before plan h i start free ws ts wd td {after} low types room long all e =
    let xs : List ℕ = get_or before (words_place h) 0 ∷ get_or before (words_place h + 1) 0 ∷ get_or before (words_place h + 2) 0 ∷ get_or before (words_place h + 3) 0 ∷ [] in
    let above : (j : ℕ) → words_place i + 4 ≤ j → get_or after j 0 ≡ get_or before j 0 = λ j a. rw e (words_above xs before (words_place i) j a) in
    record {
      here =
          standing_moved after before (words_place i) (words_place h) start free
          (λ q less. rw e (put_by before xs (words_place i) q refl (omega arith) less ∙ four before (words_place h) q less))
          (λ j a b. above j (omega arith))
          ws ts wd td (source_type_of plan i) (destination_type_of plan i) (rw types at (all h low));
      grows = le_refl free;
      below = λ j a. rw e (words_below xs before (words_place i) j a);
      between = λ j a b. above j a;
      long = rw e (words_length xs before (words_place i));
    }

-- an entry whose span is the first behind `free`
pub put_behind : (before : List ℕ) (k start free : ℕ) (ws ts wd td : List ℕ) (s d : ℕ) {after : List ℕ} {next : ℕ} → start ≤ free → EntryPut before k free free ws ts wd td s d after next
    → EntryPut before k start free ws ts wd td s d after next
put_behind before k start free ws ts wd td s d {after} {next} low p =
    record {
      here = standing_wider after k free next start next ws ts wd td s d low (le_refl next) p.here;
      grows = p.grows;
      below = p.below;
      between = p.between;
      long = p.long;
    }

-- one entry more
pub entries_more : (before plan : List ℕ) (i start free : ℕ) (ws ts wd td after : List ℕ) (next : ℕ) → words_place i + 4 ≤ start → AllStanding before plan i start free ws ts wd td
    → EntryPut before (words_place i) start free ws ts wd td (source_type_of plan i) (destination_type_of plan i) after next → AllStanding after plan (i + 1) start next ws ts wd td
entries_more before plan i start free ws ts wd td after next room all p =
    below_more (λ (j : ℕ). Standing after (words_place j) start next ws ts wd td (source_type_of plan j) (destination_type_of plan j)) i
    (λ j low.
    standing_wider after (words_place j) start free start next ws ts wd td (source_type_of plan j) (destination_type_of plan j) (le_refl start) p.grows
    (standing_moved after before (words_place j) (words_place j) start free (λ q less. p.below (words_place j + q) (omega arith)) (λ q a b. p.between q (omega arith) b) ws ts wd td
    (source_type_of plan j) (destination_type_of plan j) (all j low)))
    p.here

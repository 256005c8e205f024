-- Tables side by side: one is made, and the others stay. Assumes nothing.
use mathlib.Core.Path.{◌≡◌, refl, sym, ap, subst, ◌∙◌}
use mathlib.Core.Logic.{◌⊎◌, ⊎_elim, inl, inr}
use mathlib.Core.List.{List, ◌++◌}
use Prim.Native.Nat.{ℕ, ◌+◌, ◌*◌, ◌-◌, ◌≤◌, ◌<◌}
use native.Mathlib.Decide.{dec_le}
use native.Mathlib.Nat.{lt_of_not-le, eq-or-lt_of_le, le_of_suc-le-suc, le_trans}
use native.Mathlib.Numerals.{add-one}
use native.Mathlib.Omega.{arith}
use borrow.Author.Tests.{le-ltb}
use borrow.Rule.Slice.PartMut.{put_mid}
use lib.ListN.{length, get_or, take, drop, replicate, get_or-replicate, length-replicate, length-drop}
use lib.Seq.{get_or-take, get_or-drop, drop-drop, length-take-le}
use Rattle.layout.specs.Layout.{Valid}
use Rattle.table.specs.Table.{type_word, layout_at}
use Rattle.entry_code.specs.Code.{route_in}
use Rattle.loops.specs.Steps.{put}
use Rattle.loops.proofs.Lists.{put_take, put_drop, put_here, put_length, part_agree}
use Rattle.symbol_tables.specs.Symbols.{SymbolsKept}
use Rattle.plans.specs.declared.PlanEntry.{PlanEntry}
use Rattle.plans.specs.PlanWords.{source_type_of, destination_type_of, words_place, Pair, Ready}
use Rattle.plans.specs.PlanEntries.{words_at}
use Rattle.plans.proofs.LeafSteps.{pair_valid}
use Rattle.blocks.proofs.Over.{entry_pair}
use Rattle.symbol_slots.specs.Tables.{table_in, TablesKept, HasTable, HasColumn, Columned}

-- a type that has a valid layout is one of the table's
pub type_few : (w : List ℕ) (k : ℕ) → Valid (layout_at w k) → k < 64
unfolding layout_at type_word
type_few w k v =
    elim (dec_le 64 k) [
      | yes h ↦ absurd (omega (arith, rw (le-ltb k 64 h) at v.some))
      | no f ↦ lt_of_not-le f
    ]

-- ---- a part of 544 words that is lent

pub part_is : (a : ℕ) (l : List ℕ) → take (a + 544 - a) (drop a l) ≡ take 544 (drop a l)
part_is a l = let e : a + 544 - a ≡ 544 = omega arith in rw e

pub back_is : (a : ℕ) (l e : List ℕ) → put_mid a (a + 544 - a) l e ≡ put a 544 e l
back_is a l e = let k : a + 544 - a ≡ 544 = omega arith in rw (k, drop-drop)

pub first_word : (tables : List ℕ) (j : ℕ) → get_or (table_in tables j) 0 0 ≡ get_or tables (544 * j) 0
first_word tables j =
    let e : 544 * j + 0 ≡ 544 * j = omega arith in
    get_or-take 544 (drop (544 * j) tables) 0 0 (omega arith) ∙ get_or-drop (544 * j) tables 0 0 ∙ ap (λ (k : ℕ). get_or tables k 0) e

-- none of the first j + 1 tables has x for its word 0
pub none_more : (tables : List ℕ) (x j : ℕ) → ((i : ℕ) → i < j → get_or (table_in tables i) 0 0 ≡ x → ⊥) → (get_or tables (544 * j) 0 ≡ x → ⊥)
    → (i : ℕ) → i < j + 1 → get_or (table_in tables i) 0 0 ≡ x → ⊥
none_more tables x j below here i h e =
    ⊎_elim (λ (z : i ≡ j). here (sym (first_word tables j) ∙ rw z at e)) (λ (z : i < j). below i z e) (eq-or-lt_of_le (le_of_suc-le-suc (rw add-one at h)))

-- ---- no table

pub none_kept : (ws ts wd td : List ℕ) → TablesKept (replicate 2176 0) ws ts wd td
none_kept ws ts wd td j h s d l e =
    let z : ◌≡◌ {A = ℕ} (get_or (replicate 2176 0) (544 * j) 0) 0 = get_or-replicate 2176 (544 * j) 0 0 (omega arith) in
    absurd (omega (arith, sym (first_word (replicate 2176 0) j) ∙ e, z))

pub none_here : {tables : List ℕ} → tables ≡ replicate 2176 0 → (ws ts wd td : List ℕ) → TablesKept tables ws ts wd td
none_here e ws ts wd td = rw e (none_kept ws ts wd td)

pub none_long : {tables : List ℕ} → tables ≡ replicate 2176 0 → 2176 ≤ length tables
none_long e = rw (e, length-replicate) (omega arith)

-- ---- table f is made anew

module _ (tables made : List ℕ) (f : ℕ) (few : f < 4) (long : 2176 ≤ length tables) (len : length made ≡ 544) where
  fits : 544 * f + 544 ≤ length tables
  fits = omega arith

  pub table_made : table_in (put (544 * f) 544 made tables) f ≡ made
  table_made = put_here (544 * f) 544 made tables fits len

  before : (j : ℕ) → j < f → table_in (put (544 * f) 544 made tables) j ≡ table_in tables j
  before j h =
      part_agree (544 * j) 544 (put (544 * f) 544 made tables) tables (rw (put_length (544 * f) 544 made tables fits len) (omega arith)) (omega arith)
      (put_take (544 * f) 544 made tables fits len (544 * j + 544) (omega arith))

  behind : (j : ℕ) → f < j → table_in (put (544 * f) 544 made tables) j ≡ table_in tables j
  behind j h = ap (take 544) (put_drop (544 * f) 544 made tables fits len (544 * j) (omega arith))

  pub others_stay : (j : ℕ) → (j ≡ f → ⊥) → table_in (put (544 * f) 544 made tables) j ≡ table_in tables j
  others_stay j other =
      elim (dec_le j f) [
        | yes h ↦ ⊎_elim (λ (z : j ≡ f). absurd (other z)) (λ (z : j < f). before j z) (eq-or-lt_of_le h)
        | no g ↦ behind j (lt_of_not-le g)
      ]

  pub kept_made : (ws ts wd td : List ℕ) → TablesKept tables ws ts wd td → SymbolsKept made ws ts wd td → TablesKept (put (544 * f) 544 made tables) ws ts wd td
  kept_made ws ts wd td kept is j h =
      let stays : (j ≡ f → ⊥) → SymbolsKept (table_in (put (544 * f) 544 made tables) j) ws ts wd td =
      λ other. subst (λ (t : List ℕ). SymbolsKept t ws ts wd td) (sym (others_stay j other)) (kept j h) in
      elim (dec_le j f) [
        | yes g ↦
            ⊎_elim (λ (z : j ≡ f). rw z (subst (λ (t : List ℕ). SymbolsKept t ws ts wd td) (sym table_made) is)) (λ (z : j < f). stays (λ e. omega arith)) (eq-or-lt_of_le g)
        | no g ↦ let l : f < j = lt_of_not-le g in stays (λ e. omega arith)
      ]

  -- of a free table no pair's was lost
  pub has_stays : get_or (table_in tables f) 0 0 ≡ 0 → (s d : ℕ) → HasTable tables s d → HasTable (put (544 * f) 544 made tables) s d
  has_stays free s d has =
      let other : has.0 ≡ f → ⊥ = λ z. let same : get_or (table_in tables has.0) 0 0 ≡ 0 = rw z free in omega (arith, sym has.2 ∙ same) in
      (has.0, has.1, ap (λ (t : List ℕ). get_or t 0 0) (others_stay has.0 other) ∙ has.2)

  pub has_made : (s d : ℕ) → get_or made 0 0 ≡ 64 * s + d + 1 → HasTable (put (544 * f) 544 made tables) s d
  has_made s d e = (f, few, ap (λ (t : List ℕ). get_or t 0 0) table_made ∙ e)

-- ---- the part that is lent for a table, and comes back

pub part_length : (tables : List ℕ) (f : ℕ) → f < 4 → 2176 ≤ length tables → 544 ≤ length (take (544 * f + 544 - 544 * f) (drop (544 * f) tables))
part_length tables f few long = rw (part_is (544 * f) tables, length-take-le 544 (drop (544 * f) tables) (rw length-drop (omega arith))) (omega arith)

module _ (tables made : List ℕ) (f : ℕ) (few : f < 4) (long : 2176 ≤ length tables) (len : length made ≡ length (take (544 * f + 544 - 544 * f) (drop (544 * f) tables))) where
  abbrev back : List ℕ
  back = put_mid (544 * f) (544 * f + 544 - 544 * f) tables made

  exact : length made ≡ 544
  exact = len ∙ rw (part_is (544 * f) tables) (length-take-le 544 (drop (544 * f) tables) (rw length-drop (omega arith)))

  pub pair_kept : (ws ts wd td : List ℕ) → TablesKept tables ws ts wd td → SymbolsKept made ws ts wd td → TablesKept back ws ts wd td
  pair_kept ws ts wd td kept is = rw (back_is (544 * f) tables made) (kept_made tables made f few long exact ws ts wd td kept is)

  pub pair_stays : get_or (table_in tables f) 0 0 ≡ 0 → (s d : ℕ) → HasTable tables s d → HasTable back s d
  pair_stays free s d has = rw (back_is (544 * f) tables made) (has_stays tables made f few long exact free s d has)

  pub pair_has : (s d : ℕ) → get_or made 0 0 ≡ 64 * s + d + 1 → HasTable back s d
  pair_has s d e = rw (back_is (544 * f) tables made) (has_made tables made f few long exact s d e)

-- ---- entries of a plan

-- the word that was read tells the route
pub entry_low : (words : List ℕ) (k : ℕ) {x r : ℕ} → x ≡ get_or words k 0 → r ≡ route_in x → r < 4 → route_in (get_or words k 0) < 4
entry_low words k e q h = rw (← e, ← q) h

pub entry_high : (words : List ℕ) (k : ℕ) {x r : ℕ} → x ≡ get_or words k 0 → r ≡ route_in x → 4 ≤ r → 4 ≤ route_in (get_or words k 0)
entry_high words k e q h = rw (← e, ← q) h

module _ {s d : ℕ} {plan : List ℕ} {n : ℕ} {ws wd words : List ℕ} (p : Ready s d plan n ws wd words) (i : ℕ) (h : i < n) {e : PlanEntry} (is : e ≡ words_at plan i) where
  -- what the table of its enums is made from
  pub entry_asks : (tables : List ℕ) → TablesKept tables ws p.source_text wd p.destination_text
      → (e.source < 4294967296) × (e.destination < 64) × (words_place i + 4 ≤ length words)
      × ((q : Pair e.source e.destination ws wd words (words_place i)) × TablesKept tables ws q.source_text wd q.destination_text)
  unfolding entry_pair
  entry_asks tables kept =
      let valid = pair_valid (entry_pair p i h) in
      subst
      (λ (x : PlanEntry). (x.source < 4294967296) × (x.destination < 64) × (words_place i + 4 ≤ length words)
      × ((q : Pair x.source x.destination ws wd words (words_place i)) × TablesKept tables ws q.source_text wd q.destination_text))
      (sym is)
      (omega (arith, type_few ws (source_type_of plan i) valid.0), type_few wd (destination_type_of plan i) valid.1, omega (arith, p.long), (entry_pair p i h, kept))

  pub entry_kept : (tables out : List ℕ)
      → ((q : Pair e.source e.destination ws wd words (words_place i)) → TablesKept tables ws q.source_text wd q.destination_text → TablesKept out ws q.source_text wd q.destination_text)
      → TablesKept tables ws p.source_text wd p.destination_text → TablesKept out ws p.source_text wd p.destination_text
  unfolding entry_pair
  entry_kept tables out made kept =
      subst
      (λ (x : PlanEntry). (q : Pair x.source x.destination ws wd words (words_place i)) → TablesKept tables ws q.source_text wd q.destination_text
      → TablesKept out ws q.source_text wd q.destination_text)
      is made (entry_pair p i h) kept

-- its table is one by its two types
pub entry_has : (tables plan : List ℕ) (i : ℕ) {e : PlanEntry} → e ≡ words_at plan i → HasTable tables e.source e.destination → HasTable tables (source_type_of plan i) (destination_type_of plan i)
entry_has tables plan i is has = subst (λ (x : PlanEntry). HasTable tables x.source x.destination) is has

-- one entry more has a column
pub columned_more : (tables out plan words : List ℕ) (i : ℕ) → Columned tables plan i words → ((s d : ℕ) → HasTable tables s d → HasTable out s d)
    → HasColumn out words (words_place i) (source_type_of plan i) (destination_type_of plan i) → Columned out plan (i + 1) words
columned_more tables out plan words i below stays here j h =
    ⊎_elim (λ (z : j ≡ i). rw z here)
    (λ (z : j < i). ⊎_elim (λ (l : route_in (get_or words (words_place j) 0) < 4). inl l) (λ (has : HasTable tables (source_type_of plan j) (destination_type_of plan j)). inr (stays _ _ has)) (below j z))
    (eq-or-lt_of_le (le_of_suc-le-suc (rw add-one at h)))

pub columned_end : (tables plan words : List ℕ) (i n : ℕ) → n ≤ i → Columned tables plan i words → Columned tables plan n words
columned_end tables plan words i n h below j l = below j (omega arith)

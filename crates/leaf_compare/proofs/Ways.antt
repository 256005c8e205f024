-- The ways in which the numbers of two leaves are compared. Assumes nothing.
use mathlib.Core.Path.{◌≡◌, refl, sym, ap, subst, ◌∙◌}
use mathlib.Core.Bool.{Bool, true, false, cond}
use mathlib.Core.List.{List}
use Prim.Native.Nat.{ℕ, ◌+◌, ◌-◌, ◌^◌, ◌≤◌, ◌<◌}
use native.Mathlib.Omega.{arith}
use lib.Dec.{eqb}
use lib.IntN.{ℤ}
use borrow.Author.Tests.{eqb-true, ne_eqb}
use Rattle.layout.specs.declared.Layout.{Layout}
use Rattle.layout.specs.Layout.{Valid}
use Rattle.number.specs.declared.Number.{Number}
use Rattle.number.specs.declared.Parts.{Parts}
use Rattle.number.specs.Number.{valued, number_at}
use Rattle.number.specs.Place.{raw_at}
use Rattle.number.specs.Parts.{meaning, signed_by}
use Rattle.reals.specs.Compare.{equals}
use Rattle.datatype.specs.Datatype.{leaf_size, same}
use Rattle.datatype.specs.Datatype.Leaf.{atomic, enumeration, real}
use Rattle.datatype.specs.Symbols.{same_number}
use Rattle.datatype.specs.WellFormed.{WellFormedLeaf}
use Rattle.std.specs.Prelude.{Option, Some, None}
use Rattle.table.specs.Table.{class_word, first_word, rows_word, row_word, layout_at, bytes_at, name_at, symbols_at}
use Rattle.table.specs.Words.{Reads}
use Rattle.table.specs.Rows.{row_numbered, name_found}
use Rattle.table.proofs.Lookups.{symbol_numbered}
use Rattle.records.specs.Leaf.{number_in, symbols, real_bits}
use Rattle.plans.specs.declared.PlanEntry.{PlanEntry}
use Rattle.plans.specs.PlanWords.{leaf_of_type, symbol_rows, is_real}
use Rattle.plans.proofs.LeafSteps.{leaf_layout, leaf_symbols, leaf_enum, leaf_valid}
use Rattle.differences.specs.Same.{same_named, same_symbol, same_in}
use Rattle.std.specs.Prelude.{Some, None}
use Rattle.comparing.specs.Comparing.{EntrySays}
use Rattle.leaf_compare.specs.Ways.{unless_found, same_worth}

-- ---- numbers

module _ (s : Bool) (d : ℕ) (t : Bool) (k : ℕ) where
  pub signs_alike : (v : Bool) → s ≡ v → t ≡ v → eqb d k ≡ same_number (signed_by s d) (signed_by t k)
  signs_alike true e f = rw (e, f) refl
  signs_alike false e f = rw (e, f) refl

  pub first_below : s ≡ true → t ≡ false → false ≡ same_number (signed_by s d) (signed_by t k)
  first_below e f = rw (e, f) refl

  pub second_below : s ≡ false → t ≡ true → false ≡ same_number (signed_by s d) (signed_by t k)
  second_below e f = rw (e, f) refl

pub by_parts : (z w : Number) (p q : Parts) {r : Bool} → meaning z ≡ signed_by p.negative p.distance → meaning w ≡ signed_by q.negative q.distance
    → r ≡ same_number (signed_by p.negative p.distance) (signed_by q.negative q.distance) → r ≡ same_number (meaning z) (meaning w)
by_parts z w p q e f h = rw (e, f) h

module _ (z : Number) (s : Bool) (d : ℕ) (e : meaning z ≡ signed_by s d) where
  pub bits_below : s ≡ true → 2 ^ 64 - 1 - d ≡ real_bits (meaning z)
  bits_below f = rw (e, f) (omega arith)

  pub bits_above : s ≡ false → d ≡ real_bits (meaning z)
  bits_above f = rw (e, f) refl

-- ---- the number of a leaf

pub number_read : (w r : List ℕ) (a k : ℕ) {l : Layout} {raw : ℕ} {z : ℤ} → l ≡ layout_at w k → raw ≡ raw_at l a r → z ≡ valued l.signed l.precision raw
    → z ≡ number_at (layout_at w k) a r
number_read w r a k el er e = e ∙ rw (er, el) refl

-- ---- reals and other leaves that are not compared by their symbols

module _ (z w : Number) {s t : Bool} {r : Bool} where
  pub reals_worth : s ≡ true → t ≡ true → r ≡ same_number (meaning z) (meaning w) → r ≡ same_worth s t (meaning z) (meaning w)
  reals_worth e f h = rw (e, f) h

  pub real_whole : {b : ℕ} → s ≡ true → t ≡ false → b ≡ real_bits (meaning z) → r ≡ equals b (meaning w) → r ≡ same_worth s t (meaning z) (meaning w)
  real_whole e f i h = rw (e, f) (h ∙ ap (λ (x : ℕ). equals x (meaning w)) i)

  pub whole_real : {b : ℕ} → s ≡ false → t ≡ true → b ≡ real_bits (meaning w) → r ≡ equals b (meaning z) → r ≡ same_worth s t (meaning z) (meaning w)
  whole_real e f i h = rw (e, f) (h ∙ ap (λ (x : ℕ). equals x (meaning z)) i)

  pub wholes_worth : s ≡ false → t ≡ false → r ≡ same_number (meaning z) (meaning w) → r ≡ same_worth s t (meaning z) (meaning w)
  wholes_worth e f h = rw (e, f) h

-- ---- symbols

pub row_of : (w : List ℕ) (k : ℕ) (z : Number) (p : Parts) {first rows : ℕ} {f : Option ℕ} → meaning z ≡ signed_by p.negative p.distance → Reads (first_word w k) first
    → (rows ≡ symbol_rows w k) × (rows < 4294967296) → f ≡ row_numbered w (signed_by p.negative p.distance) first rows → f ≡ row_numbered w (meaning z) (first_word w k) (symbol_rows w k)
row_of w k z p e rf rr h = h ∙ rw (e, rf.is, rr.0) refl

pub names_read : (ws ts wd td : List ℕ) (i j : ℕ) {start len : ℕ} {r : Bool} → Reads (row_word ws i 0) start → Reads (row_word ws i 1) len
    → r ≡ same (bytes_at ts start len) (name_at wd td j) → r ≡ same (name_at ws ts i) (name_at wd td j)
names_read ws ts wd td i j rs rl h = h ∙ rw (rs.is, rl.is) refl

module _ (ws ts wd td : List ℕ) (f g : Option ℕ) (numbers : Bool) where
  pub first_missing : {r : Bool} → f ≡ None → r ≡ unless_found g numbers → r ≡ same_named (name_found ws ts f) (name_found wd td g) numbers
  first_missing e h = h ∙ rw e (go g)
    where
      go : (g : Option ℕ) → unless_found g numbers ≡ same_named (name_found ws ts None) (name_found wd td g) numbers
      go (Some j) = refl
      go None = refl

  pub second_missing : {i : ℕ} → f ≡ Some i → g ≡ None → false ≡ same_named (name_found ws ts f) (name_found wd td g) numbers
  second_missing e h = rw (e, h) refl

  pub both_found : {i j : ℕ} {r : Bool} → f ≡ Some i → g ≡ Some j → r ≡ same (name_at ws ts i) (name_at wd td j) → r ≡ same_named (name_found ws ts f) (name_found wd td g) numbers
  both_found e h q = rw (e, h) q

-- no class is that of an enum and of a real
both : (c : ℕ) → eqb c 2 ≡ true → eqb c 5 ≡ true → ⊥
both c e f =
    let p : c ≡ 2 = eqb-true c 2 e in
    let q : c ≡ 5 = eqb-true c 5 f in
    omega arith

module _ (ws ts wd td : List ℕ) (s d : ℕ) (z w : Number) where
  pub by_symbols : {f g : Option ℕ} {numbers r : Bool} → f ≡ row_numbered ws (meaning z) (first_word ws s) (symbol_rows ws s)
      → g ≡ row_numbered wd (meaning w) (first_word wd d) (symbol_rows wd d) → numbers ≡ same_number (meaning z) (meaning w)
      → r ≡ same_named (name_found ws ts f) (name_found wd td g) numbers → r ≡ same_symbol (symbols (leaf_of_type ws ts s)) (symbols (leaf_of_type wd td d)) (meaning z) (meaning w)
  by_symbols e h i q =
      q
      ∙ rw (
        leaf_symbols ws ts s,
        leaf_symbols wd td d,
        symbol_numbered ws (meaning z) (first_word ws s) ts (symbol_rows ws s),
        symbol_numbered wd (meaning w) (first_word wd d) td (symbol_rows wd d),
        e,
        h,
        i,
      )
      refl

  -- ---- by the class of the second leaf

  pub enum_leaf : {c : ℕ} {r : Bool} → Reads (class_word wd d) c → c ≡ 2 → r ≡ same_symbol (symbols (leaf_of_type ws ts s)) (symbols (leaf_of_type wd td d)) (meaning z) (meaning w)
      → r ≡ same_in (leaf_of_type ws ts s) (leaf_of_type wd td d) (meaning z) (meaning w)
  enum_leaf rc e h = h ∙ rw (leaf_enum wd td d (sym rc.is ∙ e)) refl

  worth_leaf : (class_word wd d ≡ 2 → ⊥) → same_worth (is_real ws s) (is_real wd d) (meaning z) (meaning w) ≡ same_in (leaf_of_type ws ts s) (leaf_of_type wd td d) (meaning z) (meaning w)
  unfolding leaf_of_type
  worth_leaf not = rw (ne_eqb (class_word wd d) 2 not) (go (is_real wd d) (eqb (class_word ws s) 2) (is_real ws s) refl refl)
    where
      go : (q b c : Bool) → eqb (class_word ws s) 2 ≡ b → is_real ws s ≡ c
          → same_worth c q (meaning z) (meaning w)
          ≡ same_in (cond b (enumeration (layout_at ws s) (symbols_at ws ts (first_word ws s) (rows_word ws s))) (cond c (real (layout_at ws s)) (atomic (layout_at ws s))))
          (cond q (real (layout_at wd d)) (atomic (layout_at wd d))) (meaning z) (meaning w)
      go true true true e f = absurd (both (class_word ws s) e f)
      go true true false e f = refl
      go true false true e f = refl
      go true false false e f = refl
      go false true true e f = absurd (both (class_word ws s) e f)
      go false true false e f = refl
      go false false true e f = refl
      go false false false e f = refl

  pub other_leaf : {c : ℕ} {a b r : Bool} → Reads (class_word wd d) c → (c ≡ 2 → ⊥) → a ≡ is_real ws s → b ≡ is_real wd d
      → r ≡ same_worth a b (meaning z) (meaning w) → r ≡ same_in (leaf_of_type ws ts s) (leaf_of_type wd td d) (meaning z) (meaning w)
  other_leaf rc not e f h = h ∙ rw (e, f) (worth_leaf (λ q. not (rc.is ∙ q)))

-- ---- an entry's leaves

pub leaf_inside : (w t : List ℕ) (k a n : ℕ) → WellFormedLeaf (leaf_of_type w t k) → a + leaf_size (leaf_of_type w t k) ≤ n → Valid (layout_at w k) × (a + (layout_at w k).size.0 ≤ n)
leaf_inside w t k a n f h = (leaf_valid w t k f, subst (λ (l : Layout). a + l.size.0 ≤ n) (leaf_layout w t k) h)

module _ (e : PlanEntry) (ss ws ds wd p q : List ℕ) (z w : Number) (ez : meaning z ≡ number_at (layout_at ws e.source) e.from p)
    (ew : meaning w ≡ number_at (layout_at wd e.destination) e.to q) {b : Bool}
    (is : b ≡ same_in (leaf_of_type ws ss e.source) (leaf_of_type wd ds e.destination) (meaning z) (meaning w)) where
  first_number : meaning z ≡ number_in (leaf_of_type ws ss e.source) e.from p
  first_number = ez ∙ rw (leaf_layout ws ss e.source) refl

  second_number_lem : meaning w ≡ number_in (leaf_of_type wd ds e.destination) e.to q
  second_number_lem = ew ∙ rw (leaf_layout wd ds e.destination) refl

  decided : (t : Bool) → b ≡ t
      → same_in (leaf_of_type ws ss e.source) (leaf_of_type wd ds e.destination) (number_in (leaf_of_type ws ss e.source) e.from p) (number_in (leaf_of_type wd ds e.destination) e.to q) ≡ t
  decided t i = rw (← first_number, ← second_number_lem) (sym is ∙ i)

  pub says_same : b ≡ true → EntrySays e ss ws ds wd p q None
  says_same i = decided true i

  pub says_differ : b ≡ false → EntrySays e ss ws ds wd p q (Some (record { first = z; second = w }))
  says_differ i = (decided false i, first_number, second_number_lem)

-- A row with a name is the row of the name, where the names are unique: those of a well-formed compound's members and of an enum's symbols are. Assumes nothing.
use mathlib.Core.Path.{◌≡◌, refl, sym, ap, ◌∙◌}
use mathlib.Core.Bool.{Bool, true, false, cond, ◌&&◌, false≢true}
use mathlib.Core.List.{List}
use mathlib.Core.Option.{none}
use Prim.Native.Nat.{ℕ, zero, suc, ◌+◌, ◌≤◌, ◌<◌}
use native.Mathlib.Decide.{ℕ_discrete}
use native.Mathlib.Omega.{arith}
use lib.Dec.{leb, ltb}
use borrow.Author.Rules.{rules}
use borrow.Author.Tests.{leb-true, ltb-true, le-leb, lt-ltb, lt-leb, le-ltb}
use Rattle.layout.specs.declared.Layout.{Layout}
use Rattle.datatype.specs.Datatype.{Datatype, same}
use Rattle.datatype.specs.Paths.Lookup.{missing}
use Rattle.datatype.specs.WellFormed.{Symbols, WellFormedIn}
use Rattle.datatype.proofs.Tests.{nothing, and_true, same→eq}
use Rattle.datatype.proofs.Ways.{not_found}
use Rattle.std.specs.Prelude.{Option, Some, None}
use Rattle.table.specs.Table.{row_word, first_word, rows_word, bytes_at, name_at, symbols_at, members_at}
use Rattle.table.specs.Words.{Reads}
use Rattle.table.specs.Rows.{row_named, member_found, value_found}
use Rattle.table.proofs.Lookups.{member_named_lem, symbol_named}
use Rattle.namesakes.specs.Named.{is_named, NamesOnce, NamedIn}

module _ (w t x : List ℕ) (first n : ℕ) where
  -- ---- a row, whether it is one of them and has the name

  pub row_before : (j : ℕ) → j < first → false ≡ is_named w t x first n j
  unfolding is_named
  row_before j h = rw (lt-leb first j h) refl

  pub row_behind : (j : ℕ) → first ≤ j → first + n ≤ j → false ≡ is_named w t x first n j
  unfolding is_named
  row_behind j l h = rw (le-leb first j l, le-ltb j (first + n) h) refl

  pub row_among : (j : ℕ) {b : Bool} → first ≤ j → j < first + n → b ≡ same x (name_at w t j) → b ≡ is_named w t x first n j
  unfolding is_named
  row_among j l h e = rw (le-leb first j l, lt-ltb j (first + n) h) e

  named→ : (j : ℕ) → is_named w t x first n j ≡ true → (first ≤ j) × (j < first + n) × (same x (name_at w t j) ≡ true)
  unfolding is_named
  named→ j e =
      let here = and_true (leb first j) (ltb j (first + n) && same x (name_at w t j)) e in
      let there = and_true (ltb j (first + n)) (same x (name_at w t j)) here.1 in
      (leb-true first j here.0, ltb-true j (first + n) there.0, there.1)

  pub by_hint : (hint : ℕ) {b : Bool} → b ≡ is_named w t x first n hint → b ≡ true → NamedIn w t x first n (Some hint)
  by_hint hint e q =
      record {
        has = λ j p. let at : hint ≡ j = cc in rw (← at) (sym e ∙ q);
        none = λ p. let no : ◌≡◌ {A = ℕ} 0 1 = cc in absurd (omega arith);
      }

pub ruleset row_laws = (rules, row_before, row_behind, row_among)

module _ (w t x : List ℕ) (first : ℕ) where
  -- ---- the rows, one after the other

  -- one that is found has the name
  named_has : (n : ℕ) {j : ℕ} → row_named w t x first n ≡ Some j → (first ≤ j) × (j < first + n) × (same x (name_at w t j) ≡ true)
  unfolding row_named
  named_has zero e = let no : ◌≡◌ {A = ℕ} 0 1 = cc in absurd (omega arith)
  named_has (suc n) {j} e = go (named_has n) (same x (name_at w t (first + n))) refl e
    where
      go : (row_named w t x first n ≡ Some j → (first ≤ j) × (j < first + n) × (same x (name_at w t j) ≡ true))
          → (b : Bool) → same x (name_at w t (first + n)) ≡ b → cond b (Some (first + n)) (row_named w t x first n) ≡ Some j
          → (first ≤ j) × (j < first + suc n) × (same x (name_at w t j) ≡ true)
      go later true h q = let at : first + n ≡ j = cc in (omega arith, omega arith, rw at at h)
      go later false h q = let l = later q in (l.0, omega (arith, l.1), l.2)

  pub by_rows : (n : ℕ) {r : Option ℕ} → r ≡ row_named w t x first n → NamedIn w t x first n r
  by_rows n e =
      record {
        has = λ j q. let h = named_has n (sym e ∙ q) in sym (row_among w t x first n j h.0 h.1 refl) ∙ h.2;
        none = λ q. sym e ∙ q;
      }

  -- where one has the name, one is found
  not_missing : (n j : ℕ) → first ≤ j → j < first + n → same x (name_at w t j) ≡ true → row_named w t x first n ≡ None → ⊥
  unfolding row_named
  not_missing zero j l r e q = omega arith
  not_missing (suc n) j l r e q =
      go (λ h. not_missing n j l h e) (ℕ_discrete j (first + n)) (same x (name_at w t (first + n))) refl q
    where
      go : (j < first + n → row_named w t x first n ≡ None → ⊥) → Dec (j ≡ first + n)
          → (b : Bool) → same x (name_at w t (first + n)) ≡ b → cond b (Some (first + n)) (row_named w t x first n) ≡ None → ⊥
      go later d true h p = let no : ◌≡◌ {A = ℕ} 0 1 = cc in omega arith
      go later (yes at) false h p = false≢true (sym h ∙ (rw at at e))
      go later (no past) false h p = later (omega arith) p

  pub some_row : (n : ℕ) {r : Option ℕ} {j : ℕ} → NamedIn w t x first n r → r ≡ Some j → row_named w t x first n ≡ None → ⊥
  some_row n {j = j} named e = let h = named→ w t x first n j (named.has j e) in not_missing n j h.0 h.1 h.2

  -- ---- unique names

  once : (n j : ℕ) → ((q : ℕ) → q < n → row_named w t (name_at w t (first + q)) first q ≡ None) → first ≤ j → j < first + n → same x (name_at w t j) ≡ true
      → row_named w t x first n ≡ Some j
  unfolding row_named
  once zero j each l r e = absurd (omega arith)
  once (suc n) j each l r e =
      go (λ h. once n j (λ q p. each q (omega arith)) l h e) (ℕ_discrete j (first + n)) (same x (name_at w t (first + n))) refl
    where
      go : (j < first + n → row_named w t x first n ≡ Some j) → Dec (j ≡ first + n)
          → (b : Bool) → same x (name_at w t (first + n)) ≡ b → cond b (Some (first + n)) (row_named w t x first n) ≡ Some j
      go later (yes at) true q = ap Some (sym at)
      go later (yes at) false q = absurd (false≢true (sym q ∙ (rw at at e)))
      go later (no past) true q =
          let none = rw (← (same→eq x (name_at w t (first + n)) q)) at (each n (omega arith)) in
          let found = later (omega arith) in
          let no : ◌≡◌ {A = ℕ} 0 1 = cc in
          absurd (omega arith)
      go later (no past) false q = later (omega arith)

  -- what is found by a name is what row_named finds
  pub the_one : (n : ℕ) {r : Option ℕ} → NamesOnce w t first n → NamedIn w t x first n r → r ≡ row_named w t x first n
  the_one n {r} f named = go r refl
    where
      go : (v : Option ℕ) → r ≡ v → v ≡ row_named w t x first n
      go (Some j) e = let h = named→ w t x first n j (named.has j e) in sym (once n j f.each h.0 h.1 h.2)
      go None e = sym (named.none e)

module _ (w t : List ℕ) (first : ℕ) where
  members_once : (D : ℕ → Datatype) (z n : ℕ) → WellFormedIn z (members_at D w t first n) → (q : ℕ) → q < n → row_named w t (name_at w t (first + q)) first q ≡ None
  unfolding members_at
  members_once D z zero f q h = absurd (omega arith)
  members_once D z (suc n) f q h = go (λ l. members_once D z n f.2 q l) (ℕ_discrete q n)
    where
      missing_row : (v : Option ℕ) → member_found D w v ≡ missing → v ≡ None
      missing_row (Some j) e = not_found (sym e)
      missing_row None e = refl

      go : (q < n → row_named w t (name_at w t (first + q)) first q ≡ None) → Dec (q ≡ n) → row_named w t (name_at w t (first + q)) first q ≡ None
      go later (yes e) = rw e (missing_row _ (sym (member_named_lem w t (name_at w t (first + n)) first D n) ∙ f.0.name_once))
      go later (no past) = later (omega arith)

  symbols_each : (l : Layout) (n : ℕ) → Symbols l (symbols_at w t first n) → (q : ℕ) → q < n → row_named w t (name_at w t (first + q)) first q ≡ None
  unfolding symbols_at
  symbols_each l zero f q h = absurd (omega arith)
  symbols_each l (suc n) f q h = go (λ p. symbols_each l n f.1 q p) (ℕ_discrete q n)
    where
      missing_row : (v : Option ℕ) → value_found w v ≡ none → v ≡ None
      missing_row (Some j) e = nothing (sym e)
      missing_row None e = refl

      go : (q < n → row_named w t (name_at w t (first + q)) first q ≡ None) → Dec (q ≡ n) → row_named w t (name_at w t (first + q)) first q ≡ None
      go later (yes e) = rw e (missing_row _ (sym (symbol_named w t (name_at w t (first + n)) first n) ∙ f.0.name_once))
      go later (no past) = later (omega arith)

  -- so are the names of a well-formed enum's symbols
  pub symbols_once : (l : Layout) (n : ℕ) → Symbols l (symbols_at w t first n) → NamesOnce w t first n
  symbols_once l n f = record { each = symbols_each l n f }

  -- and those of a well-formed compound's members
  pub the_row : (x : List ℕ) (D : ℕ → Datatype) (z n : ℕ) {r : Option ℕ} → WellFormedIn z (members_at D w t first n) → NamedIn w t x first n r → r ≡ row_named w t x first n
  the_row x D z n f named = the_one w t x first n (record { each = members_once D z n f }) named

pub ruleset hint_laws = (rules, by_rows, by_hint)

-- the name and the rows by the words that were read
pub by_words : (ws ts : List ℕ) (s : ℕ) (wd td : List ℕ) (row : ℕ) {start len first n : ℕ} {r : Option ℕ} → Reads (row_word wd row 0) start → Reads (row_word wd row 1) len
    → Reads (first_word ws s) first → Reads (rows_word ws s) n → NamedIn ws ts (bytes_at td start len) first n r
    → NamedIn ws ts (name_at wd td row) (first_word ws s) (rows_word ws s) r
by_words ws ts s wd td row hs hl hf hn named = rw (← hs.is, ← hl.is, ← hf.is, ← hn.is) named

pub ruleset word_laws = (rules, by_words)

pub one_by_words : (w t x : List ℕ) (k : ℕ) {first n : ℕ} {r : Option ℕ} → Reads (first_word w k) first → Reads (rows_word w k) n
    → NamesOnce w t (first_word w k) (rows_word w k) → NamedIn w t x first n r → r ≡ row_named w t x first n
one_by_words w t x k {first} {n} hf hn f named = the_one w t x first n (rw (hf.is, hn.is) f) named

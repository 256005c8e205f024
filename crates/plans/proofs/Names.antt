-- Names of enums' rows by their ids: rows that were looked up by ids are those with the name. Assumes nothing.
use mathlib.Core.Path.{◌≡◌, refl, sym, ap, ◌∙◌}
use mathlib.Core.Bool.{Bool, true, false, cond, false≢true}
use mathlib.Core.List.{List}
use mathlib.Core.Logic.{⊎_elim}
use Prim.Native.Nat.{ℕ, zero, suc, ◌+◌, ◌≤◌, ◌<◌}
use native.Mathlib.Nat.{eq-or-lt_of_le}
use native.Mathlib.Omega.{arith}
use lib.Dec.{eqb}
use lib.IntN.{ℤ}
use lib.ListN.{get_or}
use borrow.Author.Tests.{eqb-true, eq-eqb, ne_eqb}
use Rattle.datatype.specs.Datatype.{same}
use Rattle.datatype.specs.Symbols.{same_number}
use Rattle.datatype.proofs.Tests.{same→eq, same_refl}
use Rattle.std.specs.Prelude.{Option, Some, None}
use Rattle.table.specs.Table.{class_word, first_word, rows_word, name_at, value_at}
use Rattle.table.specs.Rows.{row_named, row_numbered}
use Rattle.plans.specs.PlanWords.{RowsWithin, symbol_rows, row_code, named_code, EnumRow, NamesAt, row_alike, alike_code}
use Rattle.plans.specs.LeafSteps.{looked_code}

-- ---- a row that was found is one of those that were looked through

pub numbered_within : (w : List ℕ) (z : ℤ) (first n j : ℕ) → row_numbered w z first n ≡ Some j → (first ≤ j) × (j < first + n)
unfolding row_numbered
numbered_within w z first zero j e = let no : ◌≡◌ {A = ℕ} 0 1 = cc in absurd (omega arith)
numbered_within w z first (suc n) j e = go (numbered_within w z first n j) (same_number z (value_at w (first + n))) e
  where
    go : (row_numbered w z first n ≡ Some j → (first ≤ j) × (j < first + n)) → (b : Bool) → cond b (Some (first + n)) (row_numbered w z first n) ≡ Some j → (first ≤ j) × (j < first + suc n)
    go later true h = let i : first + n ≡ j = cc in (omega arith, omega arith)
    go later false h = ((later h).0, omega (arith, (later h).1))

pub named_within : (w t x : List ℕ) (first n j : ℕ) → row_named w t x first n ≡ Some j → (same x (name_at w t j) ≡ true) × (j < first + n)
unfolding row_named
named_within w t x first zero j e = let no : ◌≡◌ {A = ℕ} 0 1 = cc in absurd (omega arith)
named_within w t x first (suc n) j e = go (named_within w t x first n j) (same x (name_at w t (first + n))) refl e
  where
    go : (row_named w t x first n ≡ Some j → (same x (name_at w t j) ≡ true) × (j < first + n)) → (b : Bool) → same x (name_at w t (first + n)) ≡ b
        → cond b (Some (first + n)) (row_named w t x first n) ≡ Some j → (same x (name_at w t j) ≡ true) × (j < first + suc n)
    go later true q h = let i : first + n ≡ j = cc in (rw i at q, omega arith)
    go later false q h = ((later h).0, omega (arith, (later h).1))

-- a name that one of the rows has is found
named_some : (w t x : List ℕ) (first n k : ℕ) → first ≤ k → k < first + n → same x (name_at w t k) ≡ true → row_named w t x first n ≡ None → ⊥
unfolding row_named
named_some w t x first zero k low high q e = omega arith
named_some w t x first (suc n) k low high q e = go (λ l. named_some w t x first n k low l q) (same x (name_at w t (first + n))) refl e
  where
    go : (k < first + n → row_named w t x first n ≡ None → ⊥) → (b : Bool) → same x (name_at w t (first + n)) ≡ b → cond b (Some (first + n)) (row_named w t x first n) ≡ None → ⊥
    go later true r h = let no : ◌≡◌ {A = ℕ} 0 1 = cc in omega arith
    go later false r h =
        ⊎_elim (λ (i : k ≡ first + n). false≢true (sym r ∙ rw (← i) q)) (λ (l : k < first + n). later l h) (eq-or-lt_of_le {n = k} {m = first + n} (omega arith))

-- ---- rows by ids

-- a row that was found among a type's symbols is one of an enum's
found_row : (w : List ℕ) (z : ℤ) (s j : ℕ) → RowsWithin w s → row_numbered w z (first_word w s) (symbol_rows w s) ≡ Some j → EnumRow w j × (j < 256)
unfolding symbol_rows
found_row w z s j fits e = go (eqb (class_word w s) 2) refl e
  where
    go : (b : Bool) → eqb (class_word w s) 2 ≡ b → row_numbered w z (first_word w s) (cond b (rows_word w s) 0) ≡ Some j → EnumRow w j × (j < 256)
    go true q h =
        let k = numbered_within w z (first_word w s) (rows_word w s) j h in
        (record { type = s; enum = eqb-true (class_word w s) 2 q; from = k.0; below = k.1 }, omega arith)
    go false q h = absurd (omega (arith, numbered_within w z (first_word w s) 0 j h))

module _ (words ws ts wd td : List ℕ) (names : NamesAt words ws ts wd td) (d : ℕ) (enum : class_word wd d ≡ 2) (inside : RowsWithin wd d) where
  -- of the first rows of the enum d, that with the id of row j is that with its name
  alike_named : (j : ℕ) → EnumRow ws j × (j < 256) → (n : ℕ) → n ≤ rows_word wd d → row_alike words (get_or words j 0) (first_word wd d) n ≡ row_named wd td (name_at ws ts j) (first_word wd d) n
  unfolding row_alike row_named
  alike_named j row zero h = refl
  alike_named j row (suc n) h =
      rw (names j (first_word wd d + n) row.1 (omega arith) row.0 (record { type = d; enum = enum; from = omega arith; below = omega arith }), alike_named j row n (omega arith))

  pub looked_named : (s : ℕ) (z : ℤ) → RowsWithin ws s → looked_code words ws wd s d z ≡ named_code ws ts wd td d (row_numbered ws z (first_word ws s) (symbol_rows ws s))
  looked_named s z fits = go (row_numbered ws z (first_word ws s) (symbol_rows ws s)) refl
    where
      go : (f : Option ℕ) → row_numbered ws z (first_word ws s) (symbol_rows ws s) ≡ f → alike_code words wd d f ≡ named_code ws ts wd td d f
      go (Some j) q = ap row_code (alike_named j (found_row ws z s j fits q) (rows_word wd d) (omega arith))
      go None q = refl

-- ---- ids that are rows' numbers

-- the newest of the first n rows that has the name x, in one word
abbrev id_of : List ℕ → List ℕ → ℕ → List ℕ → ℕ
id_of w t n x = row_code (row_named w t x 0 n)

-- they differ where names do, if one of these is a row's
ids_apart : (w t : List ℕ) (n : ℕ) (x : List ℕ) (k : ℕ) → k < n → same x (name_at w t k) ≡ false → id_of w t n (name_at w t k) ≡ id_of w t n x → ⊥
ids_apart w t n x k low differ e = go (row_named w t (name_at w t k) 0 n) (row_named w t x 0 n) refl refl e
  where
    go : (f g : Option ℕ) → row_named w t (name_at w t k) 0 n ≡ f → row_named w t x 0 n ≡ g → row_code f ≡ row_code g → ⊥
    go None g qf qg h = named_some w t (name_at w t k) 0 n k (omega arith) (omega arith) (same_refl (name_at w t k)) qf
    go (Some i) None qf qg h = omega arith
    go (Some i) (Some j) qf qg h =
        let row : i ≡ j = omega arith in
        let one : name_at w t k ≡ name_at w t i = same→eq (name_at w t k) (name_at w t i) (named_within w t (name_at w t k) 0 n i qf).0 in
        let other : x ≡ name_at w t j = same→eq x (name_at w t j) (named_within w t x 0 n j qg).0 in
        let alike : x ≡ name_at w t k = other ∙ rw (← row) (sym one) in
        false≢true (sym differ ∙ rw alike (same_refl (name_at w t k)))

pub ids_names : (words ws ts wd td : List ℕ) (n : ℕ) → ((j : ℕ) → j < 256 → EnumRow ws j → get_or words j 0 ≡ id_of wd td n (name_at ws ts j))
    → ((k : ℕ) → k < 256 → EnumRow wd k → (k < n) × (get_or words (256 + k) 0 ≡ id_of wd td n (name_at wd td k)))
    → NamesAt words ws ts wd td
ids_names words ws ts wd td n source destination j k hj hk rj rk =
    let d = destination k hk rk in
    rw (source j hj rj, d.1) (go (same (name_at ws ts j) (name_at wd td k)) refl)
  where
    go : (b : Bool) → same (name_at ws ts j) (name_at wd td k) ≡ b → eqb (id_of wd td n (name_at wd td k)) (id_of wd td n (name_at ws ts j)) ≡ b
    go true q = eq-eqb _ _ (ap (id_of wd td n) (sym (same→eq (name_at ws ts j) (name_at wd td k) q)))
    go false q = ne_eqb _ _ (ids_apart wd td n (name_at ws ts j) k (destination k hk rk).0 q)

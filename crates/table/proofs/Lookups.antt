-- Rows looked up, one by one from the newest, and what that says of the members and the symbols in them. Assumes nothing.
use mathlib.Core.Path.{◌≡◌, refl}
use mathlib.Core.List.{List}
use mathlib.Core.Bool.{Bool, true, false, cond}
use mathlib.Core.Option.{some}
use Prim.Native.Nat.{ℕ, zero, suc, ◌+◌, ◌-◌, ◌*◌, ◌<◌, ◌≤◌}
use native.Mathlib.Nat.{not-suc-le-zero}
use native.Mathlib.Numerals.{sub-one}
use lib.Dec.{eqb}
use lib.IntN.{ℤ}
use Rattle.number.specs.Parts.{signed_by}
use Rattle.datatype.specs.Datatype.{Datatype, same}
use Rattle.datatype.specs.Symbols.{same_number, symbol_of, number_of}
use Rattle.datatype.specs.Paths.{member_named}
use Rattle.datatype.specs.Paths.Lookup.{found}
use Rattle.std.specs.Prelude.{Some, None}
use Rattle.table.specs.Table.{row_word, flag_of, name_at, value_at, offset_word, member_type_word, members_at, symbols_at}
use Rattle.table.specs.Words.{Reads}
use Rattle.table.specs.Rows.{row_named, row_numbered, member_found, value_found, name_found}

module _ (w t x : List ℕ) (first : ℕ) where
  pub named_none : (n : ℕ) → n ≤ 0 → row_named w t x first n ≡ None
  unfolding row_named
  named_none zero h = refl
  named_none (suc n) h = absurd (not-suc-le-zero h)

  pub named_hit : (n : ℕ) {r : Bool} → 0 < n → r ≡ same x (name_at w t (first + (n - 1))) → r ≡ true → row_named w t x first n ≡ Some (first + (n - 1))
  unfolding row_named
  named_hit zero h e q = absurd (not-suc-le-zero h)
  named_hit (suc n) h e q = rw (sub-one) (rw (← (rw (sub-one) at e), q) refl)

  pub named_skip : (n : ℕ) {r : Bool} → 0 < n → r ≡ same x (name_at w t (first + (n - 1))) → r ≡ false → row_named w t x first n ≡ row_named w t x first (n - 1)
  unfolding row_named
  named_skip zero h e q = absurd (not-suc-le-zero h)
  named_skip (suc n) h e q = rw (sub-one) (rw (← (rw (sub-one) at e), q) refl)

  pub member_named_lem : (D : ℕ → Datatype) (n : ℕ) → member_named x (members_at D w t first n) ≡ member_found D w (row_named w t x first n)
  unfolding row_named member_named members_at
  member_named_lem D zero = refl
  member_named_lem D (suc n) = go (member_named_lem D n) (same x (name_at w t (first + n)))
    where
      go : member_named x (members_at D w t first n) ≡ member_found D w (row_named w t x first n) → (b : Bool) → cond b (found (offset_word w (first + n)) (D (member_type_word w (first + n)))) (member_named x (members_at D w t first n)) ≡ member_found D w (cond b (Some (first + n)) (row_named w t x first n))
      go ih true = refl
      go ih false = ih

  pub symbol_named : (n : ℕ) → number_of x (symbols_at w t first n) ≡ value_found w (row_named w t x first n)
  unfolding row_named number_of symbols_at
  symbol_named zero = refl
  symbol_named (suc n) = go (symbol_named n) (same x (name_at w t (first + n)))
    where
      go : number_of x (symbols_at w t first n) ≡ value_found w (row_named w t x first n) → (b : Bool) → cond b (some (value_at w (first + n))) (number_of x (symbols_at w t first n)) ≡ value_found w (cond b (Some (first + n)) (row_named w t x first n))
      go ih true = refl
      go ih false = ih

module _ (w : List ℕ) (z : ℤ) (first : ℕ) where
  pub numbered_none : (n : ℕ) → n ≤ 0 → row_numbered w z first n ≡ None
  unfolding row_numbered
  numbered_none zero h = refl
  numbered_none (suc n) h = absurd (not-suc-le-zero h)

  pub numbered_hit : (n : ℕ) {r : Bool} → 0 < n → r ≡ same_number z (value_at w (first + (n - 1))) → r ≡ true → row_numbered w z first n ≡ Some (first + (n - 1))
  unfolding row_numbered
  numbered_hit zero h e q = absurd (not-suc-le-zero h)
  numbered_hit (suc n) h e q = rw (sub-one) (rw (← (rw (sub-one) at e), q) refl)

  pub numbered_skip : (n : ℕ) {r : Bool} → 0 < n → r ≡ same_number z (value_at w (first + (n - 1))) → r ≡ false → row_numbered w z first n ≡ row_numbered w z first (n - 1)
  unfolding row_numbered
  numbered_skip zero h e q = absurd (not-suc-le-zero h)
  numbered_skip (suc n) h e q = rw (sub-one) (rw (← (rw (sub-one) at e), q) refl)

  pub symbol_numbered : (t : List ℕ) (n : ℕ) → symbol_of z (symbols_at w t first n) ≡ name_found w t (row_numbered w z first n)
  unfolding row_numbered symbol_of symbols_at
  symbol_numbered t zero = refl
  symbol_numbered t (suc n) = go (symbol_numbered t n) (same_number z (value_at w (first + n)))
    where
      go : symbol_of z (symbols_at w t first n) ≡ name_found w t (row_numbered w z first n) → (b : Bool) → cond b (some (name_at w t (first + n))) (symbol_of z (symbols_at w t first n)) ≡ name_found w t (cond b (Some (first + n)) (row_numbered w z first n))
      go ih true = refl
      go ih false = ih

-- the number of a row by the words that were read and the two signs
pub number_read : (w : List ℕ) (j : ℕ) {a low high : ℕ} {sign negative s n : Bool} (d : ℕ)
    → Reads (row_word w j 2) a → sign ≡ flag_of a → Reads (row_word w j 3) low → Reads (row_word w j 4) high → sign ≡ s → negative ≡ n
    → cond s (cond n (eqb d (low + high * 4294967296)) false) (cond n false (eqb d (low + high * 4294967296)))
    ≡ same_number (signed_by negative d) (value_at w j)
number_read w j {low = low} {high = high} {s = s} {n = n} d ra es rl rh es2 en = rw (← ra.is, ← rl.is, ← rh.is, ← es, es2, en) (go s n)
  where
    go : (s n : Bool) → cond s (cond n (eqb d (low + high * 4294967296)) false) (cond n false (eqb d (low + high * 4294967296))) ≡ same_number (signed_by n d) (signed_by s (low + high * 4294967296))
    go true true = refl
    go true false = refl
    go false true = refl
    go false false = refl

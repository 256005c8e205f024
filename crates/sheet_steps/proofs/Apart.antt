-- Members that lie apart, row by row, and the tests of a new value or member by its rows. Assumes nothing.
use mathlib.Core.Path.{◌≡◌, refl}
use mathlib.Core.Bool.{Bool, true, false}
use mathlib.Core.List.{List}
use Prim.Native.Nat.{ℕ, zero, suc, ◌+◌, ◌-◌, ◌<◌, ◌≤◌}
use native.Mathlib.Nat.{not-suc-le-zero}
use native.Mathlib.Numerals.{sub-one}
use lib.IntN.{ℤ}
use Rattle.datatype.specs.Datatype.{Datatype, size}
use Rattle.datatype.specs.Symbols.{symbol_of, number_of}
use Rattle.datatype.specs.Paths.{member_named, on_found}
use Rattle.std.specs.Prelude.{Option, Some, None, is_some}
use mathlib.Core.Bool.{not}
use Rattle.table.specs.Table.{size_word, member_type_word, symbols_at, members_at, decode, type_at}
use Rattle.table.specs.Rows.{row_named, row_numbered, member_found, value_found, name_found}
use Rattle.table.proofs.Lookups.{member_named_lem, symbol_named, symbol_numbered}
use Rattle.table.proofs.Made.{node_size}
use Rattle.sheet.specs.Sheet.{is_none, is_apart}
use Rattle.sheet_steps.specs.Steps.{is_beside, apart_at}

-- ---- rows that were not found

module _ (w t x : List ℕ) (first n : ℕ) where
  pub name_missing : {f : Option ℕ} {b : Bool} → f ≡ row_named w t x first n → b ≡ not (is_some f) → is_none (number_of x (symbols_at w t first n)) ≡ b
  name_missing {f} e q = rw (symbol_named w t x first n, ← e, q) (go f)
    where
      go : (f : Option ℕ) → is_none (value_found w f) ≡ not (is_some f)
      go (Some j) = refl
      go None = refl

  pub member_missing : (D : ℕ → Datatype) {f : Option ℕ} {b : Bool} → f ≡ row_named w t x first n → b ≡ not (is_some f) → on_found (λ o T. false) true (member_named x (members_at D w t first n)) ≡ b
  member_missing D {f} e q = rw (member_named_lem w t x first D n, ← e, q) (go f)
    where
      go : (f : Option ℕ) → on_found (λ o T. false) true (member_found D w f) ≡ not (is_some f)
      go (Some j) = refl
      go None = refl

pub number_missing : (w t : List ℕ) (z : ℤ) (first n : ℕ) {f : Option ℕ} {b : Bool} → f ≡ row_numbered w z first n → b ≡ is_some f → is_none (symbol_of z (symbols_at w t first n)) ≡ not b
number_missing w t z first n {f} e q = rw (symbol_numbered w z first t n, ← e, q) (go f)
  where
    go : (f : Option ℕ) → is_none (name_found w t f) ≡ not (is_some f)
    go (Some j) = refl
    go None = refl

-- ---- overlaps

-- every type says its size, whatever the table holds
all_sized : (w t : List ℕ) (k : ℕ) → size (type_at w t k) ≡ size_word w k
unfolding decode
all_sized w t k = node_size (decode 63 w t) w t k

pub apart_is : (w t : List ℕ) (first n offset width : ℕ) → is_apart offset width (members_at (type_at w t) w t first n) ≡ apart_at w first n offset width
unfolding is_apart members_at apart_at is_beside
apart_is w t first zero offset width = refl
apart_is w t first (suc n) offset width = rw (all_sized w t (member_type_word w (first + n)), apart_is w t first n offset width) refl

module _ (w : List ℕ) (first offset width : ℕ) where
  pub apart_none : (n : ℕ) → n ≤ 0 → apart_at w first n offset width ≡ true
  unfolding apart_at
  apart_none zero h = refl
  apart_none (suc n) h = absurd (not-suc-le-zero h)

  pub apart_hit : (n : ℕ) {b : Bool} → 0 < n → b ≡ is_beside w (first + (n - 1)) offset width → b ≡ false → apart_at w first n offset width ≡ false
  unfolding apart_at
  apart_hit zero h e q = absurd (not-suc-le-zero h)
  apart_hit (suc n) h e q = rw (← (rw sub-one at e), q) refl

  pub apart_skip : (n : ℕ) {b : Bool} → 0 < n → b ≡ is_beside w (first + (n - 1)) offset width → b ≡ true → apart_at w first n offset width ≡ apart_at w first (n - 1) offset width
  unfolding apart_at
  apart_skip zero h e q = absurd (not-suc-le-zero h)
  apart_skip (suc n) h e q = rw (sub-one, ← (rw sub-one at e), q) refl

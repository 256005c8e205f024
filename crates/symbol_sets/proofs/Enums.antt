-- Types among which there is no enum keep the symbols of every source. Assumes nothing.
use mathlib.Core.Path.{◌≡◌, refl, sym, ◌∙◌}
use mathlib.Core.Bool.{Bool, true, false, cond, ◌||◌, false≢true}
use mathlib.Core.List.{List}
use Prim.Native.Nat.{ℕ, zero, suc, ◌+◌, ◌-◌, ◌≤◌, ◌<◌}
use native.Mathlib.Nat.{not-suc-le-zero}
use native.Mathlib.Decide.{dec_lt, ℕ_discrete}
use native.Mathlib.Numerals.{sub-one}
use native.Mathlib.Omega.{arith}
use borrow.Author.Tests.{eq-eqb, ne_eqb, le-ltb}
use lib.Dec.{eqb}
use Rattle.datatype.specs.Datatype.{Datatype, Members}
use Rattle.datatype.specs.Paths.{member_named, members_of, is_array_like, base_of}
use Rattle.datatype.specs.SymbolSets.{keeps_symbols, keeps_in}
use Rattle.table.specs.Table.{type_word, base_word, first_word, rows_word, name_at, member_type_word, dimensions_at, members_at, node, decode}
use Rattle.paths.specs.Steps.{kind_of, kind_at}
use Rattle.paths.proofs.Shapes.{tree_kind, tree_kind_lem, compound_node, array_node}
use Rattle.symbol_sets.specs.Seen.{any_enum}
use Rattle.symbol_sets.proofs.Turns.{number_keeps, all_found}

-- ---- one type after the other

module _ (w : List ℕ) where
  pub enum_none : (n : ℕ) → n ≤ 0 → any_enum w n ≡ false
  unfolding any_enum
  enum_none zero h = refl
  enum_none (suc n) h = absurd (not-suc-le-zero h)

  pub enum_hit : (n : ℕ) {k : ℕ} → 0 < n → k ≡ kind_at w (n - 1) → k ≡ 2 → any_enum w n ≡ true
  unfolding any_enum
  enum_hit zero h is e = absurd (not-suc-le-zero h)
  enum_hit (suc n) h is e = rw (eq-eqb (kind_at w n) 2 (rw sub-one at (sym is ∙ e))) refl

  pub enum_skip : (n : ℕ) {k : ℕ} → 0 < n → k ≡ kind_at w (n - 1) → (k ≡ 2 → ⊥) → any_enum w n ≡ any_enum w (n - 1)
  unfolding any_enum
  enum_skip zero h is e = absurd (not-suc-le-zero h)
  enum_skip (suc n) h is e = rw (sub-one, ne_eqb (kind_at w n) 2 (λ q. e (is ∙ rw sub-one q))) refl

  -- ---- none of all

  not_enum : (n i : ℕ) → any_enum w n ≡ false → i < n → kind_at w i ≡ 2 → ⊥
  unfolding any_enum
  not_enum zero i e h q = not-suc-le-zero h
  not_enum (suc n) i e h q = go (λ f l. not_enum n i f l q) (eqb (kind_at w n) 2) refl e (ℕ_discrete i n)
    where
      go : (any_enum w n ≡ false → i < n → ⊥) → (b : Bool) → eqb (kind_at w n) 2 ≡ b → b || any_enum w n ≡ false → Dec (i ≡ n) → ⊥
      go later true p f d = false≢true (sym f)
      go later false p f (yes d) = false≢true (sym p ∙ eq-eqb (kind_at w n) 2 (rw d at q))
      go later false p f (no d) = later f (omega (arith, d))

  kind_past : (i : ℕ) → 64 ≤ i → kind_at w i ≡ 0
  unfolding type_word kind_of
  kind_past i h = rw (le-ltb i 64 h) refl

  no_enum : any_enum w 64 ≡ false → (i : ℕ) → kind_at w i ≡ 2 → ⊥
  no_enum e i q = go (dec_lt i 64)
    where
      go : Dec (i < 64) → ⊥
      go (yes h) = not_enum 64 i e h q
      go (no h) = let z : kind_at w i ≡ 0 = kind_past i (omega (arith, h)) in omega (arith, sym z ∙ q)

-- ---- so every symbol is kept

either : (b : Bool) → cond b true true ≡ true
either true = refl
either false = refl

module _ (w t : List ℕ) (D : ℕ → Datatype) (inner : (k : ℕ) (S : Datatype) → keeps_symbols S (D k) ≡ true) where
  free_members : (ss : Members) (first n : ℕ) → keeps_in ss (members_at D w t first n) ≡ true
  unfolding members_at keeps_symbols
  free_members ss first zero = refl
  free_members ss first (suc n) = rw (all_found (D (member_type_word w (first + n))) (inner (member_type_word w (first + n))) (member_named (name_at w t (first + n)) ss), free_members ss first n) refl

  free_node : (i : ℕ) → (kind_at w i ≡ 2 → ⊥) → (S : Datatype) → keeps_symbols S (node D w t i) ≡ true
  unfolding keeps_symbols
  free_node i h S = go (ℕ_discrete (kind_at w i) 3) (ℕ_discrete (kind_at w i) 4)
    where
      is : tree_kind (node D w t i) ≡ kind_at w i
      is = tree_kind_lem D w t i

      go : Dec (kind_at w i ≡ 3) → Dec (kind_at w i ≡ 4) → keeps_symbols S (node D w t i) ≡ true
      go (yes k) m = rw (compound_node D w t i k) (free_members (members_of S) (first_word w i) (rows_word w i))
      go (no k) (yes m) = rw (array_node D w t i m, inner (base_word w i) (base_of S)) (either (is_array_like S (dimensions_at w i)))
      go (no k) (no m) = number_keeps S (node D w t i) (λ e. h (sym is ∙ e)) (λ e. k (sym is ∙ e)) (λ e. m (sym is ∙ e))

free_keeps : (w t : List ℕ) → ((i : ℕ) → kind_at w i ≡ 2 → ⊥) → (f i : ℕ) (S : Datatype) → keeps_symbols S (decode f w t i) ≡ true
unfolding decode keeps_symbols
free_keeps w t free zero i S = refl
free_keeps w t free (suc f) i S = free_node w t (decode f w t) (λ k T. free_keeps w t free f k T) i (free i) S

pub no_enum_keeps : (w t : List ℕ) (i : ℕ) (S : Datatype) → any_enum w 64 ≡ false → keeps_symbols S (decode 64 w t i) ≡ true
no_enum_keeps w t i S e = free_keeps w t (no_enum w e) 64 i S

-- The types of a table by their numbers. Assumes nothing.
use mathlib.Core.Path.{◌≡◌, refl, sym, ap, ◌∙◌}
use mathlib.Core.Bool.{Bool, true, false, cond}
use mathlib.Core.List.{List, []}
use mathlib.Core.Option.{some}
use Prim.Native.Nat.{ℕ, zero, suc, ◌<◌, ◌≤◌}
use native.Mathlib.Omega.{arith}
use borrow.Author.Tests.{ne_eqb, eqb-true, eqb-false, ltb-true, ltb-false, lt-ltb, le-ltb}
use lib.Dec.{eqb, ltb}
use lib.ListN.{length}
use Rattle.datatype.specs.Datatype.{size}
use Rattle.text.specs.Field.{when}
use Rattle.table.specs.Table.{type_at, types_at, size_word, Holds}
use Rattle.table.proofs.Keeps.{type_is}
use Rattle.table.proofs.Made.{node_size}
use Rattle.sheet.specs.Sheet.{type_numbered, is_nil}
use Rattle.sheet_steps.specs.Judged.{so_far_at}

pub types_length : (w t : List ℕ) (n : ℕ) → length (types_at w t n) ≡ n
unfolding types_at
types_length w t zero = refl
types_length w t (suc n) = ap suc (types_length w t n)

below_next : (k n : ℕ) → (k ≡ n → ⊥) → ltb k n ≡ ltb k (suc n)
below_next k n ne = go (ltb k n) refl
  where
    go : (b : Bool) → ltb k n ≡ b → ltb k n ≡ ltb k (suc n)
    go true e =
        let x : k < n = ltb-true _ _ e in
        rw (e, lt-ltb k (suc n) (omega arith))
    go false e =
        let x : n ≤ k = ltb-false _ _ e in
        rw (e, le-ltb k (suc n) (omega arith))

pub type_numbered_lem : (w t : List ℕ) (k n : ℕ) → type_numbered k (types_at w t n) ≡ when (ltb k n) (type_at w t k)
unfolding types_at type_numbered
type_numbered_lem w t k zero = rw (le-ltb k 0 (omega arith))
type_numbered_lem w t k (suc n) = rw (types_length w t n) (go (type_numbered_lem w t k n) (eqb k n) refl)
  where
    go : type_numbered k (types_at w t n) ≡ when (ltb k n) (type_at w t k) → (b : Bool) → eqb k n ≡ b
        → cond b (some (type_at w t n)) (type_numbered k (types_at w t n)) ≡ when (ltb k (suc n)) (type_at w t k)
    go ih true e =
        let same : k ≡ n = eqb-true _ _ e in
        rw (lt-ltb k (suc n) (omega arith), same)
    go ih false e =
        ih ∙ ap (λ (b : Bool). when b (type_at w t k)) (below_next k n (eqb-false _ _ e))

-- every type of the table says its size
pub type_size : {w : List ℕ} {n m : ℕ} (t : List ℕ) → Holds w n m → (i : ℕ) → i < n → size (type_at w t i) ≡ size_word w i
type_size {w} t h i x = ap size (type_is t h i x) ∙ node_size (type_at w t) w t i

-- before the first line
pub so_far_none : (w t : List ℕ) → so_far_at w t 0 0 ≡ record { types = []; rows = 0 }
unfolding types_at
so_far_none w t = refl

pub no_types : (w t : List ℕ) (n : ℕ) → is_nil (types_at w t n) ≡ eqb n 0
unfolding types_at
no_types w t zero = refl
no_types w t (suc n) = sym (ne_eqb (suc n) 0 (λ e. omega arith))

-- A plan says of a record what the datatypes' definitions say, and its entries are sound. Assumes nothing.
use mathlib.Core.Path.{◌≡◌, refl, ◌∙◌}
use mathlib.Core.List.{List, ◌∷◌}
use mathlib.Core.Option.{none, some}
use Prim.Native.Nat.{ℕ, zero, suc, ◌+◌}
use native.Mathlib.Nat.{zero-add}
use native.Mathlib.Omega.{arith}
use Rattle.number.specs.Place.{stored}
use Rattle.datatype.specs.Datatype.{layout_of, Datatype, size}
use Rattle.datatype.specs.Symbols.{on_some}
use Rattle.datatype.specs.Matches.{Match, on_match, match_at}
use Rattle.datatype.specs.Matches.Match.{unmatched, matched}
use Rattle.datatype.specs.WellFormed.{WellFormed}
use Rattle.datatype.proofs.Matches.{in_range, match_formed}
use Rattle.records.specs.Leaf.{number_in, converted}
use Rattle.records.specs.Record.{reading, with_leaf, with_leaves_below, converted_record, kind_at, nothing_given, given_at, raises, raised_below, or_later, first_raising}
use Rattle.records.specs.Plan.{plan_from, plan_of, written, raised_by, Raised, or_else, first_by, AllSound}
use Rattle.records.specs.Plan.Raised.{nowhere, at}

module _ (S D : Datatype) (r : List ℕ) where
  -- ---- one byte of the destination record

  written_next : (b k : ℕ) (d : List ℕ) → written (plan_from S D b (suc k)) r d ≡ written (plan_from S D (suc b) k) r (with_leaf S D (reading S D r) b d)
  unfolding plan_from written with_leaf reading
  written_next b k d = go (match_at S D b)
    where
      go : (m : Match)
          → written (on_match (λ a x y. record { to = b; from = a; source = x; destination = y } ∷ plan_from S D (suc b) k) (plan_from S D (suc b) k) m) r d
          ≡ written (plan_from S D (suc b) k) r
          (on_match (λ a x y. on_some (λ z. stored (layout_of y) b (converted x y z).raw d) d (on_match (λ a x y. some (number_in x a r)) none m)) d m)
      go unmatched = refl
      go (matched a x y) = refl

  raised_next : (b k : ℕ) → raised_by (plan_from S D b (suc k)) r ≡ raises (kind_at S D (reading S D r) b) + raised_by (plan_from S D (suc b) k) r
  unfolding plan_from raised_by kind_at reading
  raised_next b k = go (match_at S D b)
    where
      go : (m : Match)
          → raised_by (on_match (λ a x y. record { to = b; from = a; source = x; destination = y } ∷ plan_from S D (suc b) k) (plan_from S D (suc b) k) m) r
          ≡ raises (on_match (λ a x y. on_some (λ z. (converted x y z).kind) 0 (on_match (λ a x y. some (number_in x a r)) none m)) 0 m)
          + raised_by (plan_from S D (suc b) k) r
      go unmatched = omega arith
      go (matched a x y) = refl

  first_next : (b k : ℕ) → first_by (plan_from S D b (suc k)) r
      ≡ or_else b (kind_at S D (reading S D r) b) (given_at S D (reading S D r) b) (first_by (plan_from S D (suc b) k) r)
  unfolding plan_from first_by kind_at given_at reading
  first_next b k = go (match_at S D b)
    where
      go : (m : Match)
          → first_by (on_match (λ a x y. record { to = b; from = a; source = x; destination = y } ∷ plan_from S D (suc b) k) (plan_from S D (suc b) k) m) r
          ≡ or_else b (on_match (λ a x y. on_some (λ z. (converted x y z).kind) 0 (on_match (λ a x y. some (number_in x a r)) none m)) 0 m)
          (on_match (λ a x y. on_some (λ z. (converted x y z).given) nothing_given (on_match (λ a x y. some (number_in x a r)) none m)) nothing_given m)
          (first_by (plan_from S D (suc b) k) r)
      go unmatched = refl
      go (matched a x y) = refl

  -- ---- the bytes from b on

  -- the leaf at byte c, where it raises an exception
  abbrev raised : ℕ → Raised
  raised c = at c (kind_at S D (reading S D r) c) (given_at S D (reading S D r) c)

  written_from : (b k : ℕ) (d : List ℕ)
      → written (plan_from S D b k) r (with_leaves_below S D (reading S D r) b d) ≡ with_leaves_below S D (reading S D r) (b + k) d
  unfolding plan_from written with_leaves_below
  written_from b zero d = let e : b + 0 ≡ b = omega arith in rw e
  written_from b (suc k) d =
      let e : b + suc k ≡ suc b + k = omega arith in
      rw e (written_next b k (with_leaves_below S D (reading S D r) b d) ∙ written_from (suc b) k d)

  raised_from : (b k : ℕ) → raised_below S D (reading S D r) b + raised_by (plan_from S D b k) r ≡ raised_below S D (reading S D r) (b + k)
  unfolding plan_from raised_by raised_below
  raised_from b zero = let e : b + 0 ≡ b = omega arith in rw e (omega arith)
  raised_from b (suc k) =
      let e : b + suc k ≡ suc b + k = omega arith in
      rw (e, raised_next b k) (omega (arith, raised_from (suc b) k))

  first_from : (b k : ℕ)
      → first_by (plan_from S D b k) r ≡ on_some raised nowhere (first_raising (kind_at S D (reading S D r)) b k)
  unfolding plan_from first_by first_raising
  first_from b zero = refl
  first_from b (suc k) = first_next b k ∙ go (first_from (suc b) k) (kind_at S D (reading S D r) b) refl
    where
      go : first_by (plan_from S D (suc b) k) r ≡ on_some raised nowhere (first_raising (kind_at S D (reading S D r)) (suc b) k)
          → (j : ℕ) → kind_at S D (reading S D r) b ≡ j
          → or_else b (kind_at S D (reading S D r) b) (given_at S D (reading S D r) b) (first_by (plan_from S D (suc b) k) r)
          ≡ on_some raised nowhere (or_later b (kind_at S D (reading S D r) b) (first_raising (kind_at S D (reading S D r)) (suc b) k))
      go later zero q = simp q later
      go later (suc j) q = simp q

  -- ---- the whole record

  pub plan_written : (d : List ℕ) → written (plan_of S D) r d ≡ converted_record S D (reading S D r) d
  unfolding with_leaves_below
  plan_written d = rw zero-add at (written_from 0 (size D) d)

  pub plan_raised : raised_by (plan_of S D) r ≡ raised_below S D (reading S D r) (size D)
  unfolding raised_below
  plan_raised = simp zero-add at (raised_from 0 (size D))

  -- nowhere if no leaf raises; else the lowest byte whose leaf does, its kind, and what was given
  pub plan_first : first_by (plan_of S D) r
      ≡ on_some (λ b. at b (kind_at S D (reading S D r) b) (given_at S D (reading S D r) b)) nowhere (first_raising (kind_at S D (reading S D r)) 0 (size D))
  plan_first = first_from 0 (size D)

-- ---- the entries lie inside their records, between well-formed leaves

module _ (S D : Datatype) (f : WellFormed S) (g : WellFormed D) where
  sound_from : (b k : ℕ) → AllSound (size S) (size D) (plan_from S D b k)
  unfolding plan_from
  sound_from b zero = tt
  sound_from b (suc k) = go (sound_from (suc b) k) (match_at S D b) refl
    where
      go : AllSound (size S) (size D) (plan_from S D (suc b) k) → (m : Match) → match_at S D b ≡ m
          → AllSound (size S) (size D) (on_match (λ a x y. record { to = b; from = a; source = x; destination = y } ∷ plan_from S D (suc b) k) (plan_from S D (suc b) k) m)
      go later unmatched e = later
      go later (matched a x y) e =
          let inside = in_range S D f g b a x y e in
          let formed = match_formed S D f g b a x y e in
          (record { source = formed.0; destination = formed.1; read = inside.1; write = inside.0 }, later)

  pub plan_sound : AllSound (size S) (size D) (plan_of S D)
  plan_sound = sound_from 0 (size D)

-- The leaves that stop a call: those that obey stop and raise. Assumes nothing.
use mathlib.Core.Path.{◌≡◌, refl, sym, ap, ◌∙◌}
use mathlib.Core.List.{List}
use mathlib.Core.Option.{Option, none, some}
use Prim.Native.Nat.{ℕ, zero, suc, ◌≤◌}
use native.Mathlib.Omega.{arith}
use lib.IntN.{ℤ}
use Rattle.answer.specs.declared.Given.{Given}
use Rattle.datatype.specs.Datatype.{Datatype}
use Rattle.datatype.specs.Symbols.{on_some}
use Rattle.datatype.specs.Matches.{Match, on_match, match_at}
use Rattle.datatype.specs.Matches.Match.{unmatched, matched}
use Rattle.datatype.specs.Handling.{handling_at, AllClamp}
use Rattle.datatype.proofs.Handling.{handling_most}
use Rattle.datatype.proofs.Stopping.{stopping, stopping_match}
use Rattle.datatype.proofs.Stopping as types
use Rattle.records.specs.Leaf.{number_in, converted}
use Rattle.records.specs.Record.{Reading, reading, kind_at, nothing_given, given_at, first_raising, or_later, if_stop, stop_kind_at}

if_raises : (g k : ℕ) → g ≤ 1 → 1 ≤ if_stop g k → (g ≡ 1) × (if_stop g k ≡ k)
if_raises zero k l h = absurd (omega arith)
if_raises (suc g) k l h = (omega arith, refl)

if_quiet : (g k : ℕ) → if_stop g k ≡ 0 → g ≡ 1 → k ≡ 0
if_quiet zero k e o = absurd (omega arith)
if_quiet (suc g) k e o = e

quiet_if : (g k : ℕ) → g ≤ 1 → (g ≡ 1 → k ≡ 0) → if_stop g k ≡ 0
quiet_if zero k l h = refl
quiet_if (suc g) k l h = h (omega arith)

module _ (h : ℕ) (S D : Datatype) (f : Reading) (b : ℕ) where
  -- what stops a call obeys stop and raises
  pub stop_raises : h ≤ 1 → 1 ≤ stop_kind_at h S D f b → (handling_at h D b ≡ 1) × (stop_kind_at h S D f b ≡ kind_at S D f b)
  unfolding stop_kind_at
  stop_raises l k = if_raises (handling_at h D b) (kind_at S D f b) (handling_most h D b l) k

  -- and what does both stops it
  pub stop_quiet : stop_kind_at h S D f b ≡ 0 → handling_at h D b ≡ 1 → kind_at S D f b ≡ 0
  unfolding stop_kind_at
  stop_quiet e o = if_quiet (handling_at h D b) (kind_at S D f b) e o

  pub quiet_stop : h ≤ 1 → (handling_at h D b ≡ 1 → kind_at S D f b ≡ 0) → stop_kind_at h S D f b ≡ 0
  unfolding stop_kind_at
  quiet_stop l k = quiet_if (handling_at h D b) (kind_at S D f b) (handling_most h D b l) k

  clamp_stops_nothing : handling_at h D b ≡ 0 → stop_kind_at h S D f b ≡ 0
  unfolding stop_kind_at
  clamp_stops_nothing e = rw e

  pub raise_nothing : kind_at S D f b ≡ 0 → stop_kind_at h S D f b ≡ 0
  unfolding stop_kind_at
  raise_nothing e = rw e (go (handling_at h D b))
    where
      go : (g : ℕ) → if_stop g 0 ≡ 0
      go zero = refl
      go (suc g) = refl

-- where each matched leaf obeys clamp, none stops a call
pub all_clamp : (h : ℕ) (S D : Datatype) → AllClamp h S D → (f : Reading) (b : ℕ) → stop_kind_at h S D f b ≡ 0
unfolding kind_at
all_clamp h S D all f b = go (match_at S D b) refl
  where
    go : (m : Match) → match_at S D b ≡ m → stop_kind_at h S D f b ≡ 0
    go unmatched e = raise_nothing h S D f b (rw e)
    go (matched a x y) e = clamp_stops_nothing h S D f b (all b a x y e)

-- ---- the search for what stops a call is that for what raises, to the datatype of which only the leaves that obey stop are left

module _ (h : ℕ) (S D : Datatype) (r : List ℕ) (b : ℕ) where
  pub stopping_kind : kind_at S (stopping h D) (reading S (stopping h D) r) b ≡ stop_kind_at h S D (reading S D r) b
  unfolding kind_at stop_kind_at reading
  stopping_kind = rw (stopping_match h S D b) (go (handling_at h D b) (match_at S D b))
    where
      go : (g : ℕ) (m : Match)
          → on_match (λ a x y. on_some (λ z. (converted x y z).kind) 0 (on_match (λ a x y. some (number_in x a r)) none (types.if_stop g m))) 0 (types.if_stop g m)
          ≡ if_stop g (on_match (λ a x y. on_some (λ z. (converted x y z).kind) 0 (on_match (λ a x y. some (number_in x a r)) none m)) 0 m)
      go zero m = refl
      go (suc g) m = refl

  pub stopping_given : handling_at h D b ≡ 1 → given_at S (stopping h D) (reading S (stopping h D) r) b ≡ given_at S D (reading S D r) b
  unfolding given_at reading
  stopping_given e = rw (stopping_match h S D b, e)

-- the search turns on the kinds alone
pub first_alike : (p q : ℕ → ℕ) → ((c : ℕ) → p c ≡ q c) → (b k : ℕ) → first_raising p b k ≡ first_raising q b k
unfolding first_raising
first_alike p q h b zero = refl
first_alike p q h b (suc k) = rw (h b, first_alike p q h (suc b) k)

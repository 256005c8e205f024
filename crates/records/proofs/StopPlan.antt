-- The plan to the leaves that obey stop finds what stops a call. Assumes nothing.
use mathlib.Core.Path.{◌≡◌, refl, ap, ap₂, ◌∙◌}
use mathlib.Core.List.{List}
use mathlib.Core.Option.{Option, none, some}
use Prim.Native.Nat.{ℕ, ◌≤◌}
use Rattle.answer.specs.declared.Given.{Given}
use Rattle.datatype.specs.Datatype.{Datatype, size}
use Rattle.datatype.specs.Symbols.{on_some}
use Rattle.datatype.proofs.Stopping.{stopping, stopping_size}
use Rattle.records.specs.Record.{reading, kind_at, given_at, first_raising, stop_kind_at}
use Rattle.records.specs.Plan.{plan_of, Raised, first_by}
use Rattle.records.specs.Plan.Raised.{nowhere, at}
use Rattle.records.proofs.FirstRaising.{first_lowest}
use Rattle.records.proofs.Stopping.{stop_raises, stopping_kind, stopping_given, first_alike}
use Rattle.records.proofs.Plans.{plan_first}

module _ (h : ℕ) (few : h ≤ 1) (S D : Datatype) (r : List ℕ) where
  pub plan_stops : first_by (plan_of S (stopping h D)) r
      ≡ on_some (λ b. at b (kind_at S D (reading S D r) b) (given_at S D (reading S D r) b)) nowhere (first_raising (stop_kind_at h S D (reading S D r)) 0 (size D))
  plan_stops =
      plan_first S (stopping h D) r
      ∙ ap (λ (z : ℕ). on_some raised nowhere (first_raising (kind_at S (stopping h D) (reading S (stopping h D) r)) 0 z)) (stopping_size h D)
      ∙ ap (on_some raised nowhere) (first_alike (kind_at S (stopping h D) (reading S (stopping h D) r)) (stop_kind_at h S D (reading S D r)) (stopping_kind h S D r) 0 (size D))
      ∙ go (first_raising (stop_kind_at h S D (reading S D r)) 0 (size D)) refl
    where
      raised : ℕ → Raised
      raised b = at b (kind_at S (stopping h D) (reading S (stopping h D) r) b) (given_at S (stopping h D) (reading S (stopping h D) r) b)

      go : (o : Option ℕ) → first_raising (stop_kind_at h S D (reading S D r)) 0 (size D) ≡ o
          → on_some raised nowhere o ≡ on_some (λ b. at b (kind_at S D (reading S D r) b) (given_at S D (reading S D r) b)) nowhere o
      go none e = refl
      go (some b) e =
          let w = first_lowest (stop_kind_at h S D (reading S D r)) 0 (size D) b e in
          let both = stop_raises h S D (reading S D r) b few w.raises in
          ap₂ (at b) (stopping_kind h S D r b ∙ both.1) (stopping_given h S D r b both.0)

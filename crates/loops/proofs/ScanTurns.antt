-- A turn of the search for the first exception. Assumes nothing.
use mathlib.Core.Path.{◌≡◌, refl, sym, ◌∙◌}
use mathlib.Core.List.{List}
use Prim.Native.Nat.{ℕ, suc, ◌+◌, ◌-◌, ◌≤◌, ◌<◌}
use native.Mathlib.Omega.{arith}
use Rattle.std.specs.Prelude.{Option, Some, None}
use Rattle.plans.specs.declared.LeafException.{LeafException}
use Rattle.records.specs.Records.{record_at}
use Rattle.records.specs.Plan.{Entry, Raised, first_by}
use Rattle.records.specs.Plan.Raised.{nowhere, at}
use Rattle.plans.specs.PlanEntries.{raising_of}
use Rattle.loops.specs.declared.Exception.{Exception}
use Rattle.loops.specs.Stops.{or_stop, stop_by}

module _ (es : List Entry) (s : ℕ) (source : List ℕ) where
  stop_next : (c i : ℕ) → i < c → stop_by es s source i (c - i) ≡ or_stop i (first_by es (record_at s i source)) (stop_by es s source (i + 1) (c - (i + 1)))
  unfolding stop_by
  stop_next c i h = let e : c - i ≡ suc (c - (i + 1)) = omega arith in rw e

  pub stop_start : (c : ℕ) → stop_by es s source 0 c ≡ stop_by es s source 0 (c - 0)
  stop_start c = let e : c - 0 ≡ c = omega arith in rw e

  pub stop_end : (c i : ℕ) → c ≤ i → stop_by es s source 0 c ≡ stop_by es s source i (c - i) → None ≡ stop_by es s source 0 c
  unfolding stop_by
  stop_end c i h inv = let e : c - i ≡ 0 = omega arith in sym (inv ∙ rw e)

  -- what a leaf of record i raises
  abbrev pub exception_at : ℕ → LeafException → Exception
  exception_at i e = record { «record» = i; byte = e.byte; kind = e.kind; given = e.given }

  pub stop_found : (c i : ℕ) (e : LeafException) (r : Option LeafException) → i < c → stop_by es s source 0 c ≡ stop_by es s source i (c - i)
      → r ≡ raising_of (first_by es (record_at s i source)) → r ≡ Some e → Some (exception_at i e) ≡ stop_by es s source 0 c
  stop_found c i e r h inv q was = sym (inv ∙ stop_next c i h ∙ go (first_by es (record_at s i source)) (sym was ∙ q))
    where
      go : (x : Raised) → Some e ≡ raising_of x → or_stop i x (stop_by es s source (i + 1) (c - (i + 1))) ≡ Some (exception_at i e)
      go nowhere w = let none : ⊥ = cc in absurd none
      go (at b kind given) w = let same : e ≡ record { byte = b; kind = kind; given = given } = cc in rw same

  pub stop_turn : (c i : ℕ) (r : Option LeafException) → i < c → stop_by es s source 0 c ≡ stop_by es s source i (c - i)
      → r ≡ raising_of (first_by es (record_at s i source)) → r ≡ None → stop_by es s source 0 c ≡ stop_by es s source (i + 1) (c - (i + 1))
  stop_turn c i r h inv q was = inv ∙ stop_next c i h ∙ go (first_by es (record_at s i source)) (sym was ∙ q)
    where
      go : (x : Raised) → None ≡ raising_of x → or_stop i x (stop_by es s source (i + 1) (c - (i + 1))) ≡ stop_by es s source (i + 1) (c - (i + 1))
      go nowhere w = refl
      go (at b kind given) w = let none : ⊥ = cc in absurd none

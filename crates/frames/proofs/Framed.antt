-- The plan of a call as its records go by it. Assumes nothing.
use mathlib.Core.Path.{◌≡◌, refl, sym, ap, subst, ◌∙◌}
use mathlib.Core.Bool.{Bool}
use mathlib.Core.List.{List, []}
use Prim.Native.Nat.{ℕ, ◌≤◌}
use Rattle.std.specs.Prelude.{None, Result, Ok, Err}
use Rattle.datatype.specs.Datatype.{Datatype, size}
use Rattle.datatype.specs.WellFormed.{WellFormed}
use Rattle.datatype.proofs.Stopping.{stopping}
use Rattle.table.specs.Table.{type_at, size_word}
use Rattle.table.specs.Words.{Reads}
use Rattle.records.specs.Plan.{Entry, plan_of}
use Rattle.plans.specs.PlanWords.{entries_at, entries_from, Job}
use Rattle.loops.specs.declared.Exception.{Exception}
use Rattle.loops.specs.Stops.{stop_by}
use Rattle.obeying.specs.Obeying.{StopsOf}
use Rattle.obeying.proofs.StopMatches.{stopping_of}
use Rattle.plan_making.specs.Made.{Room, Made}
use Rattle.plan_making.proofs.Making.{large_room, job}
use Rattle.runs.specs.Run.Checked.{passed}
use Rattle.conversion.specs.Call.{form_of, source_of, background_of, HasRecords, LeavesIn, Passes, stopped, StopSays, Decided, LookSays}
use Rattle.conversion.proofs.Checking.{read_size, target_is}
use Rattle.conversion.proofs.Parts.{stops_with, stop_says, none_planned}

module _ {b : Bool} {ss ds : List ℕ} {n out other : ℕ} {ws : List ℕ} {i : ℕ} {wd : List ℕ} {k : ℕ} (passes : Passes b ss ds n out other ws i wd k) {s : ℕ}
    (rs : Reads (size_word ws i) s) where
  pub source_size_lem : s ≡ size (type_at ws ss i)
  source_size_lem = read_size ws ss i rs

  pub stop_records : HasRecords b n s (size (type_at wd ds k)) out other
  stop_records = rw source_size_lem passes.records

  -- by the plan to the leaves that obey stop
  unfoldable pub stop_job : {h : ℕ} {plan words : List ℕ} {e : ℕ} → ((E : Datatype) → StopsOf h (type_at wd ds k) E → Made ss ws i ds wd E plan e words)
      → Job s (size (type_at wd ds k)) plan e ws wd words
  unfolding job
  stop_job {h} made =
      let of = stopping_of h (type_at wd ds k) passes.types.destination in
      job passes.types of.formed (made (stopping h (type_at wd ds k)) of) source_size_lem (sym of.sized)

  module _ {d : ℕ} (rd : Reads (size_word wd k) d) where
    pub destination_size_lem : d ≡ size (type_at wd ds k)
    destination_size_lem = read_size wd ds k rd

    pub sized_records : HasRecords b n s d out other
    sized_records = rw (source_size_lem, destination_size_lem) passes.records

    unfoldable pub plan_job : {plan words : List ℕ} {e : ℕ} → Made ss ws i ds wd (type_at wd ds k) plan e words → Job s d plan e ws wd words
    unfolding job
    plan_job made = job passes.types passes.types.destination made source_size_lem destination_size_lem

-- the large arrays have the same room again
pub large_again : {b : Bool} {ss ds : List ℕ} {n out other : ℕ} {ws : List ℕ} {i : ℕ} {wd : List ℕ} {k p w : ℕ} → Passes b ss ds n out other ws i wd k → p ≡ 8192 → w ≡ 20480 → Room ds wd k p w
large_again {ds = ds} {wd = wd} {k = k} passes hp hw = rw (hp, hw) (large_room ds wd k passes.types)

-- ---- what is looked for by that plan

-- no leaf obeys stop
module _ (b : Bool) (n : ℕ) (o p ss ws : List ℕ) (i : ℕ) (ds wd : List ℕ) (k h : ℕ) (few : h ≤ 1) (formed : WellFormed (type_at wd ds k)) {plan words : List ℕ} {e : ℕ}
    (made : (E : Datatype) → StopsOf h (type_at wd ds k) E → Made ss ws i ds wd E plan e words) where
  pub none_stops : e ≡ 0 → StopSays h (type_at ws ss i) (type_at wd ds k) n (source_of b o p) None
  unfolding entries_from
  none_stops z =
      let D = type_at wd ds k in
      let S = type_at ws ss i in
      let empty : plan_of S (stopping h D) ≡ [] = sym (made (stopping h D) (stopping_of h D formed)).entries ∙ ap (λ (m : ℕ). entries_at plan m ws ss wd ds) z in
      stop_says n (source_of b o p) S D h (size S) few refl
      (sym (ap (λ (es : List Entry). stop_by es (size S) (source_of b o p) 0 n) empty ∙ none_planned (size S) (source_of b o p) 0 n))

-- ---- what follows from what was looked for

module _ (b : Bool) (n : ℕ) (o p : List ℕ) (S D : Datatype) (h : ℕ) {r : Result Bool Exception} (says : LookSays h S D n (source_of b o p) r) where
  pub look_decided : {scan : Bool} → r ≡ Ok scan → Decided h S D n (source_of b o p) scan
  look_decided e = subst (LookSays h S D n (source_of b o p)) e says

  pub look_stopped : {e : Exception} → r ≡ Err e → LeavesIn b h n o p (passed S D) (stopped e) o
  look_stopped e =
      rw (target_is b o p) at
      (stops_with (form_of b) n (source_of b o p) (background_of b o p) S D h (subst (LookSays h S D n (source_of b o p)) e says))

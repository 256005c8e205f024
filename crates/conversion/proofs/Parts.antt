-- What follows at each place where a call answers. Assumes nothing.
use mathlib.Core.Path.{◌≡◌, refl, sym, ap, ◌∙◌}
use mathlib.Core.Bool.{Bool, true, false, not, false≢true}
use mathlib.Core.List.{List, []}
use mathlib.Core.Option.{Option, none, some}
use Prim.Native.Nat.{ℕ, zero, suc, ◌+◌, ◌*◌, ◌≤◌, ◌<◌, max}
use native.Mathlib.Nat.{le_trans, mul-le-mul_left, mul-le-mul_right}
use native.Mathlib.Numerals.{add-one}
use native.Mathlib.Omega.{arith}
use borrow.Author.Tests.{le-leb, lt-leb, leb-true, leb-false}
use lib.Dec.{leb, eqb}
use Rattle.std.specs.Prelude as prelude
use Rattle.std.specs.Prelude.{Some, None}
use Rattle.answer.specs.declared.Answer.{Answer}
use Rattle.answer.specs.declared.Answer.TheVariants as answer
use Rattle.datatype.specs.Datatype.{Datatype, size}
use Rattle.datatype.specs.Symbols.{on_some}
use Rattle.datatype.specs.Paths.{has_path}
use Rattle.datatype.specs.SymbolSets.{keeps_symbols}
use Rattle.datatype.specs.Handling.{handling_at}
use Rattle.datatype.specs.WellFormed.{WellFormed}
use Rattle.datatype.proofs.Stopping.{stopping}
use Rattle.datatype.proofs.Matches.{size_most}
use Rattle.sheet.specs.Sheet.{sheet_of}
use Rattle.sheet.specs.Sheet.Sheet.{of_type, faulty_at}
use Rattle.records.specs.Record.{reading, kind_at, given_at, first_raising, stop_kind_at}
use Rattle.records.specs.Records.{record_at, readings, exceptions}
use Rattle.records.specs.Plan.{plan_of, first_by}
use Rattle.records.specs.Plan.Raised.{nowhere, at}
use Rattle.records.proofs.StopPlan.{plan_stops}
use Rattle.loops.specs.declared.Exception.{Exception}
use Rattle.loops.specs.Stops as stops
use Rattle.loops.specs.Stops.{stop_by}
use Rattle.runs.specs.Run.{Form, Checked, handled, target, result, if_done, has_room, stop_from, record_checks, type_checks, sheet_checks}
use Rattle.runs.specs.Run.Form.{copying, in_place}
use Rattle.runs.specs.Run.Checked.{refused, passed}
use Rattle.conversion.specs.Call.{Leaves, stopped, unless_stopped, StopSays, Decided}
use Rattle.runs.proofs.Exceptions.{clamped_handled}

-- ---- a refusal

pub refuses : (form : Form) (h n : ℕ) (source background : List ℕ) {c : Checked} {a : Answer} → c ≡ refused a → Leaves form h n source background c a (target form source background)
refuses form h n source background e = rw e (record { answers = refl; leaves = refl })

-- ---- everything is checked and planned

module _ (form : Form) (n : ℕ) (source background : List ℕ) (S D : Datatype) where
  -- the records were converted, and r exceptions counted
  abbrev pub Converted : ℕ → List ℕ → Type 0
  Converted r out = (out ≡ result form S D n source background) × (r ≡ exceptions S D n (readings S D source))

  -- by what the answer is
  pub converts : (h r : ℕ) (out : List ℕ) → handled h S D n (readings S D source) ≡ answer.Done (exceptions S D n (readings S D source)) → Converted r out
      → Leaves form h n source background (passed S D) (answer.Done r) out
  converts h r out is done =
      let e : handled h S D n (readings S D source) ≡ answer.Done r = is ∙ ap answer.Done (sym done.1) in
      record { answers = sym e; leaves = done.0 ∙ sym (ap (λ (a : Answer). if_done a (result form S D n source background) (target form source background)) e) }

  pub stops_with : (h : ℕ) {e : Exception} → StopSays h S D n source (Some e) → Leaves form h n source background (passed S D) (stopped e) (target form source background)
  stops_with h is =
      record { answers = sym is; leaves = sym (ap (λ (a : Answer). if_done a (result form S D n source background) (target form source background)) is) }

-- what the plan to the leaves that obey stop finds first is what STOP names; where it finds nothing, the call is done with this count
module _ (n : ℕ) (source : List ℕ) (S D : Datatype) where
  same_stop : (h : ℕ) → h ≤ 1 → (count i k : ℕ)
      → stop_from h S D (readings S D source) (answer.Done count) i k ≡ unless_stopped count (stop_by (plan_of S (stopping h D)) (size S) source i k)
  unfolding stop_from stop_by
  same_stop h few count i zero = refl
  same_stop h few count i (suc k) =
      rw (plan_stops h few S D (record_at (size S) i source), ← (add-one i))
      (go (first_raising (stop_kind_at h S D (reading S D (record_at (size S) i source))) 0 (size D)) (same_stop h few count (i + 1) k))
    where
      go : (o : Option ℕ) → stop_from h S D (readings S D source) (answer.Done count) (i + 1) k ≡ unless_stopped count (stop_by (plan_of S (stopping h D)) (size S) source (i + 1) k)
          → on_some (λ b. answer.Stop i b (kind_at S D (reading S D (record_at (size S) i source)) b) (given_at S D (reading S D (record_at (size S) i source)) b)) (stop_from h S D (readings S D source) (answer.Done count) (i + 1) k) o
          ≡ unless_stopped count (stops.or_stop i (on_some (λ b. at b (kind_at S D (reading S D (record_at (size S) i source)) b) (given_at S D (reading S D (record_at (size S) i source)) b)) nowhere o) (stop_by (plan_of S (stopping h D)) (size S) source (i + 1) k))
      go none e = e
      go (some b) e = refl

  pub stop_says : (h s : ℕ) → h ≤ 1 → s ≡ size S → {r : prelude.Option Exception} → r ≡ stop_by (plan_of S (stopping h D)) s source 0 n → StopSays h S D n source r
  stop_says h s few sized found =
      same_stop h few (exceptions S D n (readings S D source)) 0 n
      ∙ rw (← sized) (ap (unless_stopped (exceptions S D n (readings S D source))) (sym found))

-- a plan without entries finds nothing
pub none_planned : (s : ℕ) (source : List ℕ) (i k : ℕ) → stop_by [] s source i k ≡ None
unfolding stop_by first_by
none_planned s source i zero = refl
none_planned s source i (suc k) = none_planned s source (i + 1) k

-- each leaf obeys the call: nothing stops it, or anything that raises
pub obeys_decided : (h : ℕ) (S D : Datatype) (n : ℕ) (source : List ℕ) → h ≤ 1 → ((b : ℕ) → handling_at h D b ≡ h) → Decided h S D n source (eqb h 1)
obeys_decided zero S D n source few all = clamped_handled S D 0 n (readings S D source) (λ b a x y e. all b)
obeys_decided (suc zero) S D n source few all = all
obeys_decided (suc (suc h)) S D n source few all = absurd (omega arith)

-- ---- checks 5 to 7

module _ (form : Form) (n x y : ℕ) (S D : Datatype) where
  pub no_path : has_path S D ≡ false → type_checks form n x y S D ≡ refused answer.Path
  no_path e = rw e refl

  pub lost_symbols : has_path S D ≡ true → keeps_symbols S D ≡ false → type_checks form n x y S D ≡ refused answer.Symbols
  lost_symbols e h = rw (e, h) refl

  pub behind_types : has_path S D ≡ true → keeps_symbols S D ≡ true → type_checks form n x y S D ≡ record_checks form n x y S D
  behind_types e h = rw (e, h) refl

  pub many : 65536 < n → record_checks form n x y S D ≡ refused answer.Count
  many h = rw (lt-leb n 65536 h) refl

  -- s and d are the sizes
  module _ (few : n ≤ 65536) (s d : ℕ) (source : s ≡ size S) (destination : d ≡ size D) where
    pub no_room : has_room form n s d x y ≡ false → record_checks form n x y S D ≡ refused answer.Room
    no_room e = rw (le-leb n 65536 few, ← source, ← destination, e) refl

    pub all_pass : has_room form n s d x y ≡ true → record_checks form n x y S D ≡ passed S D
    all_pass e = rw (le-leb n 65536 few, ← source, ← destination, e) refl

-- ---- room

pub size_fits : (s : ℕ) (T : Datatype) → WellFormed T → s ≡ size T → s ≤ 4096
size_fits s T w e = rw e (size_most T w)

pub product_fits : (c s : ℕ) → c ≤ 65536 → s ≤ 4096 → c * s ≤ 268435456
product_fits c s h g = le_trans (mul-le-mul_left c g) (mul-le-mul_right 4096 h)

module _ (n S D x y : ℕ) where
  pub copying_short : x < n * S → has_room copying n S D x y ≡ false
  copying_short h = rw (lt-leb (n * S) x h) refl

  pub copying_small : n * S ≤ x → y < n * D → has_room copying n S D x y ≡ false
  copying_small g h = rw (le-leb (n * S) x g, lt-leb (n * D) y h) refl

  pub copying_room : n * S ≤ x → n * D ≤ y → has_room copying n S D x y ≡ true
  copying_room g h = rw (le-leb (n * S) x g, le-leb (n * D) y h) refl

  greater : (n * S ≤ n * max S D) × (n * D ≤ n * max S D)
  greater = (mul-le-mul_left n (omega arith), mul-le-mul_left n (omega arith))

  pub in_place_short : x < n * S → has_room in_place n S D x y ≡ false
  in_place_short h = rw (lt-leb (n * max S D) x (omega (arith, greater.0))) refl

  pub in_place_grown : x < n * D → has_room in_place n S D x y ≡ false
  in_place_grown h = rw (lt-leb (n * max S D) x (omega (arith, greater.1))) refl

  fits : n * S ≤ x → n * D ≤ x → n * max S D ≤ x
  fits g h = go (leb S D) refl
    where
      go : (t : Bool) → leb S D ≡ t → n * max S D ≤ x
      go true e =
          let l : S ≤ D = leb-true S D e in
          let m : max S D ≡ D = omega arith in
          rw m h
      go false e =
          let l : D < S = leb-false S D e in
          let m : max S D ≡ S = omega arith in
          rw m g

  pub in_place_small : n * S ≤ x → n * D ≤ x → y < n * D → has_room in_place n S D x y ≡ false
  in_place_small g h b = rw (le-leb (n * max S D) x (fits g h), lt-leb (n * D) y b) refl

  pub in_place_room : n * S ≤ x → n * D ≤ x → n * D ≤ y → has_room in_place n S D x y ≡ true
  in_place_room g h b = rw (le-leb (n * max S D) x (fits g h), le-leb (n * D) y b) refl

-- ---- a test that was negated

pub denied : (r t : Bool) → r ≡ t → not r ≡ true → t ≡ false
denied true t e h = absurd (false≢true h)
denied false t e h = sym e

pub granted : (r t : Bool) → r ≡ t → not r ≡ false → t ≡ true
granted true t e h = sym e
granted false t e h = absurd (false≢true (sym h))

-- ---- the two sheets

module _ (form : Form) (ss ds : List ℕ) (n x y : ℕ) where
  pub source_faulty : (k : ℕ) → sheet_of ss ≡ faulty_at k → sheet_checks form ss ds n x y ≡ refused (answer.Source k)
  source_faulty k e = rw e refl

  pub destination_faulty : {S : Datatype} (k : ℕ) → sheet_of ss ≡ of_type S → sheet_of ds ≡ faulty_at k → sheet_checks form ss ds n x y ≡ refused (answer.Destination k)
  destination_faulty k e f = rw (e, f) refl

  pub both_read : {S D : Datatype} → sheet_of ss ≡ of_type S → sheet_of ds ≡ of_type D → sheet_checks form ss ds n x y ≡ type_checks form n x y S D
  both_read e f = rw (e, f) refl

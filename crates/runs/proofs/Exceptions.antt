-- STOP and the count, and what each tells of the other. Assumes nothing.
use mathlib.Core.Path.{◌≡◌, refl, sym, ap, ap₂, ◌∙◌}
use mathlib.Core.Logic.{◌⊎◌, inl, inr, ⊎_elim}
use mathlib.Core.Option.{Option, none, some}
use Prim.Native.Nat.{ℕ, zero, suc, ◌+◌, ◌≤◌, ◌<◌}
use native.Mathlib.Nat.{le_refl, eq-or-lt_of_le, le_of_suc-le-suc}
use native.Mathlib.Omega.{arith}
use Rattle.answer.specs.declared.Answer.{Answer}
use Rattle.answer.specs.declared.Answer.TheVariants.{Done, Stop}
use Rattle.answer.specs.declared.Given.{Given}
use Rattle.answer.specs.Answer.{number_of}
use Rattle.datatype.specs.Datatype.{Datatype, size}
use Rattle.datatype.specs.Symbols.{on_some}
use Rattle.datatype.specs.Handling.{AllClamp}
use Rattle.records.specs.Record.{kind_at, given_at, first_raising, stop_kind_at}
use Rattle.records.specs.Records.{Readings, exceptions}
use Rattle.records.proofs.OneRecord.{none_raised}
use Rattle.records.proofs.FirstRaising.{first_none, none_first, first_lowest}
use Rattle.records.proofs.Stopping.{stop_raises, stop_quiet, raise_nothing, all_clamp}
use Rattle.records.proofs.ManyRecords.{none_in, same_exceptions}
use Rattle.runs.specs.Run.{or_stop, stop_from, handled}
use Rattle.runs.specs.FirstException.{NoneStops, FirstException}

no_stop : {A : Type 0} {i b k j : ℕ} {g : Given} → Stop i b k g ≡ Done j → A
no_stop e = let z : ◌≡◌ {A = ℕ} 0 1 = cc in absurd (omega arith)

module _ (h : ℕ) (S D : Datatype) (fs : Readings) where
  -- record i, where the search finds nothing
  nothing_stops : (i : ℕ) → first_raising (stop_kind_at h S D (fs i)) 0 (size D) ≡ none → NoneStops h S D fs i (size D)
  nothing_stops i q c l o = stop_quiet h S D (fs i) c (first_none (stop_kind_at h S D (fs i)) 0 (size D) q c (omega arith) (omega arith)) o

  -- ---- done

  stop_done : (done : Answer) (i k j : ℕ) → stop_from h S D fs done i k ≡ Done j → (done ≡ Done j) × ((m : ℕ) → i ≤ m → m < i + k → NoneStops h S D fs m (size D))
  unfolding stop_from
  stop_done done i zero j e = (e, λ m l g. absurd (omega arith))
  stop_done done i (suc k) j e = at (first_raising (stop_kind_at h S D (fs i)) 0 (size D)) refl e (stop_done done (suc i) k j)
    where
      at : (o : Option ℕ) → first_raising (stop_kind_at h S D (fs i)) 0 (size D) ≡ o
          → on_some (λ b. Stop i b (kind_at S D (fs i) b) (given_at S D (fs i) b)) (stop_from h S D fs done (suc i) k) o ≡ Done j
          → (stop_from h S D fs done (suc i) k ≡ Done j → (done ≡ Done j) × ((m : ℕ) → suc i ≤ m → m < suc i + k → NoneStops h S D fs m (size D)))
          → (done ≡ Done j) × ((m : ℕ) → i ≤ m → m < i + suc k → NoneStops h S D fs m (size D))
      at none q g next =
          let later = next g in
          (later.0, λ m l t. ⊎_elim (λ (x : i ≡ m). rw (← x) (nothing_stops i q)) (λ (x : i < m). later.1 m x (omega arith)) (eq-or-lt_of_le l))
      at (some b) q g next = no_stop g

  done_stop : (done : Answer) (i k : ℕ) → ((m : ℕ) → i ≤ m → m < i + k → (c : ℕ) → c < size D → stop_kind_at h S D (fs m) c ≡ 0) → stop_from h S D fs done i k ≡ done
  unfolding stop_from
  done_stop done i zero quiet = refl
  done_stop done i (suc k) quiet =
      rw (none_first (stop_kind_at h S D (fs i)) 0 (size D) (λ c l g. quiet i (le_refl i) (omega arith) c (omega arith)))
      (done_stop done (suc i) k (λ m l g. quiet m (omega arith) (omega arith)))

  -- ---- what STOP names

  stop_first : (count : ℕ) → h ≤ 1 → (n i k r b t : ℕ) (v : Given) → i + k ≡ n → ((j : ℕ) → j < i → NoneStops h S D fs j (size D))
      → stop_from h S D fs (Done count) i k ≡ Stop r b t v → FirstException h S D n fs r b t v
  unfolding stop_from
  stop_first count l n i zero r b t v s before e = no_stop (sym e)
  stop_first count l n i (suc k) r b t v s before e =
      at (first_raising (stop_kind_at h S D (fs i)) 0 (size D)) refl e (λ earlier g. stop_first count l n (suc i) k r b t v (omega arith) earlier g)
    where
      at : (o : Option ℕ) → first_raising (stop_kind_at h S D (fs i)) 0 (size D) ≡ o
          → on_some (λ c. Stop i c (kind_at S D (fs i) c) (given_at S D (fs i) c)) (stop_from h S D fs (Done count) (suc i) k) o ≡ Stop r b t v
          → (((j : ℕ) → j < suc i → NoneStops h S D fs j (size D)) → stop_from h S D fs (Done count) (suc i) k ≡ Stop r b t v → FirstException h S D n fs r b t v)
          → FirstException h S D n fs r b t v
      at none q g next =
          next (λ j m. ⊎_elim (λ (x : j ≡ i). rw x (nothing_stops i q)) (λ (x : j < i). before j x) (eq-or-lt_of_le (le_of_suc-le-suc m))) g
      at (some c) q g next =
          let w = first_lowest (stop_kind_at h S D (fs i)) 0 (size D) c q in
          let both = stop_raises h S D (fs i) c l w.raises in
          let x : i ≡ r = cc in
          let y : c ≡ b = cc in
          let z : kind_at S D (fs i) c ≡ t = cc in
          let u : given_at S D (fs i) c ≡ v = cc in
          rw (← x, ← y, ← z, ← u)
          (record {
            in_records_lem = omega arith;
            in_bytes = omega (arith, w.below);
            obeys = both.0;
            kind = refl;
            raises = omega (arith, w.raises, both.1);
            given = refl;
            no_earlier_record = before;
            no_lower_byte = λ d m o. stop_quiet h S D (fs i) d (w.none_lower d (omega arith) m) o;
          })

  -- ---- behind the checks a run is done, or is stopped

  stop_number : (count i k : ℕ) → (number_of (stop_from h S D fs (Done count) i k) ≡ 0) ⊎ (number_of (stop_from h S D fs (Done count) i k) ≡ 8)
  unfolding stop_from
  stop_number count i zero = inl refl
  stop_number count i (suc k) = at (first_raising (stop_kind_at h S D (fs i)) 0 (size D)) (stop_number count (suc i) k)
    where
      at : (o : Option ℕ) → (number_of (stop_from h S D fs (Done count) (suc i) k) ≡ 0) ⊎ (number_of (stop_from h S D fs (Done count) (suc i) k) ≡ 8)
          → (number_of (on_some (λ b. Stop i b (kind_at S D (fs i) b) (given_at S D (fs i) b)) (stop_from h S D fs (Done count) (suc i) k) o) ≡ 0)
          ⊎ (number_of (on_some (λ b. Stop i b (kind_at S D (fs i) b) (given_at S D (fs i) b)) (stop_from h S D fs (Done count) (suc i) k) o) ≡ 8)
      at none later = later
      at (some b) later = inr refl

-- the answer turns on the readings alone
same_stop : (h : ℕ) (S D : Datatype) (fs gs : Readings) (done : Answer) (i k : ℕ) → ((m : ℕ) → m < i + k → fs m ≡ gs m)
    → stop_from h S D fs done i k ≡ stop_from h S D gs done i k
unfolding stop_from
same_stop h S D fs gs done i zero e = refl
same_stop h S D fs gs done i (suc k) e = ap₂ (or_stop h S D i) (e i (omega arith)) (same_stop h S D fs gs done (suc i) k (λ m l. e m (omega arith)))

module _ (S D : Datatype) (h n : ℕ) (fs : Readings) where
  -- a run that is done tells how many exceptions there are: "the count takes all clamped ones"
  pub handled_count : (k : ℕ) → handled h S D n fs ≡ Done k → k ≡ exceptions S D n fs
  handled_count k e = let q = (stop_done h S D fs (Done (exceptions S D n fs)) 0 n k e).0 in cc

  -- and that no leaf that obeys stop raised one
  pub handled_clamped : (k : ℕ) → handled h S D n fs ≡ Done k → (i : ℕ) → i < n → NoneStops h S D fs i (size D)
  handled_clamped k e i l = (stop_done h S D fs (Done (exceptions S D n fs)) 0 n k e).1 i (omega arith) (omega arith)

  -- done with count 0 is: no exception exists
  pub handled_quiet : handled h S D n fs ≡ Done 0 → exceptions S D n fs ≡ 0
  handled_quiet e = sym (handled_count 0 e)

  pub quiet_handled : exceptions S D n fs ≡ 0 → handled h S D n fs ≡ Done 0
  quiet_handled e =
      done_stop h S D fs (Done (exceptions S D n fs)) 0 n
      (λ m l g c t. raise_nothing h S D (fs m) c (none_raised S D (fs m) (size D) (none_in S D n fs e m (omega arith)) c t))
      ∙ ap Done e

  -- where each matched leaf obeys clamp, a run is done
  pub clamped_handled : AllClamp h S D → handled h S D n fs ≡ Done (exceptions S D n fs)
  clamped_handled all = done_stop h S D fs (Done (exceptions S D n fs)) 0 n (λ m l g c t. all_clamp h S D all (fs m) c)

  pub handled_first : (i b k : ℕ) (g : Given) → h ≤ 1 → handled h S D n fs ≡ Stop i b k g → FirstException h S D n fs i b k g
  handled_first i b k g l e =
      stop_first h S D fs (exceptions S D n fs) l n 0 n i b k g (omega arith) (λ j m. absurd (omega arith)) e

  pub handled_number : (number_of (handled h S D n fs) ≡ 0) ⊎ (number_of (handled h S D n fs) ≡ 8)
  handled_number = stop_number h S D fs (exceptions S D n fs) 0 n

pub same_handled : (S D : Datatype) (h n : ℕ) (fs gs : Readings) → ((i : ℕ) → i < n → fs i ≡ gs i) → handled h S D n fs ≡ handled h S D n gs
same_handled S D h n fs gs e =
    ap (λ (k : ℕ). stop_from h S D fs (Done k) 0 n) (same_exceptions S D n fs gs e)
    ∙ same_stop h S D fs gs (Done (exceptions S D n gs)) 0 n (λ m l. e m (omega arith))

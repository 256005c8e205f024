-- What is matched of the leaves that obey stop. Assumes nothing.
use mathlib.Core.Path.{◌≡◌, refl, sym, ap, ◌∙◌}
use mathlib.Core.List.{List}
use Prim.Native.Nat.{ℕ, zero, suc, ◌+◌, ◌<◌}
use native.Mathlib.Nat.{add-zero}
use native.Mathlib.Omega.{arith}
use Rattle.datatype.specs.Datatype.{Datatype}
use Rattle.datatype.specs.Matches.{Match, match_at}
use Rattle.datatype.specs.Matches.Match.{unmatched}
use Rattle.datatype.specs.Handling.{handling_at}
use Rattle.datatype.specs.WellFormed.{WellFormed}
use Rattle.datatype.proofs.Stopping.{stopping, if_stop, stopping_size, stopping_formed, stopping_match}
use Rattle.records.specs.Plan.{plan_of}
use Rattle.table.specs.Table.{type_at}
use Rattle.paths.specs.declared.Pair.{Pair}
use Rattle.paths.specs.declared.Pair.TheVariants.{Matched, Unmatched}
use Rattle.paths.specs.Leaf.{NoneMatched, Behind, MatchIn, MatchFound}
use Rattle.paths.specs.Plan.{step_of}
use Rattle.paths.proofs.Entries.{Stepped, stepped, plan_same}
use Rattle.obeying.specs.Obeying.{StopsOf}

if_stops : (k : ℕ) (m : Match) → ¬ (k ≡ 0) → if_stop k m ≡ m
if_stops zero m n = absurd (n refl)
if_stops (suc k) m n = refl

-- there is such a datatype
pub stopping_of : (h : ℕ) (D : Datatype) → WellFormed D → StopsOf h D (stopping h D)
stopping_of h D f =
    record {
      formed = stopping_formed h D f;
      sized = stopping_size h D;
      stops = λ S b n. stopping_match h S D b ∙ if_stops (handling_at h D b) (match_at S D b) n;
      clamps = λ S b e. stopping_match h S D b ∙ ap (λ (k : ℕ). if_stop k (match_at S D b)) e;
    }

-- where each leaf obeys stop, all of D are left
pub whole_of : (h : ℕ) (D : Datatype) → WellFormed D → ((b : ℕ) → handling_at h D b ≡ 1) → StopsOf h D D
whole_of h D f all =
    record { formed = f; sized = refl; stops = λ S b n. refl; clamps = λ S b e. absurd (let z : ◌≡◌ {A = ℕ} 1 0 = sym (all b) ∙ e in omega arith) }

module _ (h : ℕ) (D E : Datatype) (of : StopsOf h D E) (S : Datatype) where
  pub stays_unmatched : (b : ℕ) → match_at S D b ≡ unmatched → match_at S E b ≡ unmatched
  stays_unmatched b e = go (handling_at h D b) refl
    where
      go : (k : ℕ) → handling_at h D b ≡ k → match_at S E b ≡ unmatched
      go zero q = of.clamps S b q
      go (suc k) q = of.stops S b (λ z. let n : ◌≡◌ {A = ℕ} (suc k) 0 = sym q ∙ z in omega arith) ∙ e

  none_stays : (b n : ℕ) → NoneMatched S D b n → NoneMatched S E b n
  none_stays b n none =
      record { some = none.some; each = λ j l. (rw of.sized (none.each j l).0, stays_unmatched (b + j) (none.each j l).1) }

  behind_stays : (b : ℕ) (m : Pair) → Behind S D b m → Behind S E b m
  behind_stays b (Matched a s d) x = tt
  behind_stays b (Unmatched n) x = none_stays b n x

  -- the bytes of a leaf that obeys clamp
  none_clamped : (b n : ℕ) → handling_at h D b ≡ 0 → Stepped S D b n → NoneMatched S E b n
  none_clamped b n e on = record { some = on.some; each = λ j l. (rw of.sized (omega (arith, on.inside)), at j l) }
    where
      at : (j : ℕ) → j < n → match_at S E (b + j) ≡ unmatched
      at zero l = rw add-zero (of.clamps S b e)
      at (suc j) l = stays_unmatched (b + suc j) (on.none (suc j) (omega arith) l)

  -- all of these have one plan
  pub same_plan : (F : Datatype) → StopsOf h D F → plan_of S E ≡ plan_of S F
  same_plan F off = plan_same S E F same (of.sized ∙ sym off.sized)
    where
      same : (b : ℕ) → match_at S E b ≡ match_at S F b
      same b = go (handling_at h D b) refl
        where
          go : (k : ℕ) → handling_at h D b ≡ k → match_at S E b ≡ match_at S F b
          go zero q = of.clamps S b q ∙ sym (off.clamps S b q)
          go (suc k) q =
              let n : ¬ (handling_at h D b ≡ 0) = λ z. let y : ◌≡◌ {A = ℕ} (suc k) 0 = sym q ∙ z in omega arith in
              of.stops S b n ∙ sym (off.stops S b n)

-- where each leaf obeys stop, the whole plan is that to the leaves that do
pub whole_plan : (h : ℕ) (D : Datatype) → WellFormed D → ((b : ℕ) → handling_at h D b ≡ 1) → (S : Datatype) → plan_of S D ≡ plan_of S (stopping h D)
whole_plan h D f all S = same_plan h D D (whole_of h D f all) S (stopping h D) (stopping_of h D f)

module _ (wd : List ℕ) (k b h : ℕ) {g : ℕ} (hg : (t : List ℕ) → g ≡ handling_at h (type_at wd t k) b) (m : Pair) (ws ts : List ℕ) (i : ℕ) (td : List ℕ) (E : Datatype)
    (fs : WellFormed (type_at ws ts i)) (fd : WellFormed (type_at wd td k)) (of : StopsOf h (type_at wd td k) E) (found : MatchFound ws ts i wd td k b m) where
  pub match_clamped : {step : ℕ} → g ≡ 0 → step ≡ step_of wd m → MatchIn ws ts wd td (type_at ws ts i) E b (Unmatched step)
  match_clamped e hs =
      let clamps = sym (hg td) ∙ e in
      record {
        is = sym (of.clamps (type_at ws ts i) b clamps);
        small = tt;
        behind = rw hs (none_clamped h (type_at wd td k) E of (type_at ws ts i) b (step_of wd m) clamps (stepped ws ts i wd td k b m fs fd found));
      }

  pub match_stops : ¬ (g ≡ 0) → MatchIn ws ts wd td (type_at ws ts i) E b m
  match_stops n =
      record {
        is = found.is ∙ sym (of.stops (type_at ws ts i) b (λ z. n (hg td ∙ z)));
        small = found.small;
        behind = behind_stays h (type_at wd td k) E of (type_at ws ts i) b m found.behind;
      }

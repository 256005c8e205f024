-- Where no record of a block raises an exception, the first that does is looked for behind it. Assumes nothing.
use mathlib.Core.Path.{◌≡◌, refl, sym, ap, ◌∙◌}
use mathlib.Core.Logic.{⊎_elim}
use mathlib.Core.List.{List, [], ◌∷◌}
use Prim.Native.Nat.{ℕ, zero, suc, ◌+◌, ◌-◌, ◌*◌, ◌≤◌, ◌<◌}
use native.Mathlib.Nat.{eq-or-lt_of_le, le_of_suc-le-suc}
use native.Mathlib.Omega.{arith}
use lib.ListN.{length, take, drop}
use Rattle.answer.specs.declared.Given.{Given}
use Rattle.records.specs.Record.{raises}
use Rattle.records.specs.Records.{record_at}
use Rattle.records.specs.Plan.{Entry, Raised, becomes, raised_by, or_else, first_by, plan_of}
use Rattle.records.specs.Plan.Raised.{nowhere}
use Rattle.plans.specs.PlanWords.{Ready, entries_of, Job}
use Rattle.easy.proofs.Lent.{tail_lent}
use Rattle.loops.specs.Stops.{or_stop, stop_by}
use Rattle.loops.proofs.ScanTurns.{stop_start}
use Rattle.blocks.specs.Blocks.{sum_to, raised_over}
use Rattle.blocks.proofs.Columns.{record_shift, columns_raised}
use Rattle.blocks.proofs.BlockTurns.{job_ready}
use Rattle.symbol_slots.specs.Tables.{TablesKept, Columned, Tabled}

-- ---- one record

or_none : (b kind : ℕ) (g : Given) (later : Raised) → raises kind ≡ 0 → later ≡ nowhere → or_else b kind g later ≡ nowhere
or_none b zero g later e q = q
or_none b (suc kind) g later e q = absurd (omega (arith, e))

-- a record in which no entry raises an exception has no first one
none_first : (es : List Entry) (r : List ℕ) → raised_by es r ≡ 0 → first_by es r ≡ nowhere
unfolding raised_by first_by
none_first [] r h = refl
none_first (e ∷ es) r h = or_none e.to (becomes e r).kind (becomes e r).given (first_by es r) (omega (arith, h)) (none_first es r (omega (arith, h)))

-- ---- a block

sum_zero : (f : ℕ → ℕ) (k : ℕ) → sum_to f k ≡ 0 → (i : ℕ) → i < k → f i ≡ 0
unfolding sum_to
sum_zero f zero e i h = absurd (omega (arith, h))
sum_zero f (suc k) e i h =
    ⊎_elim (λ (q : i ≡ k). rw q (omega (arith, e))) (λ (q : i < k). sum_zero f k (omega (arith, e)) i q) (eq-or-lt_of_le (le_of_suc-le-suc h))

module _ (es : List Entry) (s : ℕ) (src : List ℕ) where
  -- exceptions by columns that are none: no record of the block has a first one
  block_quiet : (i k : ℕ) → raised_over es s (drop (i * s) src) k ≡ 0 → (q : ℕ) → q < k → first_by es (record_at s (i + q) src) ≡ nowhere
  block_quiet i k e q h =
      ap (first_by es) (sym (record_shift s i q src))
      ∙ none_first es (record_at s q (drop (i * s) src))
      (sum_zero (λ j. raised_by es (record_at s j (drop (i * s) src))) k (sym (columns_raised s (drop (i * s) src) k es) ∙ e) q h)

  -- records that have none are passed by
  stop_over : (i k m : ℕ) → ((q : ℕ) → q < k → first_by es (record_at s (i + q) src) ≡ nowhere) → stop_by es s src i (k + m) ≡ stop_by es s src (i + k) m
  unfolding stop_by
  stop_over i zero m h =
      let here : i + 0 ≡ i = omega arith in
      let all : 0 + m ≡ m = omega arith in
      rw (here, all)
  stop_over i (suc k) m h =
      let here : i + 0 ≡ i = omega arith in
      let next : i + suc k ≡ i + 1 + k = omega arith in
      let more : suc k + m ≡ suc (k + m) = omega arith in
      rw (next, more)
      (ap (λ (x : Raised). or_stop i x (stop_by es s src (i + 1) (k + m))) (rw here at (h 0 (omega arith)))
      ∙ stop_over (i + 1) k m (λ q l. let far : i + 1 + q ≡ i + suc q = omega arith in rw far (h (suc q) (omega arith))))

  stop_block : (c i k : ℕ) → i + k ≤ c → stop_by es s src 0 c ≡ stop_by es s src i (c - i) → raised_over es s (drop (i * s) src) k ≡ 0
      → stop_by es s src 0 c ≡ stop_by es s src (i + k) (c - (i + k))
  stop_block c i k h inv e =
      let split : c - i ≡ k + (c - (i + k)) = omega arith in
      inv ∙ rw split (stop_over i k (c - (i + k)) (block_quiet i k e))

-- ---- a call of the count of a block's exceptions, with the part that is lent from record i on

module _ {s d : ℕ} {plan : List ℕ} {n : ℕ} {ws wd words : List ℕ} (j : Job s d plan n ws wd words) where
  pub quiet_start : (c : ℕ) (src : List ℕ) → stop_by (plan_of j.source j.destination) s src 0 c ≡ stop_by (plan_of j.source j.destination) s src 0 (c - 0)
  quiet_start c src = stop_start (plan_of j.source j.destination) s src c

  pub quiet_turn : (tables : List ℕ) → Tabled tables plan n ws wd words → (c : ℕ) (src : List ℕ) (i k r : ℕ) → i + k ≤ c
      → stop_by (plan_of j.source j.destination) s src 0 c ≡ stop_by (plan_of j.source j.destination) s src i (c - i)
      → (let a : List ℕ = take (length src - i * s) (drop (i * s) src) in
      ((d : ℕ) (words : List ℕ) (p : Ready s d plan n ws wd words) → Columned tables plan n words → TablesKept tables ws p.source_text wd p.destination_text → r ≡ raised_over (entries_of p) s a k)
      → r ≡ 0
      → stop_by (plan_of j.source j.destination) s src 0 c ≡ stop_by (plan_of j.source j.destination) s src (i + k) (c - (i + k)))
  quiet_turn tables tabled c src i k r h inv call none =
      let counted : r ≡ raised_over (plan_of j.source j.destination) s (drop (i * s) src) k =
      rw j.entries at (simp tail_lent at (call d words (job_ready j) (tabled s d (job_ready j)).1 (tabled s d (job_ready j)).0)) in
      stop_block (plan_of j.source j.destination) s src c i k h inv (sym counted ∙ none)

-- What a plan's words say of one record, by the datatypes that the plan is of. Assumes nothing.
use mathlib.Core.Path.{◌≡◌, ap, ◌∙◌}
use mathlib.Core.List.{List, ◌++◌}
use Prim.Native.Nat.{ℕ, zero, suc, ◌+◌, ◌-◌, ◌≤◌}
use native.Mathlib.Nat.{le_refl, le_trans}
use native.Mathlib.Omega.{arith}
use lib.ListN.{length, take, drop}
use Rattle.datatype.specs.Datatype.{Datatype, size}
use Rattle.datatype.proofs.Matches.{size_most}
use Rattle.std.specs.Prelude.{Option}
use Rattle.plans.specs.declared.LeafException.{LeafException}
use Rattle.records.specs.Record.{Reading, reading, kind_at, raises, raised_below}
use Rattle.records.specs.Plan.{plan_of, written, raised_by, first_by, AllSound}
use Rattle.plans.specs.PlanWords.{entries_at, Ready, entries_of, Job}
use Rattle.plans.specs.PlanEntries.{raising_of}
use Rattle.records.proofs.Plans.{plan_written, plan_raised, plan_sound}
use Rattle.loops.specs.Steps.{record_by, raised_of}
use Rattle.easy.proofs.Lent.{tail_lent, lent_room}
use Rattle.loops.proofs.Fronts.{sound_more, written_front, raised_front, first_front}

module _ {s d : ℕ} {plan : List ℕ} {n : ℕ} {ws wd words : List ℕ} (j : Job s d plan n ws wd words) where
  sound : AllSound s d (plan_of j.source j.destination)
  sound = rw (j.source_size, j.destination_size) (plan_sound j.source j.destination j.source_formed j.destination_formed)

  -- a plan for records of s and d bytes serves for longer parts that begin with such records
  pub ready : {t c : ℕ} → s ≤ t → d ≤ c → Ready t c plan n ws wd words
  ready {t} {c} h g =
      record {
        source_text = j.source_text;
        destination_text = j.destination_text;
        room = j.room;
        sound = rw j.entries (sound_more s d t c (plan_of j.source j.destination) h g sound);
        source_rows = j.source_rows;
        destination_rows = j.destination_rows;
        most = j.most;
        long = j.long;
        entry = j.entry;
        names = j.names;
      }

  pub job_written : (r x : List ℕ) → s ≤ length r → d ≤ length x
      → written (entries_at plan n ws j.source_text wd j.destination_text) r x ≡ record_by j (take s r) (take d x) ++ drop d x
  job_written r x h g =
      rw j.entries (written_front s d (plan_of j.source j.destination) sound r h x g
      ∙ ap (λ (l : List ℕ). l ++ drop d x) (plan_written j.source j.destination (take s r) (take d x)))

  pub job_raised : (r : List ℕ) → s ≤ length r → raised_by (entries_at plan n ws j.source_text wd j.destination_text) r ≡ raised_of j (take s r)
  job_raised r h =
      rw j.entries (raised_front s d (plan_of j.source j.destination) sound r h ∙ plan_raised j.source j.destination (take s r))

  pub job_first : (r : List ℕ) → s ≤ length r
      → first_by (entries_at plan n ws j.source_text wd j.destination_text) r ≡ first_by (plan_of j.source j.destination) (take s r)
  job_first r h = rw j.entries (first_front s d (plan_of j.source j.destination) sound r h)

  -- a call of the writer of one record, with the source record at the start of a and the place of the result at the start of b
  pub job_call : (a b e : List ℕ) (r : ℕ) → s ≤ length a → d ≤ length b
      → ((p : Ready (length a) (length b) plan n ws wd words) → (e ≡ written (entries_of p) a b) × (r ≡ raised_by (entries_of p) a))
      → (e ≡ record_by j (take s a) (take d b) ++ drop d b) × (r ≡ raised_of j (take s a))
  unfolding ready
  job_call a b e r h g call = ((call (ready h g)).0 ∙ job_written a b h g, (call (ready h g)).1 ∙ job_raised a h)

  -- the same with parts that are lent from byte p and from byte q on
  pub job_parts : (src dst e : List ℕ) (p q r : ℕ) → p + s ≤ length src → q + d ≤ length dst
      → (let a : List ℕ = take (length src - p) (drop p src) in let b : List ℕ = take (length dst - q) (drop q dst) in
      ((t : Ready (length a) (length b) plan n ws wd words) → (e ≡ written (entries_of t) a b) × (r ≡ raised_by (entries_of t) a))
      → (e ≡ record_by j (take s (drop p src)) (take d (drop q dst)) ++ drop d (drop q dst)) × (r ≡ raised_of j (take s (drop p src))))
  job_parts src dst e p q r h g call =
      simp tail_lent at (job_call (take (length src - p) (drop p src)) (take (length dst - q) (drop q dst)) e r (lent_room p s src h) (lent_room q d dst g) call)

  -- a call of the search in one record, lent from byte p on
  pub job_scan : (src : List ℕ) (p : ℕ) (r : Option LeafException) → p + s ≤ length src
      → (let a : List ℕ = take (length src - p) (drop p src) in
      ((c : ℕ) (t : Ready (length a) c plan n ws wd words) → r ≡ raising_of (first_by (entries_of t) a))
      → r ≡ raising_of (first_by (plan_of j.source j.destination) (take s (drop p src))))
  unfolding ready
  job_scan src p r h call =
      let a : List ℕ = take (length src - p) (drop p src) in
      let room : s ≤ length a = lent_room p s src h in
      let cut : take s a ≡ take s (drop p src) = rw tail_lent in
      call d (ready room (le_refl d)) ∙ rw (job_first a room, cut)

-- ---- the count fits

raised_most : (S D : Datatype) (f : Reading) (k : ℕ) → raised_below S D f k ≤ k
unfolding raised_below
raised_most S D f zero = omega arith
raised_most S D f (suc k) = omega (arith, raised_most S D f k, one (kind_at S D f k))
  where
    one : (kind : ℕ) → raises kind ≤ 1
    one zero = omega arith
    one (suc kind) = omega arith

pub raised_small : {s d : ℕ} {plan : List ℕ} {n : ℕ} {ws wd words : List ℕ} (j : Job s d plan n ws wd words) (a : List ℕ) → raised_of j a ≤ 4096
raised_small j a = le_trans (raised_most j.source j.destination (reading j.source j.destination a) (size j.destination)) (size_most j.destination j.destination_formed)

pub source_most : {s d : ℕ} {plan : List ℕ} {n : ℕ} {ws wd words : List ℕ} → Job s d plan n ws wd words → s ≤ 4096
source_most j = rw j.source_size (size_most j.source j.source_formed)

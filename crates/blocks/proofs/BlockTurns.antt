-- A turn of the copying loop that takes a block of k records: k records more are the result's. Assumes nothing.
use mathlib.Core.Path.{◌≡◌, ap, ◌∙◌}
use mathlib.Core.List.{List, ◌++◌}
use Prim.Native.Nat.{ℕ, zero, suc, ◌+◌, ◌*◌, ◌-◌, ◌≤◌, ◌<◌}
use native.Mathlib.Nat.{add-mul, mul-le-mul_right}
use native.Mathlib.Omega.{arith}
use borrow.Rule.Slice.PartMut.{put_mid}
use lib.ListN.{length, take, drop, length-drop}
use lib.Seq.{drop-drop, drop_at, take_at, take-add, length-take-le}
use Rattle.datatype.specs.Datatype.{Datatype, size}
use Rattle.datatype.specs.WellFormed.{WellFormed}
use Rattle.easy.proofs.Lent.{tail_lent, lent_whole}
use Rattle.records.specs.Record.{converted_record, raised_below}
use Rattle.records.specs.Records as Records
use Rattle.records.specs.Records.{readings, exceptions, copy_result}
use Rattle.records.specs.Plan.{plan_of, raised_by, AllSound}
use Rattle.records.proofs.Plans.{plan_written, plan_raised, plan_sound}
use Rattle.plans.specs.PlanWords.{Ready, entries_of, Job}
use Rattle.loops.specs.Steps.{Done}
use Rattle.loops.proofs.RecordAt.{same_reading, record_in}
use Rattle.blocks.specs.Blocks.{each_of, sum_to, raised_over}
use Rattle.blocks.proofs.Columns.{fronts, record_shift, columns_written, columns_behind, columns_raised, sum_same}

-- ---- products, for omega's list

-- a block of k records from record i on lies within c records
pub block_rows : (i k c d : ℕ) → i + k ≤ c → i * d + k * d ≤ c * d
block_rows i k c d h = rw add-mul at (mul-le-mul_right d h)

-- ---- exceptions

-- those of k records more
pub more_raised : (S D : Datatype) (i : ℕ) (src : List ℕ) (k : ℕ)
    → exceptions S D (i + k) (readings S D src) ≡ exceptions S D i (readings S D src) + sum_to (λ j. raised_below S D (readings S D src (i + j)) (size D)) k
unfolding exceptions sum_to
more_raised S D i src zero = let e : i + 0 ≡ i = omega arith in rw e (omega arith)
more_raised S D i src (suc k) =
    let e : i + suc k ≡ suc (i + k) = omega arith in
    rw e (rw (more_raised S D i src k) (omega arith))

-- counted by columns, where the block's records are those from record i on
pub block_raised : (S D : Datatype) (s : ℕ) → s ≡ size S → (i k : ℕ) (part src : List ℕ) → ((j : ℕ) → j < k → Records.record_at s j part ≡ Records.record_at s (i + j) src)
    → raised_over (plan_of S D) s part k ≡ sum_to (λ j. raised_below S D (readings S D src (i + j)) (size D)) k
block_raised S D s es i k part src same =
    columns_raised s part k (plan_of S D)
    ∙ sum_same (λ j. raised_by (plan_of S D) (Records.record_at s j part)) (λ j. raised_below S D (readings S D src (i + j)) (size D)) k
    (λ j h. rw (same j h, plan_raised S D) (ap (λ r. raised_below S D r (size D)) (same_reading S D s es src (i + j))))

-- ---- records

module _ (S D : Datatype) (f : WellFormed S) (g : WellFormed D) (s d : ℕ) (es : s ≡ size S) (ed : d ≡ size D) where
  pub block_sound : AllSound s d (plan_of S D)
  block_sound = rw (es, ed) (plan_sound S D f g)

  module _ (c : ℕ) (src dst₀ : List ℕ) (room : c * d ≤ length dst₀) (i k total raised : ℕ) (dst e : List ℕ) (within : i + k ≤ c) (same : length dst ≡ length dst₀)
      (done : Done S D d c src dst₀ i dst total)
      (call : (e ≡ each_of (plan_of S D) s d (drop (i * s) src) k (drop (i * d) dst)) × (raised ≡ raised_over (plan_of S D) s (drop (i * s) src) k)) where
    rows : i * d + k * d ≤ length dst
    rows = omega (arith, block_rows i k c d within)

    lend : k * d ≤ length (drop (i * d) dst)
    lend = rw length-drop (omega (arith, rows))

    front : length (take (i * d) dst) ≡ i * d
    front = length-take-le (i * d) dst (omega (arith, rows))

    abbrev result : List ℕ
    result = copy_result S D c src dst₀

    -- record j of the block
    here : (j : ℕ) → j < k → Records.record_at d j e ≡ Records.record_at d j (drop (i * d) (copy_result S D c src dst₀))
    here j h =
        rw (call.0, record_shift d i j result, record_in S D f g d ed c src dst₀ room (drop (c * size D) dst₀) (i + j) (omega arith))
        (columns_written s d (drop (i * s) src) k (plan_of S D) (drop (i * d) dst) block_sound lend j h
        ∙ rw (done.1, record_shift d i j dst₀, record_shift s i j src, plan_written S D) (ap (λ r. converted_record S D r (Records.record_at d (i + j) dst₀)) (same_reading S D s es src (i + j))))

    up_to : take ((i + k) * d) (take (i * d) dst ++ e) ≡ take ((i + k) * d) (copy_result S D c src dst₀)
    up_to =
        rw (add-mul i k d, take-add (i * d) (k * d) (take (i * d) dst ++ e), take-add (i * d) (k * d) result, take_at (take (i * d) dst) e (i * d) front, drop_at (take (i * d) dst) e (i * d) front, done.0)
        (ap (λ (x : List ℕ). take (i * d) result ++ x) (fronts d k e (drop (i * d) result) here))

    behind_it : drop ((i + k) * d) (take (i * d) dst ++ e) ≡ drop ((i + k) * d) dst₀
    behind_it =
        rw (add-mul i k d, ← (drop-drop (k * d) (i * d) (take (i * d) dst ++ e)), ← (drop-drop (k * d) (i * d) dst₀), drop_at (take (i * d) dst) e (i * d) front, call.0, ← done.1)
        (columns_behind s d (drop (i * s) src) k (plan_of S D) (drop (i * d) dst) block_sound lend)

    counted : total + raised ≡ exceptions S D (i + k) (readings S D src)
    counted =
        rw (call.1, block_raised S D s es i k (drop (i * s) src) src (λ j h. record_shift s i j src), more_raised S D i src k, done.2)

    pub block_turn : Done S D d c src dst₀ (i + k) (put_mid (i * d) (length dst - i * d) dst e) (total + raised)
    block_turn = rw (lent_whole (i * d) dst e) (up_to, behind_it, counted)

-- ---- a call of the writer of a block, with parts that are lent from record i on

module _ {s d : ℕ} {plan : List ℕ} {n : ℕ} {ws wd words : List ℕ} (j : Job s d plan n ws wd words) where
  -- the words of a job are ready for its records
  abbrev pub job_ready : Ready s d plan n ws wd words
  job_ready =
      record {
        source_text = j.source_text;
        destination_text = j.destination_text;
        room = j.room;
        sound = rw j.entries (block_sound j.source j.destination j.source_formed j.destination_formed s d j.source_size j.destination_size);
        source_rows = j.source_rows;
        destination_rows = j.destination_rows;
        most = j.most;
        long = j.long;
        entry = j.entry;
        names = j.names;
      }

  -- the entries of its words are the plan's
  pub job_block : (a b e : List ℕ) (k r : ℕ) → ((t : Ready s d plan n ws wd words) → (e ≡ each_of (entries_of t) s d a k b) × (r ≡ raised_over (entries_of t) s a k))
      → (e ≡ each_of (plan_of j.source j.destination) s d a k b) × (r ≡ raised_over (plan_of j.source j.destination) s a k)
  job_block a b e k r call = rw j.entries at (call job_ready)

  pub job_turn : (c : ℕ) (src dst₀ : List ℕ) → c * d ≤ length dst₀ → (i k total raised : ℕ) (dst e : List ℕ) → i + k ≤ c → length dst ≡ length dst₀
      → Done j.source j.destination d c src dst₀ i dst total
      → (let a : List ℕ = take (length src - i * s) (drop (i * s) src) in let b : List ℕ = take (length dst - i * d) (drop (i * d) dst) in
      ((t : Ready s d plan n ws wd words) → (e ≡ each_of (entries_of t) s d a k b) × (raised ≡ raised_over (entries_of t) s a k))
      → Done j.source j.destination d c src dst₀ (i + k) (put_mid (i * d) (length dst - i * d) dst e) (total + raised))
  job_turn c src dst₀ room i k total raised dst e within same done call =
      block_turn j.source j.destination j.source_formed j.destination_formed s d j.source_size j.destination_size c src dst₀ room i k total raised dst e within same done
      (simp tail_lent at (job_block (take (length src - i * s) (drop (i * s) src)) (take (length dst - i * d) (drop (i * d) dst)) e k raised call))

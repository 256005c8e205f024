-- Records that stay as they are: copying is one copy of their bytes, and in place nothing is to do. Assumes nothing.
use mathlib.Core.Path.{◌≡◌, refl, sym, ap, subst, ◌∙◌}
use mathlib.Core.List.{List, [], ◌++◌, append-nil}
use Prim.Native.Nat.{ℕ, zero, suc, ◌+◌, ◌*◌, ◌-◌, ◌≤◌, ◌<◌}
use native.Mathlib.Nat.{zero-mul, le_of_eq, le_refl}
use native.Mathlib.Omega.{arith}
use borrow.Rule.Slice.PartMut.{put_mid}
use lib.ListN.{length, take, drop, length-append, length-drop, take-append-drop, drop_of_length-le}
use lib.Seq.{paste, take_all, take-take, take_at, drop_at, length-take-le}
use Rattle.bits.proofs.Eight.{Bytes, bytes_take, bytes_drop}
use Rattle.easy.proofs.Lent.{lent_whole}
use Rattle.records.specs.Records as Records
use Rattle.records.specs.Plan.{plan_of, written, raised_by}
use Rattle.plans.specs.PlanWords.{Ready, entries_of, Job}
use Rattle.loops.specs.Steps.{put, Done, Up, Down}
use Rattle.loops.proofs.CopyTurns as copy-turns
use Rattle.loops.proofs.PlaceTurns as place-turns
use Rattle.blocks.specs.Blocks.{each_of, sum_to, raised_over}
use Rattle.blocks.proofs.Columns.{by_records, record_front, record_of, record_room, columns_written, columns_behind, columns_raised, sum_same}
use Rattle.blocks.proofs.BlockTurns.{block_turn, job_block}
use Rattle.blocks.proofs.PlaceBlocks.{up_block, down_block}
use Rattle.same_bytes.specs.Same.{Adjoin}
use Rattle.same_bytes.proofs.Pieces.{run_written, run_raised}
use Rattle.whole_copies.specs.Whole.{WholeCopy}

-- ---- one record

sum_none : (c : ℕ) → sum_to (λ i. 0) c ≡ 0
unfolding sum_to
sum_none zero = refl
sum_none (suc c) = rw (sum_none c)

module _ {s d : ℕ} {plan : List ℕ} {n : ℕ} {ws wd words : List ℕ} (p : Ready s d plan n ws wd words) (w : WholeCopy s d plan n ws wd) where
  record_same : (r x : List ℕ) → length r ≡ s → length x ≡ d → Bytes r → written (entries_of p) r x ≡ r
  record_same r x lr lx hb =
      let e : s ≡ d = w.sizes in
      let z : 0 + s ≡ s = omega arith in
      let short : length x ≤ s = omega arith in
      run_written p r 0 0 0 n s x (omega arith) w.all (omega arith) (omega arith) hb
      ∙ rw (z, take-take s s r (le_refl s), take_all s r (le_of_eq lr), drop_of_length-le x short) (append-nil r)

  none_raised : (r : List ℕ) → raised_by (entries_of p) r ≡ 0
  none_raised r = run_raised p r 0 0 0 n s (omega arith) w.all

  -- ---- c records

  pub all_quiet : (src : List ℕ) (c : ℕ) → raised_over (entries_of p) s src c ≡ 0
  all_quiet src c =
      columns_raised s src c (entries_of p)
      ∙ sum_same (λ i. raised_by (entries_of p) (Records.record_at s i src)) (λ i. 0) c (λ i h. none_raised (Records.record_at s i src))
      ∙ sum_none c

  pub all_same : (src dst : List ℕ) (c : ℕ) → c * s ≤ length src → c * d ≤ length dst → Bytes src → each_of (entries_of p) s d src c dst ≡ take (c * d) src ++ drop (c * d) dst
  all_same src dst c reads writes hb =
      let e : s ≡ d = w.sizes in
      let fits : c * d ≤ length src = subst (λ (k : ℕ). c * k ≤ length src) e reads in
      let front : length (take (c * d) src) ≡ c * d = length-take-le (c * d) src fits in
      by_records d c (each_of (entries_of p) s d src c dst) (take (c * d) src ++ drop (c * d) dst)
      (λ j h.
      columns_written s d src c (entries_of p) dst p.sound writes j h
      ∙ record_same (Records.record_at s j src) (Records.record_at d j dst) (record_room s c j src h reads) (record_room d c j dst h writes) (bytes_take s (drop (j * s) src) (bytes_drop (j * s) src hb))
      ∙ ap (λ (k : ℕ). Records.record_at k j src) e
      ∙ sym (record_front d c j (take (c * d) src) (drop (c * d) dst) h (le_of_eq (sym front)) ∙ record_of d c j src h fits))
      (columns_behind s d src c (entries_of p) dst p.sound writes ∙ sym (drop_at (take (c * d) src) (drop (c * d) dst) (c * d) front))

-- ---- c records of a job

module _ {s d : ℕ} {plan : List ℕ} {n : ℕ} {ws wd words : List ℕ} (j : Job s d plan n ws wd words) (w : WholeCopy s d plan n ws wd) (c : ℕ) where
  -- copied, they are the source's bytes
  pub whole_copied : (src dst e : List ℕ) → c * s ≤ length src → c * d ≤ length dst → Bytes src → e ≡ take (c * s) src ++ drop (c * s) dst
      → Done j.source j.destination d c src dst c e 0
  whole_copied src dst e reads writes hb q =
      let out : e ≡ take (c * d) src ++ drop (c * d) dst = subst (λ (k : ℕ). e ≡ take (c * k) src ++ drop (c * k) dst) w.sizes q in
      let call = job_block j src dst e c 0 (λ t. (out ∙ sym (all_same t w src dst c reads writes hb), sym (all_quiet t w src c))) in
      let z : 0 + c ≡ c = omega arith in
      let turn =
      block_turn j.source j.destination j.source_formed j.destination_formed s d j.source_size j.destination_size c src dst writes 0 c 0 0 dst e (omega arith) refl
      (copy-turns.start j.source j.destination d c src dst) (rw (zero-mul s, zero-mul d) call) in
      rw (z, lent_whole (0 * d) dst e, zero-mul d) at turn

  -- in place the buffer keeps its bytes
  module _ (buf bg : List ℕ) (held : c * s ≤ length buf) (ground : c * d ≤ length bg) (hb : Bytes buf) where
    kept : (buf ≡ put (0 * d) (c * d) (each_of (plan_of j.source j.destination) s d (take (c * s) (drop (0 * s) buf)) c (take (c * d) (drop (0 * d) bg))) buf)
        × (0 ≡ raised_over (plan_of j.source j.destination) s (take (c * s) (drop (0 * s) buf)) c)
    kept =
        let a : List ℕ = take (c * s) buf in
        let b : List ℕ = take (c * d) bg in
        let la : length a ≡ c * s = length-take-le (c * s) buf held in
        let lb : length b ≡ c * d = length-take-le (c * d) bg ground in
        let z : 0 + c * d ≡ c * d = omega arith in
        let same : take (c * d) a ≡ take (c * d) buf = ap (λ (k : ℕ). take (c * d) (take (c * k) buf)) w.sizes ∙ take-take (c * d) (c * d) buf (le_refl (c * d)) in
        let call =
        job_block j a b (take (c * d) a) c 0
        (λ t. (sym (all_same t w a b c (le_of_eq (sym la)) (le_of_eq (sym lb)) (bytes_take (c * s) buf hb) ∙ ap (λ (x : List ℕ). take (c * d) a ++ x) (drop_of_length-le b (le_of_eq lb)) ∙ append-nil (take (c * d) a)), sym (all_quiet t w a c))) in
        rw (zero-mul s, zero-mul d, z) (rw (← call.0, same) (sym (take-append-drop (c * d) buf)), call.1)

    pub whole_up : d ≤ s → Up j.source j.destination s d c buf bg c buf 0
    whole_up low =
        let z : 0 + c ≡ c = omega arith in
        rw z at (up_block j.source j.destination j.source_formed j.destination_formed s d j.source_size j.destination_size c buf bg ground 0 c 0 0 buf buf held low (omega arith) refl
        (place-turns.up_start j.source j.destination s d c buf bg) kept)

    pub whole_down : s ≤ d → Down j.source j.destination s d c buf bg 0 buf 0
    whole_down low =
        let z : 0 + c ≡ c = omega arith in
        down_block j.source j.destination j.source_formed j.destination_formed s d j.source_size j.destination_size c buf bg ground 0 c 0 0 buf buf (subst (λ (k : ℕ). c * k ≤ length buf) w.sizes held) low (omega arith) refl
        (rw z (place-turns.down_start j.source j.destination j.source_formed j.destination_formed s d j.source_size j.destination_size c buf bg ground low)) kept

-- ---- what the comparison says

pub whole_is : (s d : ℕ) (plan : List ℕ) (n : ℕ) (ws wd : List ℕ) (k bytes : ℕ) → s ≡ d → Adjoin plan ws wd 0 0 0 k bytes → k ≡ n → bytes ≡ s → WholeCopy s d plan n ws wd
whole_is s d plan n ws wd k bytes e a ek eb = record { sizes = e; all = rw (ek, eb) at a }

-- as long as the destination's records, the source's are within what holds them
pub whole_room : {s d : ℕ} {plan : List ℕ} {n : ℕ} {ws wd : List ℕ} → WholeCopy s d plan n ws wd → (c m : ℕ) → c * d ≤ m → c * s ≤ m
whole_room w c m h = subst (λ (k : ℕ). c * k ≤ m) (sym w.sizes) h

-- Turns of the loops in place that take a block of k records: up from the first, and down from the last. Assumes nothing.
use mathlib.Core.Path.{◌≡◌, sym, ap, ap₂, ◌∙◌}
use mathlib.Core.List.{List}
use Prim.Native.Nat.{ℕ, ◌+◌, ◌*◌, ◌-◌, ◌≤◌, ◌<◌}
use native.Mathlib.Nat.{add-mul, mul-le-mul_left, le_of_eq}
use native.Mathlib.Omega.{arith}
use lib.ListN.{length, take, drop, length-drop}
use lib.Seq.{take_all, length-take-le}
use Rattle.datatype.specs.Datatype.{Datatype, size}
use Rattle.datatype.specs.WellFormed.{WellFormed}
use Rattle.records.specs.Record.{converted_record, raised_below}
use Rattle.records.specs.Records as Records
use Rattle.records.specs.Records.{readings, in_place_result}
use Rattle.records.specs.Plan.{plan_of, written, AllSound}
use Rattle.records.proofs.Plans.{plan_written}
use Rattle.loops.specs.Steps.{put, Up, Down}
use Rattle.loops.proofs.Lists.{row_within, drop_agree, take_agree, part_agree, put_take, put_drop, put_up, put_down}
use Rattle.loops.proofs.RecordAt.{same_reading, record_in}
use Rattle.blocks.specs.Blocks.{each_of, sum_to, raised_over}
use Rattle.blocks.proofs.Columns.{fronts, record_of, record_shift, columns_written, columns_length}
use Rattle.blocks.proofs.BlockTurns.{block_rows, block_sound, block_raised, more_raised}

-- ---- n records

module _ (S D : Datatype) (f : WellFormed S) (g : WellFormed D) (s d : ℕ) (es : s ≡ size S) (ed : d ≡ size D) (c : ℕ) (buf₀ bg : List ℕ) (room : c * d ≤ length bg) where
  formed : AllSound s d (plan_of S D)
  formed = block_sound S D f g s d es ed

  abbrev result : List ℕ
  result = in_place_result S D c buf₀ bg

  -- what the block of k source records from record i on makes of its background
  abbrev block : ℕ → ℕ → List ℕ → List ℕ
  block i k buf = each_of (plan_of S D) s d (take (k * s) (drop (i * s) buf)) k (take (k * d) (drop (i * d) bg))

  module _ (i k : ℕ) (buf : List ℕ) (within : i + k ≤ c) (hs : i * s + k * s ≤ length buf) (read : (j : ℕ) → j < k → Records.record_at s (i + j) buf ≡ Records.record_at s (i + j) buf₀) where
    ground : k * d ≤ length (drop (i * d) bg)
    ground = rw length-drop (omega (arith, block_rows i k c d within))

    laid : length (take (k * d) (drop (i * d) bg)) ≡ k * d
    laid = length-take-le (k * d) (drop (i * d) bg) ground

    long : length (block i k buf) ≡ k * d
    long = columns_length s d (take (k * s) (drop (i * s) buf)) k (plan_of S D) (take (k * d) (drop (i * d) bg)) formed (le_of_eq (sym laid)) ∙ laid

    source : (j : ℕ) → j < k → Records.record_at s j (take (k * s) (drop (i * s) buf)) ≡ Records.record_at s (i + j) buf₀
    source j h = record_of s k j (drop (i * s) buf) h (rw length-drop (omega arith)) ∙ record_shift s i j buf ∙ read j h

    here : (j : ℕ) → j < k → Records.record_at d j (drop (i * d) (in_place_result S D c buf₀ bg)) ≡ Records.record_at d j (block i k buf)
    here j h =
        record_shift d i j result ∙ record_in S D f g d ed c buf₀ bg room _ (i + j) (omega arith)
        ∙ sym (columns_written s d (take (k * s) (drop (i * s) buf)) k (plan_of S D) (take (k * d) (drop (i * d) bg)) formed (le_of_eq (sym laid)) j h
        ∙ ap₂ (written (plan_of S D)) (source j h) (record_of d k j (drop (i * d) bg) h ground ∙ record_shift d i j bg)
        ∙ plan_written S D (Records.record_at s (i + j) buf₀) (Records.record_at d (i + j) bg)
        ∙ ap (λ r. converted_record S D r (Records.record_at d (i + j) bg)) (same_reading S D s es buf₀ (i + j)))

    made : take (k * d) (drop (i * d) (in_place_result S D c buf₀ bg)) ≡ block i k buf
    made = fronts d k (drop (i * d) result) (block i k buf) here ∙ take_all (k * d) (block i k buf) (le_of_eq long)

    counted : raised_over (plan_of S D) s (take (k * s) (drop (i * s) buf)) k ≡ sum_to (λ j. raised_below S D (readings S D buf₀ (i + j)) (size D)) k
    counted = block_raised S D s es i k (take (k * s) (drop (i * s) buf)) buf₀ source

  pub up_block : (i k total raised : ℕ) (buf e : List ℕ) → c * s ≤ length buf₀ → d ≤ s → i + k ≤ c → length buf ≡ length buf₀ → Up S D s d c buf₀ bg i buf total
      → (e ≡ put (i * d) (k * d) (each_of (plan_of S D) s d (take (k * s) (drop (i * s) buf)) k (take (k * d) (drop (i * d) bg))) buf)
      × (raised ≡ raised_over (plan_of S D) s (take (k * s) (drop (i * s) buf)) k)
      → Up S D s d c buf₀ bg (i + k) e (total + raised)
  up_block i k total raised buf e hn hd hk same up call =
      let ws : i * s + k * s ≤ c * s = block_rows i k c s hk in
      let wide : (i + k) * d ≤ (i + k) * s = mul-le-mul_left (i + k) hd in
      let sd : (i + k) * d ≡ i * d + k * d = add-mul i k d in
      let ss : (i + k) * s ≡ i * s + k * s = add-mul i k s in
      let low : i * d ≤ i * s = mul-le-mul_left i hd in
      let hs : i * s + k * s ≤ length buf = omega arith in
      let read : (j : ℕ) → j < k → Records.record_at s (i + j) buf ≡ Records.record_at s (i + j) buf₀ =
      λ j h. sym (record_shift s i j buf) ∙ ap (Records.record_at s j) up.1 ∙ record_shift s i j buf₀ in
      let r : List ℕ = block i k buf in
      let lr : length r ≡ k * d = long i k buf hk hs read in
      let fits : i * d + k * d ≤ length buf = omega arith in (
        rw (call.0, sd) (put_up (i * d) (k * d) r buf fits lr result up.0 (made i k buf hk hs read)),
        rw (call.0, ss) (put_drop (i * d) (k * d) r buf fits lr (i * s + k * s) (omega arith) ∙ drop_agree (i * s) (i * s + k * s) buf buf₀ (omega arith) up.1),
        rw (call.1, counted i k buf hk hs read, more_raised S D i buf₀ k, up.2),
      )

  pub down_block : (i k total raised : ℕ) (buf e : List ℕ) → c * d ≤ length buf₀ → s ≤ d → i + k ≤ c → length buf ≡ length buf₀ → Down S D s d c buf₀ bg (i + k) buf total
      → (e ≡ put (i * d) (k * d) (each_of (plan_of S D) s d (take (k * s) (drop (i * s) buf)) k (take (k * d) (drop (i * d) bg))) buf)
      × (raised ≡ raised_over (plan_of S D) s (take (k * s) (drop (i * s) buf)) k)
      → Down S D s d c buf₀ bg i e (total + raised)
  down_block i k total raised buf e hn hs hk same down call =
      let wd : i * d + k * d ≤ c * d = block_rows i k c d hk in
      let wide : (i + k) * s ≤ (i + k) * d = mul-le-mul_left (i + k) hs in
      let sd : (i + k) * d ≡ i * d + k * d = add-mul i k d in
      let ss : (i + k) * s ≡ i * s + k * s = add-mul i k s in
      let low : i * s ≤ i * d = mul-le-mul_left i hs in
      let fits : i * d + k * d ≤ length buf = omega arith in
      let into : i * s + k * s ≤ length buf = omega arith in
      let front : take (i * s + k * s) buf ≡ take (i * s + k * s) buf₀ = rw ss at down.0 in
      let back : drop (i * d + k * d) buf ≡ drop (i * d + k * d) result = rw sd at down.1 in
      let read : (j : ℕ) → j < k → Records.record_at s (i + j) buf ≡ Records.record_at s (i + j) buf₀ =
      λ j h. let q : (i + j) * s ≡ i * s + j * s = add-mul i j s in
      let row : j * s + s ≤ k * s = row_within s h in
      part_agree ((i + j) * s) s buf buf₀ (omega arith) (omega arith) (take_agree (i * s + k * s) ((i + j) * s + s) buf buf₀ (omega arith) front) in
      let r : List ℕ = block i k buf in
      let lr : length r ≡ k * d = long i k buf hk into read in
      let more : raised ≡ sum_to (λ j. raised_below S D (readings S D buf₀ (i + j)) (size D)) k = call.1 ∙ counted i k buf hk into read in (
        rw call.0 (put_take (i * d) (k * d) r buf fits lr (i * s) low ∙ take_agree (i * s + k * s) (i * s) buf buf₀ (omega arith) front),
        rw call.0 (put_down (i * d) (k * d) r buf fits lr result back (made i k buf hk into read)),
        omega (arith, down.2, more, more_raised S D i buf₀ k),
      )

-- A number of whole bytes moved from record to record. Assumes nothing.
use Rattle.std.proofs.Common.{◌≡◌, ℕ, ◌+◌, ◌-◌, ◌*◌, ◌/◌, ◌%◌, ◌^◌, ◌<◌, ◌≤◌, List, ◌++◌, length, take, drop, sym, ap, ◌∙◌, append_assoc, add-zero, mod-eq_of_lt, arith, length-drop, take-append-drop, length-take-le, pow_pos, pow_mono}
use borrow.Rule.Slice.PartMut.{put_mid}
use lib.Bits.{bit_and, and_mask, and_le_r, and_zero_r}
use lib.Seq.{paste, take-append-le, drop-append-le}
use Rattle.bits.specs.declared.Order.{Order}
use Rattle.bits.specs.Container.{container, contained}
use Rattle.easy.proofs.Lent.{tail_lent}
use Rattle.loops.proofs.Lists.{row_next}
use Rattle.records.specs.Records.{record_at}
use Rattle.column_words.specs.declared.Words.{Words}
use Rattle.column_words.specs.Fit.{clamped}
use Rattle.column_words.specs.Words.{bias_by, place_by, make_by}
use Rattle.column_words.proofs.Made.{wrapped, unwrapped}
use Rattle.column_steps.proofs.Making.{clamp_none}
use Rattle.blocks.specs.Blocks.{each_record, container_in, merge_in, each_made}
use Rattle.blocks.proofs.Turns.{each_start, each_next}
use Rattle.blocks.proofs.Columns.{each_same}
use Rattle.whole_moves.specs.Whole.{moved_by, Whole}

-- ---- one number

all_lt : (n : ℕ) → n ≤ 8 → 2 ^ (8 * n) - 1 < 2 ^ 64
all_lt n h =
    let some = pow_pos (8 * n) in
    let most : 2 ^ (8 * n) ≤ 2 ^ 64 = pow_mono {j = 64} (omega arith) in
    omega arith

-- half added under the source's mask, and taken away under the destination's
pub moved_is : (n m half c : ℕ) {s b r v j k : ℕ} → j ≡ 8 * n → k ≡ 8 * m → n ≤ 8 → m ≤ 8 → half < 2 ^ 64 → r < 2 ^ 64 → b < 2 ^ 64 → s ≡ (c + half) % 2 ^ 64 → b ≡ s % 2 ^ j
    → (r + half) % 2 ^ 64 ≡ b → v ≡ r % 2 ^ k → v ≡ moved_by n m half c
moved_is n m half c {s} {b} {r} {v} hj hk hn hm lh lr lb es eb er ev =
    let low : b ≡ bit_and (c + half) (2 ^ (8 * n) - 1) =
    eb ∙ ap (λ (x : ℕ). s % 2 ^ x) hj ∙ sym (and_mask s (8 * n)) ∙ ap (λ (x : ℕ). bit_and x (2 ^ (8 * n) - 1)) es ∙ wrapped 64 (c + half) (2 ^ (8 * n) - 1) (all_lt n hn) in
    ev ∙ ap (λ (x : ℕ). r % 2 ^ x) hk ∙ sym (and_mask r (8 * m))
    ∙ unwrapped 64 r half b (2 ^ (8 * m) - 1) (omega arith) lr lh (all_lt m hm) (er ∙ sym (mod-eq_of_lt lb))
    ∙ ap (λ (x : ℕ). bit_and (x + (2 ^ 64 - half)) (2 ^ (8 * m) - 1)) low

module _ (w : Words) (h : Whole w) where
  bias_whole : (c : ℕ) → bias_by w c ≡ bit_and (c + w.half) (2 ^ (8 * w.source_size) - 1)
  bias_whole c =
      let one : c / 2 ^ 0 ≡ c = omega arith in
      rw (h.down, h.mask, one)

  pub made_whole : (c : ℕ) → moved_by w.source_size w.size w.half c ≡ make_by w c
  unfolding make_by
  made_whole c =
      let b : ℕ = bias_by w c in
      let none : b ≡ clamped w.low w.high b =
      clamp_none w.low w.high b (rw h.high (and_le_r (c / 2 ^ w.shift + w.half) w.mask)) (rw h.low (omega arith)) in
      let x : ℕ = bit_and (b + (2 ^ 64 - w.half)) w.into in
      let place : x ≡ place_by w b = let e : x ≡ x * 2 ^ 0 + 0 = omega arith in rw (h.up, h.ones) e in
      ap (λ (y : ℕ). bit_and (y + (2 ^ 64 - w.half)) (2 ^ (8 * w.size) - 1)) (sym (bias_whole c))
      ∙ ap (λ (y : ℕ). bit_and (b + (2 ^ 64 - w.half)) y) (sym h.into)
      ∙ place
      ∙ ap (place_by w) none

-- ---- one record

paste_front : (b n : ℕ) (bs x y : List ℕ) → b + n ≤ length x → paste (x ++ y) b bs n ≡ paste x b bs n ++ y
paste_front b n bs x y h =
    rw (take-append-le b x y (omega arith), drop-append-le (b + n) x y h) (sym (append_assoc (take b x ++ take n bs) (drop (b + n) x) y))

-- the container of number f i is pasted into what is lent from record i on
module _ (order : Order) (size b : ℕ) (f : ℕ → ℕ) (d i : ℕ) (dst : List ℕ) (low : i * d + d ≤ length dst) (fits : b + size ≤ d) where
  long : length (record_at d i dst) ≡ d
  long = length-take-le d (drop (i * d) dst) (rw length-drop (omega arith))

  parted : take (length dst - i * d) (drop (i * d) dst) ≡ record_at d i dst ++ drop d (drop (i * d) dst)
  parted = tail_lent (i * d) dst ∙ sym (take-append-drop d (drop (i * d) dst))

  record_turn : (dst₀ e : List ℕ) (v : ℕ) → dst ≡ each_record (λ j x. merge_in order size b 0 (f j) x) d i dst₀ → v ≡ f i
      → e ≡ paste (take (length dst - i * d) (drop (i * d) dst)) b (contained order size v) size
      → put_mid (i * d) (length dst - i * d) dst e ≡ each_record (λ j x. merge_in order size b 0 (f j) x) d (i + 1) dst₀
  record_turn dst₀ e v h hv he =
      let x : List ℕ = record_at d i dst in
      let y : List ℕ = drop d (drop (i * d) dst) in
      let room : b + size ≤ length x = rw long fits in
      let all : v ≡ f i + bit_and (container order (take size (drop b x))) 0 = rw (and_zero_r (container order (take size (drop b x))), add-zero) hv in
      let made : e ≡ merge_in order size b 0 (f i) x ++ y =
      (he ∙ ap (λ (l : List ℕ). paste l b (contained order size v) size) parted) ∙ paste_front b size (contained order size v) x y room
      ∙ ap (λ (u : ℕ). paste x b (contained order size u) size ++ y) all in
      each_next (λ j x. merge_in order size b 0 (f j) x) d i dst₀ dst e h made

-- ---- the loop: the numbers of the first i records are moved

abbrev pub each_moved : Order → ℕ → Order → ℕ → ℕ → ℕ → ℕ → ℕ → ℕ → List ℕ → ℕ → List ℕ → List ℕ
each_moved from n to m half b a s d src i dst = each_record (λ j x. merge_in to m b 0 (moved_by n m half (container_in from n a s src j)) x) d i dst

-- where the next record begins
pub next_row : (i s : ℕ) {x : ℕ} → x ≡ i * s → x + s ≡ (i + 1) * s
next_row i s h = omega (arith, row_next i s)

module _ (from : Order) (n : ℕ) (to : Order) (m half b a s d : ℕ) (src : List ℕ) where
  pub move_turn : (i : ℕ) {x y c v : ℕ} (dst₀ dst e : List ℕ) → x ≡ i * s → y ≡ i * d → i * d + d ≤ length dst → b + m ≤ d
      → dst ≡ each_moved from n to m half b a s d src i dst₀ → c ≡ container from (take n (drop a (take (length src - x) (drop x src)))) → v ≡ moved_by n m half c
      → e ≡ paste (take (length dst - y) (drop y dst)) b (contained to m v) m
      → put_mid y (length dst - y) dst e ≡ each_moved from n to m half b a s d src (i + 1) dst₀
  move_turn i {x} {y} {c} {v} dst₀ dst e ex ey low fits h hc hv he =
      let read : c ≡ container_in from n a s src i =
      hc ∙ ap (λ (l : List ℕ). container from (take n (drop a l))) (tail_lent x src) ∙ ap (λ (k : ℕ). container from (take n (drop a (drop k src)))) ex in
      let here : e ≡ paste (take (length dst - i * d) (drop (i * d) dst)) b (contained to m v) m =
      he ∙ ap (λ (k : ℕ). paste (take (length dst - k) (drop k dst)) b (contained to m v) m) ey in
      ap (λ (k : ℕ). put_mid k (length dst - k) dst e) ey
      ∙ record_turn to m b (λ j. moved_by n m half (container_in from n a s src j)) d i dst low fits dst₀ e v h (hv ∙ ap (moved_by n m half) read) here

pub move_end : (w : Words) → Whole w → (n m b a s d : ℕ) (src : List ℕ) {i count : ℕ} (dst₀ dst : List ℕ) → w.source_size ≡ n → w.size ≡ m → i ≡ count
    → dst ≡ each_moved w.source_order n w.order m w.half b a s d src i dst₀ → dst ≡ each_made w b a s d src count dst₀
move_end w h n m b a s d src {i} {count} dst₀ dst hn hm end e =
    let p : ℕ = w.source_size in
    let q : ℕ = w.size in
    e ∙ ap (λ (k : ℕ). each_moved w.source_order k w.order m w.half b a s d src i dst₀) (sym hn)
    ∙ ap (λ (k : ℕ). each_moved w.source_order p w.order k w.half b a s d src i dst₀) (sym hm)
    ∙ ap (λ (k : ℕ). each_moved w.source_order p w.order q w.half b a s d src k dst₀) end
    ∙ each_same (λ j x. merge_in w.order q b 0 (moved_by p q w.half (container_in w.source_order p a s src j)) x)
    (λ j x. merge_in w.order q b w.keep (make_by w (container_in w.source_order p a s src j)) x) d count dst₀
    (λ j l x. ap (λ (k : ℕ). merge_in w.order q b k (moved_by p q w.half (container_in w.source_order p a s src j)) x) (sym h.keep)
    ∙ ap (λ (v : ℕ). merge_in w.order q b w.keep v x) (made_whole w h (container_in w.source_order p a s src j)))

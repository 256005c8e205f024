-- Turns of the loops over a column. Assumes nothing.
use mathlib.Core.Path.{◌≡◌, refl, sym, ap, ◌∙◌}
use mathlib.Core.Logic.{⊎_elim}
use mathlib.Core.List.{List, ◌++◌, append_assoc}
use Prim.Native.Nat.{ℕ, ◌+◌, ◌*◌, ◌-◌, ◌^◌, ◌≤◌, ◌<◌}
use native.Mathlib.Nat.{eq-or-lt_of_le, le_of_suc-le-suc, lt_of_lt_of_le, add-zero}
use native.Mathlib.Numerals.{add-one}
use native.Mathlib.Omega.{arith}
use borrow.Rule.Slice.PartMut.{put_mid}
use lib.Bits.{bit_and, and_zero_r}
use lib.ListN.{length, get_or, set, take, drop, length-drop, take-append-drop}
use lib.Seq.{paste, get_or-set_same, get_or-set_other, take-append-le, drop-append-le, length-take-le, drop-drop}
use lib.Pow.{pow_mono}
use Rattle.bits.specs.declared.Order.{Order}
use Rattle.bits.specs.declared.Order.TheVariants.{LE, BE}
use Rattle.bits.specs.Container.{container, contained}
use Rattle.bits.proofs.Words.{by_bytes}
use Rattle.easy.proofs.Lent.{tail_lent}
use Rattle.records.specs.Records.{record_at}
use Rattle.loops.proofs.Lists.{lent_front}
use Rattle.blocks.specs.Blocks.{sum_to, each_record, container_in, merge_in}

-- ---- numbers

-- the numbers below i are g's: with number i set, those below i + 1
pub set_below : (g : ℕ → ℕ) (i : ℕ) (t : List ℕ) (r : ℕ) → i < length t → ((j : ℕ) → j < i → get_or t j 0 ≡ g j) → r ≡ g i
    → (j : ℕ) → j < i + 1 → get_or (set t i r) j 0 ≡ g j
set_below g i t r h below e j l =
    ⊎_elim (λ (q : j ≡ i). rw q (get_or-set_same t i r 0 h ∙ e)) (λ (q : j < i). get_or-set_other t i j r 0 (λ x. omega arith) ∙ below j q)
    (eq-or-lt_of_le (le_of_suc-le-suc (rw add-one at l)))

-- the numbers from i on are as they were: with number i set, those from i + 1 on
pub set_ahead : (l t : List ℕ) (i r : ℕ) → ((j : ℕ) → i ≤ j → get_or t j 0 ≡ get_or l j 0) → (j : ℕ) → i + 1 ≤ j → get_or (set t i r) j 0 ≡ get_or l j 0
set_ahead l t i r ahead j h = get_or-set_other t i j r 0 (λ x. omega arith) ∙ ahead j (omega arith)

pub sum_start : (f : ℕ → ℕ) → 0 ≡ sum_to f 0
unfolding sum_to
sum_start f = refl

pub sum_next : (f : ℕ → ℕ) (i raised r : ℕ) → raised ≡ sum_to f i → r ≡ f i → raised + r ≡ sum_to f (i + 1)
unfolding sum_to
sum_next f i raised r h k = rw (add-one, h, k)

-- ---- records

paste_front : (b n : ℕ) (bs x y : List ℕ) → b + n ≤ length x → paste (x ++ y) b bs n ≡ paste x b bs n ++ y
paste_front b n bs x y h =
    rw (take-append-le b x y (omega arith), drop-append-le (b + n) x y h) (sym (append_assoc (take b x ++ take n bs) (drop (b + n) x) y))

-- a part of the front x is a part of x ++ y
pub part_front : (b n : ℕ) (x y : List ℕ) → b + n ≤ length x → take n (drop b (x ++ y)) ≡ take n (drop b x)
part_front b n x y h = rw (drop-append-le b x y (omega arith), take-append-le n (drop b x) y (rw length-drop (omega arith)))

pub each_start : (f : ℕ → List ℕ → List ℕ) (d : ℕ) (dst : List ℕ) → dst ≡ each_record f d 0 dst
unfolding each_record
each_start f d dst = refl

-- record i made anew in what was lent from it on
pub each_next : (f : ℕ → List ℕ → List ℕ) (d i : ℕ) (dst₀ dst e : List ℕ) → dst ≡ each_record f d i dst₀ → e ≡ f i (record_at d i dst) ++ drop d (drop (i * d) dst)
    → put_mid (i * d) (length dst - i * d) dst e ≡ each_record f d (i + 1) dst₀
unfolding each_record
each_next f d i dst₀ dst e h k = lent_front (i * d) d (f i (record_at d i dst)) dst e k ∙ rw (add-one, ← h)

-- ---- the loop that loads a column

-- the first i numbers are the containers at byte a of records of s bytes
abbrev pub Loaded : Order → ℕ → ℕ → ℕ → List ℕ → ℕ → List ℕ → Type 0
Loaded order size a s src i t = (j : ℕ) → j < i → get_or t j 0 ≡ container_in order size a s src j

-- the container was read in what is lent from record i on
pub load_turn : (order : Order) (size a s : ℕ) (src : List ℕ) (i : ℕ) (t : List ℕ) (r : ℕ) → i < length t → Loaded order size a s src i t
    → r ≡ container order (take size (drop a (take (length src - i * s) (drop (i * s) src)))) → Loaded order size a s src (i + 1) (set t i r)
load_turn order size a s src i t r h below e =
    set_below (container_in order size a s src) i t r h below (e ∙ ap (λ (l : List ℕ). container order (take size (drop a l))) (tail_lent (i * s) src))

one_byte : (order : Order) (at : ℕ) (src : List ℕ) → at + 1 ≤ length src → get_or src at 0 ≡ container order (take 1 (drop at src))
one_byte LE at src h = omega (arith, by_bytes LE 1 src at h)
one_byte BE at src h = omega (arith, by_bytes BE 1 src at h)

-- a byte was read, which is the container in both orders
pub byte_turn : (order : Order) (a s : ℕ) (src : List ℕ) (i : ℕ) (t : List ℕ) → i < length t → i * s + a + 1 ≤ length src → Loaded order 1 a s src i t
    → Loaded order 1 a s src (i + 1) (set t i (get_or src (i * s + a) 0))
byte_turn order a s src i t h room below =
    set_below (container_in order 1 a s src) i t (get_or src (i * s + a) 0) h below
    (one_byte order (i * s + a) src room ∙ ap (λ (l : List ℕ). container order (take 1 l)) (sym (drop-drop a (i * s) src)))

-- a container of at most n bytes is a number of n bytes
pub in_bytes : (n size r : ℕ) → size ≤ n → r < 2 ^ (8 * size) → r < 2 ^ (8 * n)
in_bytes n size r h k = lt_of_lt_of_le k (pow_mono (omega arith))

-- ---- the loop that stores a column

-- the numbers t are stored to byte b of the first i records of d bytes, with the background's bits under keep
abbrev pub merged : Order → ℕ → ℕ → ℕ → List ℕ → ℕ → ℕ → List ℕ → List ℕ
merged order size b keep t d i dst = each_record (λ j x. merge_in order size b keep (get_or t j 0) x) d i dst

module _ (order : Order) (size b keep : ℕ) (t : List ℕ) (d i : ℕ) (dst : List ℕ) (low : i * d + d ≤ length dst) (fits : b + size ≤ d) where
  long : length (record_at d i dst) ≡ d
  long = length-take-le d (drop (i * d) dst) (rw length-drop (omega arith))

  parted : take (length dst - i * d) (drop (i * d) dst) ≡ record_at d i dst ++ drop d (drop (i * d) dst)
  parted = tail_lent (i * d) dst ∙ sym (take-append-drop d (drop (i * d) dst))

  pub merge_turn : (dst₀ e : List ℕ) (g c : ℕ) → dst ≡ merged order size b keep t d i dst₀
      → g ≡ container order (take size (drop b (take (length dst - i * d) (drop (i * d) dst)))) → c ≡ get_or t i 0 + bit_and g keep
      → e ≡ paste (take (length dst - i * d) (drop (i * d) dst)) b (contained order size c) size
      → put_mid (i * d) (length dst - i * d) dst e ≡ merged order size b keep t d (i + 1) dst₀
  merge_turn dst₀ e g c h hg hc he =
      let x : List ℕ = record_at d i dst in
      let y : List ℕ = drop d (drop (i * d) dst) in
      let room : b + size ≤ length x = rw long fits in
      let back : g ≡ container order (take size (drop b x)) = hg ∙ ap (λ (l : List ℕ). container order (take size (drop b l))) parted ∙ ap (container order) (part_front b size x y room) in
      let made : e ≡ merge_in order size b keep (get_or t i 0) x ++ y =
      (he ∙ ap (λ (l : List ℕ). paste l b (contained order size c) size) parted) ∙ paste_front b size (contained order size c) x y room
      ∙ ap (λ (v : ℕ). paste x b (contained order size v) size ++ y) (hc ∙ ap (λ (v : ℕ). get_or t i 0 + bit_and v keep) back) in
      each_next (λ j x. merge_in order size b keep (get_or t j 0) x) d i dst₀ dst e h made

  -- nothing of the background stays
  pub store_turn : (dst₀ e : List ℕ) → keep ≡ 0 → dst ≡ merged order size b keep t d i dst₀
      → e ≡ paste (take (length dst - i * d) (drop (i * d) dst)) b (contained order size (get_or t i 0)) size
      → put_mid (i * d) (length dst - i * d) dst e ≡ merged order size b keep t d (i + 1) dst₀
  store_turn dst₀ e none h he =
      let g : ℕ = container order (take size (drop b (take (length dst - i * d) (drop (i * d) dst)))) in
      merge_turn dst₀ e g (get_or t i 0) h refl (rw (none, and_zero_r g, add-zero)) he

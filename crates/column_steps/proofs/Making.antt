-- A number made by words of v bits: laws in the shape of what the functions need. Assumes nothing.
use Rattle.std.proofs.Common.{◌≡◌, ℕ, zero, suc, ◌+◌, ◌-◌, ◌*◌, ◌/◌, ◌%◌, ◌^◌, ◌<◌, ◌≤◌, List, length, get_or, set, sym, refl, ap, ◌∙◌, lt_of_le_of_lt, mul-le-mul_right, mod-eq_of_lt, arith, length-set, le-ltb, lt-ltb}
use lib.Bits.{bit_and, and_le_r}
use Rattle.records.specs.Record.{raises}
use Rattle.column_words.specs.declared.Words.{Words}
use Rattle.column_words.specs.Fit.{clamped, kind_by}
use Rattle.column_words.specs.Words.{bias_by, place_by, make_by, count_by, Fits}
use Rattle.column_words.proofs.Made.{wrapped, unwrapped}
use Rattle.blocks.specs.Blocks.{sum_to}
use Rattle.blocks.proofs.Turns.{set_below, set_ahead, sum_start, sum_next}

-- ---- its bias

pub bias_is : (v y mask : ℕ) {r : ℕ} → mask < 2 ^ v → r ≡ y % 2 ^ v → bit_and r mask ≡ bit_and y mask
bias_is v y mask h e = ap (λ (x : ℕ). bit_and x mask) e ∙ wrapped v y mask h

-- ---- a number between two ends

module _ (low high b : ℕ) where
  pub clamp_high : high < b → high ≡ clamped low high b
  clamp_high h = simp (lt-ltb high b h)

  pub clamp_low : b ≤ high → b < low → low ≡ clamped low high b
  clamp_low h k = simp (le-ltb high b h, lt-ltb b low k)

  pub clamp_none : b ≤ high → low ≤ b → b ≡ clamped low high b
  clamp_none h k = simp (le-ltb high b h, le-ltb b low k)

  pub count_high : high < b → (1 ≡ raises (kind_by low high b)) × (1 ≤ 1)
  count_high h = simp (lt-ltb high b h) (refl, omega arith)

  pub count_low : b ≤ high → b < low → (1 ≡ raises (kind_by low high b)) × (1 ≤ 1)
  count_low h k = simp (le-ltb high b h, lt-ltb b low k) (refl, omega arith)

  pub count_none : b ≤ high → low ≤ b → (0 ≡ raises (kind_by low high b)) × (0 ≤ 1)
  count_none h k = simp (le-ltb high b h, le-ltb b low k) (refl, omega arith)

-- what a wrapped difference says of them, where low is 0
pub over_counts : (high b r : ℕ) → (r ≡ 1 → high < b) × (r ≡ 0 → b ≤ high) × (r ≤ 1) → (r ≡ raises (kind_by 0 high b)) × (r ≤ 1)
over_counts high b zero h = count_none 0 high b (h.1 refl) (omega arith)
over_counts high b (suc zero) h = count_high 0 high b (h.0 refl)
over_counts high b (suc (suc r)) h = absurd (omega (arith, h.2))

-- ---- its place

module _ (v into up ones : ℕ) (fits : into * 2 ^ up + ones < 2 ^ v) where
  place_same : (x : ℕ) → (bit_and x into * 2 ^ up % 2 ^ v ≡ bit_and x into * 2 ^ up) × (bit_and x into * 2 ^ up + ones < 2 ^ v)
  place_same x =
      let most : bit_and x into * 2 ^ up ≤ into * 2 ^ up = mul-le-mul_right (2 ^ up) (and_le_r x into) in
      (mod-eq_of_lt (omega arith), omega arith)

  pub place_fits : (x : ℕ) → bit_and x into * 2 ^ up % 2 ^ v + ones < 2 ^ v
  place_fits x = rw (place_same x).0 (place_same x).1

  pub place_is : (r half b : ℕ) → v ≤ 64 → r < 2 ^ v → half < 2 ^ v → into < 2 ^ v → b < 2 ^ v → (r + half) % 2 ^ v ≡ b
      → bit_and r into * 2 ^ up % 2 ^ v + ones ≡ bit_and (b + (2 ^ 64 - half)) into * 2 ^ up + ones
  place_is r half b w lr lh li lb e =
      ap (λ (x : ℕ). x + ones) (place_same r).0
      ∙ ap (λ (x : ℕ). x * 2 ^ up + ones) (unwrapped v r half b into w lr lh li (e ∙ sym (mod-eq_of_lt lb)))

-- words that fit numbers of v bits have a place, and pads, among them
module _ (v : ℕ) (w : Words) (f : Fits v w) where
  pub has_place : (w.up < v) × (w.into * 2 ^ w.up + w.ones < 2 ^ v)
  has_place = (f.up, omega (arith, f.sum))

  pub ones_fit : w.ones < 2 ^ v
  ones_fit = omega (arith, f.sum)

-- ---- the whole number, by the words that a loop has at hand

unfoldable pub number_by : (shift half mask low high into up ones : ℕ) → ℕ → ℕ
number_by shift half mask low high into up ones x = bit_and (clamped low high (bit_and (x / 2 ^ shift + half) mask) + (2 ^ 64 - half)) into * 2 ^ up + ones

unfoldable pub outside_by : (shift half mask low high : ℕ) → ℕ → ℕ
outside_by shift half mask low high x = raises (kind_by low high (bit_and (x / 2 ^ shift + half) mask))

-- between the ends low and high, and outside them
abbrev pub number_in : Words → ℕ → ℕ → ℕ → ℕ
number_in w low high = number_by w.shift w.half w.mask low high w.into w.up w.ones

abbrev pub outside_in : Words → ℕ → ℕ → ℕ → ℕ
outside_in w low high = outside_by w.shift w.half w.mask low high

-- ---- the turns of a loop: of the numbers t₀ the first i are made, those from i on as they were, and those outside counted

abbrev pub Made : (ℕ → ℕ) → List ℕ → List ℕ → ℕ → Type 0
Made g t₀ t i = (length t ≡ length t₀) × ((j : ℕ) → j < i → get_or t j 0 ≡ g (get_or t₀ j 0)) × ((j : ℕ) → i ≤ j → get_or t j 0 ≡ get_or t₀ j 0)

abbrev pub Counted : (ℕ → ℕ) → List ℕ → ℕ → ℕ → Type 0
Counted f t₀ i raised = (raised ≡ sum_to (λ j. f (get_or t₀ j 0)) i) × (raised ≤ i)

pub made_start : (w : Words) (low high : ℕ) (t : List ℕ) → Made (number_in w low high) t t 0
made_start w low high t = (refl, (λ j h. absurd (omega arith)), (λ j h. refl))

pub count_start : (w : Words) (low high : ℕ) (t : List ℕ) → Counted (outside_in w low high) t 0 0
count_start w low high t = (sum_start (λ j. outside_in w low high (get_or t j 0)), omega arith)

module _ (w : Words) (t₀ t : List ℕ) (i : ℕ) {b : ℕ} (hb : b ≡ bias_by w (get_or t i 0)) where
  pub made_turn : (low high : ℕ) {m r : ℕ} → Made (number_in w low high) t₀ t i → i < length t → m ≡ clamped low high b → r ≡ place_by w m
      → Made (number_in w low high) t₀ (set t i r) (i + 1)
  unfolding number_by
  made_turn low high {m} {r} h l hm hr =
      let one : r ≡ number_in w low high (get_or t₀ i 0) = rw (hr, hm, hb, h.2 i (omega arith)) in
      (simp length-set h.0, set_below (λ j. number_in w low high (get_or t₀ j 0)) i t r l h.1 one, set_ahead t₀ t i r h.2)

  -- where each number is in range nothing is clamped
  pub easy_turn : {r : ℕ} → Made (number_in w 0 w.mask) t₀ t i → i < length t → r ≡ place_by w b → Made (number_in w 0 w.mask) t₀ (set t i r) (i + 1)
  easy_turn h l hr =
      made_turn 0 w.mask h l (clamp_none 0 w.mask b (rw hb (and_le_r (get_or t i 0 / 2 ^ w.shift + w.half) w.mask)) (omega arith)) hr

  pub count_turn : (low high : ℕ) {raised o : ℕ} → get_or t i 0 ≡ get_or t₀ i 0 → Counted (outside_in w low high) t₀ i raised → (o ≡ raises (kind_by low high b)) × (o ≤ 1)
      → Counted (outside_in w low high) t₀ (i + 1) (raised + o)
  unfolding outside_by
  count_turn low high {raised} {o} same h k =
      (sum_next (λ j. outside_in w low high (get_or t₀ j 0)) i raised o h.0 (k.0 ∙ rw (hb, same)), omega (arith, h.1, k.1))

-- ---- at the loop's end

module _ (w : Words) (t₀ t : List ℕ) {i count : ℕ} (end : i ≡ count) where
  pub made_end : Made (number_in w w.low w.high) t₀ t i → (j : ℕ) → j < count → get_or t j 0 ≡ make_by w (get_or t₀ j 0)
  unfolding number_by make_by
  made_end h j l = h.1 j (omega arith)

  pub easy_end : w.low ≡ 0 → w.high ≡ w.mask → Made (number_in w 0 w.mask) t₀ t i → (j : ℕ) → j < count → get_or t j 0 ≡ make_by w (get_or t₀ j 0)
  easy_end low high h = made_end (rw (low, high) h)

pub count_end : (w : Words) (t₀ : List ℕ) {i count raised : ℕ} → i ≡ count → Counted (outside_in w w.low w.high) t₀ i raised
    → (raised ≡ sum_to (λ j. count_by w (get_or t₀ j 0)) count) × (raised ≤ count)
unfolding outside_by count_by
count_end w t₀ end h = rw (← end) h

-- where low is 0
pub cap_end : (w : Words) (t₀ t : List ℕ) {i count raised : ℕ} → i ≡ count → w.low ≡ 0 → Made (number_in w 0 w.high) t₀ t i → Counted (outside_in w 0 w.high) t₀ i raised
    → ((j : ℕ) → j < count → get_or t j 0 ≡ make_by w (get_or t₀ j 0)) × (raised ≡ sum_to (λ j. count_by w (get_or t₀ j 0)) count) × (raised ≤ count)
cap_end w t₀ t {raised = raised} end low made counted =
    let c = count_end w t₀ {raised = raised} end (rw low counted) in
    (made_end w t₀ t end (rw low made), c.0, c.1)

-- a biased number is below the mask
pub bias_below : (w : Words) (x k : ℕ) {b : ℕ} → b ≡ bias_by w x → w.mask < k → b < k
bias_below w x k e h = rw e (lt_of_le_of_lt (and_le_r (x / 2 ^ w.shift + w.half) w.mask) h)

-- ---- words some of which are constants

pub words_same : (w : Words) {shift mask half up ones : ℕ} → w.shift ≡ shift → w.mask ≡ mask → w.half ≡ half → w.up ≡ up → w.ones ≡ ones
    → record {
      source_size = w.source_size;
      source_order = w.source_order;
      shift = shift;
      mask = mask;
      half = half;
      low = w.low;
      high = w.high;
      into = w.into;
      up = up;
      ones = ones;
      keep = w.keep;
      size = w.size;
      order = w.order;
    } ≡ w
words_same w a b c d e = rw (← a, ← b, ← c, ← d, ← e)

pub fits_as : {v w : Words} → v ≡ w → Fits 32 w → Fits 32 v
fits_as e f = rw e f

pub made_as : {v w : Words} → v ≡ w → (t₀ t : List ℕ) (count r : ℕ)
    → ((i : ℕ) → i < count → get_or t i 0 ≡ make_by v (get_or t₀ i 0)) × (r ≡ sum_to (λ i. count_by v (get_or t₀ i 0)) count) × (r ≤ count)
    → ((i : ℕ) → i < count → get_or t i 0 ≡ make_by w (get_or t₀ i 0)) × (r ≡ sum_to (λ i. count_by w (get_or t₀ i 0)) count) × (r ≤ count)
made_as e t₀ t count r h = rw (← e) h

-- ---- nothing is counted where each number is in range

sum_none : (f : ℕ → ℕ) → ((i : ℕ) → f i ≡ 0) → (k : ℕ) → 0 ≡ sum_to f k
unfolding sum_to
sum_none f h zero = refl
sum_none f h (suc k) = rw (h k, ← sum_none f h k)

pub none_outside : (w : Words) (t : List ℕ) (count : ℕ) → w.low ≡ 0 → w.high ≡ w.mask → (0 ≡ sum_to (λ j. count_by w (get_or t j 0)) count) × (0 ≤ count)
unfolding count_by
none_outside w t count low high = (
  sum_none
      (λ j. count_by w (get_or t j 0))
      (λ j.
      rw (low, high)
      (sym (count_none 0 w.mask (bias_by w (get_or t j 0)) (and_le_r (get_or t j 0 / 2 ^ w.shift + w.half) w.mask) (omega arith)).0))
      count,
  omega arith,
)

-- A column between a real and another leaf, loaded, made and stored. Assumes nothing.
use Rattle.std.proofs.Common.{◌≡◌, ℕ, ◌+◌, ◌-◌, ◌*◌, ◌/◌, ◌^◌, ◌<◌, ◌≤◌, Bool, true, false, List, length, get_or, take, drop, sym, refl, ap, ◌∙◌, mod-lt, arith, length-drop, take-append-drop, length-take-le, pow_pos}
use lib.Bits.{and_mask}
use lib.Seq.{paste}
use Rattle.bits.specs.Container.{container, field}
use Rattle.layout.specs.declared.Layout.{Layout}
use Rattle.layout.specs.Layout.{Valid}
use Rattle.number.specs.declared.Fitted.{Fitted}
use Rattle.number.specs.Number.{valued}
use Rattle.number.specs.Place.{place, stored}
use Rattle.number.proofs.RoundTrip.{bits_back}
use Rattle.reals.specs.Convert.{int_to_real, real_to_int}
use Rattle.reals.proofs.Back.{real_int_lt}
use Rattle.reals.proofs.LeafBack.{int_real_lt}
use Rattle.records.specs.Records.{record_at}
use Rattle.loops.proofs.Lists.{row_within}
use Rattle.loops.proofs.Fronts.{place_front}
use Rattle.plans.specs.LeafSteps.{real_of}
use Rattle.column_words.specs.declared.Words.{Words}
use Rattle.column_words.specs.Fill.{ones_of, keep_of}
use Rattle.column_words.specs.Words.{words_of, Fits}
use Rattle.column_words.proofs.Made.{words_fit_64, merged_is}
use Rattle.blocks.specs.Blocks.{each_record, container_in, merge_in}
use Rattle.blocks.proofs.Columns.{each_same}
use Rattle.real_columns.specs.Reals.{each_real_of, placed_in, real_in, int_by, real_by}
use Rattle.real_columns.proofs.Making.{bits_room, Outcome, outcome_same}

-- ---- containers by the words of their layouts

module _ (l m : Layout) (v : Valid l) (u : Valid m) {w : Words} (hw : w ≡ words_of l m) where
  -- what the loops ask of them
  pub ints_ready : Fits 64 w × Valid m × (w.into ≡ 2 ^ m.precision - 1)
  unfolding words_of
  ints_ready = rw hw (words_fit_64 v u, u, refl)

  pub reals_ready : m.precision ≡ 64 → Fits 64 w × (1 ≤ l.precision) × (l.precision ≤ 64) × (w.mask ≡ 2 ^ l.precision - 1) × (w.into ≡ 2 ^ 64 - 1)
  unfolding words_of
  reals_ready e = rw hw (words_fit_64 v u, v.some, v.most, refl, ap (λ (p : ℕ). 2 ^ p - 1) e)

  module _ (t₀ t : List ℕ) (k r : ℕ) {real : Bool} where
    pub ints_made : real ≡ true → Outcome (λ j. int_by w.shift w.mask m (get_or t₀ j 0)) w.up w.ones t k r
        → Outcome (λ j. real_in real l m (get_or t₀ j 0)) m.offset.0 (ones_of m) t k r
    unfolding words_of
    ints_made e h =
        rw e
        (outcome_same (λ j. int_by l.offset.0 (2 ^ l.precision - 1) m (get_or t₀ j 0)) (λ j. real_in true l m (get_or t₀ j 0)) m.offset.0 (ones_of m) t k
        (λ j b. ap (real_to_int m) (and_mask (get_or t₀ j 0 / 2 ^ l.offset.0) l.precision))
        (rw hw at h))

    pub reals_made : real ≡ false → Outcome (λ j. real_by w.shift w.mask l.signed l.precision (get_or t₀ j 0)) w.up w.ones t k r
        → Outcome (λ j. real_in real l m (get_or t₀ j 0)) m.offset.0 (ones_of m) t k r
    unfolding words_of
    reals_made e h =
        rw e
        (outcome_same (λ j. real_by l.offset.0 (2 ^ l.precision - 1) l.signed l.precision (get_or t₀ j 0)) (λ j. real_in false l m (get_or t₀ j 0)) m.offset.0 (ones_of m) t k
        (λ j b. ap (λ (x : ℕ). int_to_real (valued l.signed l.precision x)) (and_mask (get_or t₀ j 0 / 2 ^ l.offset.0) l.precision))
        (rw hw at h))

pub keep_is : (l m : Layout) {w : Words} → w ≡ words_of l m → w.keep ≡ keep_of m
unfolding words_of
keep_is l m e = ap (λ (w : Words). w.keep) e

-- ---- what a container becomes has room in the destination's, beside the background's bits

module _ (l m : Layout) (v : Valid l) (u : Valid m) where
  real_lt : (real : Bool) → (real ≡ false → m.precision ≡ 64) → (x : ℕ) → (real_in real l m x).raw < 2 ^ m.precision
  real_lt true e x = real_int_lt m.signed m.precision (field l.offset.0 l.precision x) u.some
  real_lt false e x =
      let raw : ℕ = field l.offset.0 l.precision x in
      rw (e refl)
      (int_real_lt l (valued l.signed l.precision raw) v
      (ap (λ (f : Fitted). f.kind) (bits_back l.signed l.precision raw v.some (mod-lt (x / 2 ^ l.offset.0) (pow_pos l.precision)))))

  placed_room : (real : Bool) → (real ≡ false → m.precision ≡ 64) → (x : ℕ) → placed_in m (real_in real l m x).raw + keep_of m < 2 ^ 64
  unfolding words_of
  placed_room real e x = bits_room (words_of l m) (words_fit_64 v u) m.precision (real_in real l m x).raw refl (real_lt real e x)

-- ---- the leaf at byte a of k records of s bytes

module _ (l m : Layout) (a s : ℕ) (src : List ℕ) (read : a + l.size.0 ≤ s) (k : ℕ) (rows : k * s ≤ length src) (real : Bool) where
  -- the container that is read from record i on is that of record i
  same_container : (i : ℕ) → i < k → container_in l.order l.size.0 a s src i ≡ container l.order (place l a (record_at s i src))
  same_container i h =
      let row : i * s + s ≤ k * s = row_within s h in
      let long : length (record_at s i src) ≡ s = length-take-le s (drop (i * s) src) (rw length-drop (omega arith)) in
      ap (λ (x : List ℕ). container l.order (place l a x)) (sym (take-append-drop s (drop (i * s) src)))
      ∙ ap (container l.order) (place_front l a (record_at s i src) (drop s (drop (i * s) src)) (rw long read))

  -- loaded, and made
  pub column_made : (t₀ t : List ℕ) {r : ℕ} → ((i : ℕ) → i < k → get_or t₀ i 0 ≡ container_in l.order l.size.0 a s src i)
      → Outcome (λ j. real_in real l m (get_or t₀ j 0)) m.offset.0 (ones_of m) t k r
      → Outcome (λ j. real_of real l m a (record_at s j src)) m.offset.0 (ones_of m) t k r
  column_made t₀ t loaded h =
      outcome_same (λ j. real_in real l m (get_or t₀ j 0)) (λ j. real_of real l m a (record_at s j src)) m.offset.0 (ones_of m) t k
      (λ j b. ap (real_in real l m) (loaded j b ∙ same_container j b)) h

module _ (l m : Layout) (v : Valid l) (u : Valid m) (a s : ℕ) (src : List ℕ) (real : Bool) (k : ℕ) (t : List ℕ) {r keep : ℕ} (hk : keep ≡ keep_of m)
    (made : Outcome (λ j. real_of real l m a (record_at s j src)) m.offset.0 (ones_of m) t k r) where
  pub column_room : (real ≡ false → m.precision ≡ 64) → (i : ℕ) → i < k → get_or t i 0 + keep < 2 ^ 64
  column_room e i h = rw (hk, made.0 i h) (placed_room l m v u real e (container l.order (place l a (record_at s i src))))

  -- and stored
  pub column_stored : (b d : ℕ) (dst : List ℕ) {out : List ℕ} → out ≡ each_record (λ i x. merge_in m.order m.size.0 b keep (get_or t i 0) x) d k dst
      → out ≡ each_real_of real l m b a s d src k dst
  column_stored b d dst e =
      e
      ∙ each_same (λ i x. merge_in m.order m.size.0 b keep (get_or t i 0) x) (λ i x. stored m b (real_of real l m a (record_at s i src)).raw x) d k dst
      (λ i h x.
      let g : ℕ = container m.order (take m.size.0 (drop b x)) in
      let f : Fitted = real_of real l m a (record_at s i src) in
      rw (hk, made.0 i h) (ap (λ (c : List ℕ). paste x b c m.size.0) (merged_is m u g f.raw)))

-- The words of two layouts, and a number made by them: it is document 01's, and it fits. Assumes nothing.
use mathlib.Core.Path.{◌≡◌, refl, sym, ap, ap₂, ◌∙◌}
use mathlib.Core.List.{List, ◌∷◌}
use mathlib.Core.Bool.{Bool, true, false}
use Prim.Native.Nat.{ℕ, zero, suc, ◌+◌, ◌-◌, ◌*◌, ◌/◌, ◌%◌, ◌^◌, ◌≤◌, ◌<◌, min}
use native.Mathlib.Nat.{lt_of_lt_of_le, mod-lt, mod-eq_of_lt, mod-add-mod, add-mul-mod_self_right, mul-add-mod_self_right, mul-le-mul_right, min-le_left}
use native.Mathlib.Omega.{arith}
use lib.Pow as Pow
use lib.Pow.{pow_pos, pow_mono, pow-lt, pow-add, split, high_ones, ones_lt, mod-mod-pow}
use lib.Bits.{bit_and, and_block, and_mask, and_le_r, and_zero_r}
use Rattle.bits.specs.declared.Order.{Order}
use Rattle.bits.specs.Container.{contained, to_digits, arranged, field}
use Rattle.layout.specs.declared.Pad.{Pad}
use Rattle.layout.specs.declared.Pad.TheVariants.{Zero, One, Keep}
use Rattle.layout.specs.declared.Layout.{Layout}
use Rattle.layout.specs.Layout.{Valid}
use Rattle.number.specs.Number.{valued, fitted}
use Rattle.number.specs.Place.{filled}
use Rattle.records.specs.Record.{raises}
use Rattle.column_words.specs.declared.Words.{Words}
use Rattle.column_words.specs.Fit.{half_of, most_of, clamped, kind_by, biased, unbiased}
use Rattle.column_words.specs.Fill.{ones_in, kept_in, low_pad, high_pad, ones_of, keep_of, filled_by}
use Rattle.column_words.specs.Words.{words_of, bias_by, place_by, make_by, count_by, Fits}
use Rattle.column_words.proofs.Fit.{fit_layouts}
use Rattle.column_words.proofs.Fill.{filled_over}

-- ---- a mask of at most v bits does not see that a number of v bits wrapped

pub wrapped : (v y m : ℕ) → m < 2 ^ v → bit_and (y % 2 ^ v) m ≡ bit_and y m
wrapped v y m h =
    let a : ℕ = y / 2 ^ v in
    let r : ℕ = y % 2 ^ v in
    let zero-up : m ≡ 0 * 2 ^ v + m = omega arith in
    let low : bit_and y m ≡ bit_and a 0 * 2 ^ v + bit_and r m = ap₂ bit_and (sym (split y v)) zero-up ∙ and_block v a 0 r m (mod-lt y (pow_pos v)) h in
    sym (low ∙ rw (and_zero_r a) (omega arith))

-- b - h, wrapped
pub unwrapped : (v r h b m : ℕ) → v ≤ 64 → r < 2 ^ v → h < 2 ^ v → m < 2 ^ v → (r + h) % 2 ^ v ≡ b % 2 ^ v → bit_and r m ≡ bit_and (b + (2 ^ 64 - h)) m
unwrapped v r h b m most lr lh lm e =
    let wide : 2 ^ v ≤ 2 ^ 64 = pow_mono {j = 64} most in
    let parts : 64 ≡ 64 - v + v = omega arith in
    let whole : 2 ^ 64 ≡ 2 ^ (64 - v) * 2 ^ v = ap (λ (k : ℕ). 2 ^ k) parts ∙ pow-add 2 (64 - v) v in
    let back : r + h + (2 ^ 64 - h) ≡ r + 2 ^ 64 = omega arith in
    let same : (b + (2 ^ 64 - h)) % 2 ^ v ≡ r =
    sym (mod-add-mod b (2 ^ v) (2 ^ 64 - h))
    ∙ ap (λ (x : ℕ). (x + (2 ^ 64 - h)) % 2 ^ v) (sym e)
    ∙ mod-add-mod (r + h) (2 ^ v) (2 ^ 64 - h)
    ∙ ap (λ (x : ℕ). x % 2 ^ v) (back ∙ ap (λ (x : ℕ). r + x) whole)
    ∙ add-mul-mod_self_right r (2 ^ (64 - v)) (2 ^ v)
    ∙ mod-eq_of_lt lr in
    ap (λ (x : ℕ). bit_and x m) (sym same) ∙ wrapped v (b + (2 ^ 64 - h)) m lm

-- ---- the words fit

both_in : (d : Pad) (x : ℕ) → ones_in d x + kept_in d x ≤ x
both_in Zero x = omega arith
both_in One x = omega arith
both_in Keep x = omega arith

half_lt : (s : Bool) (p : ℕ) → 1 ≤ p → half_of s p < 2 ^ p
half_lt false p h = pow_pos p
half_lt true p h = pow-lt (omega arith)

module _ (v : ℕ) (l m : Layout) (s : Valid l) (t : Valid m) (source : 8 * l.size.0 ≤ v) (destination : 8 * m.size.0 ≤ v) where
  sum_lt : (2 ^ m.precision - 1) * 2 ^ m.offset.0 + ones_of m + keep_of m < 2 ^ v
  unfolding ones_of keep_of
  sum_lt =
      let o : ℕ = m.offset.0 in
      let q : ℕ = m.precision in
      let e : q + o ≡ o + q = omega arith in
      let top : 2 ^ (o + q) - 2 ^ o ≡ (2 ^ q - 1) * 2 ^ o = rw e at (high_ones q o) in
      let all : 2 ^ (8 * m.size.0) ≤ 2 ^ v = pow_mono destination in
      let in-it : 2 ^ (o + q) ≤ 2 ^ (8 * m.size.0) = pow_mono t.inside in
      let low : 2 ^ o ≤ 2 ^ (o + q) = pow_mono (omega arith) in
      let some = pow_pos o in
      omega (arith, both_in m.msb (high_pad m), both_in m.lsb (low_pad m))

  -- the words of two layouts of at most v bits
  pub words_fit : Fits v (words_of l m)
  unfolding words_of
  words_fit =
      let p : ℕ = l.precision in
      let h : ℕ = half_of l.signed p in
      let from : 2 ^ p ≤ 2 ^ v = pow_mono (omega (arith, s.inside)) in
      let to : 2 ^ m.precision ≤ 2 ^ v = pow_mono (omega (arith, t.inside)) in
      let half : h < 2 ^ p = half_lt l.signed p s.some in
      let least : min (most_of l.signed p) (most_of m.signed m.precision) ≤ 2 ^ p - 1 - h = min-le_left (most_of l.signed p) (most_of m.signed m.precision) in
      record {
        source = source;
        destination = destination;
        down = omega (arith, s.inside, s.some);
        up = omega (arith, t.inside, t.some);
        mask = lt_of_lt_of_le (ones_lt p) from;
        half = lt_of_lt_of_le half from;
        low = omega arith;
        high = omega arith;
        into = lt_of_lt_of_le (ones_lt m.precision) to;
        sum = sum_lt;
      }

pub words_fit_64 : {l m : Layout} → Valid l → Valid m → Fits 64 (words_of l m)
words_fit_64 {l} {m} s t = words_fit 64 l m s t (omega (arith, s.sized)) (omega (arith, t.sized))

pub words_fit_32 : {l m : Layout} → Valid l → Valid m → l.size.0 ≤ 4 → m.size.0 ≤ 4 → Fits 32 (words_of l m)
words_fit_32 {l} {m} s t h k = words_fit 32 l m s t (omega arith) (omega arith)

-- ---- a number made by words

module _ (l m : Layout) (s : Valid l) (t : Valid m) where
  abbrev raw_of : ℕ → ℕ
  raw_of x = field l.offset.0 l.precision x

  bias_is : (x : ℕ) → bias_by (words_of l m) x ≡ biased l.signed l.precision (raw_of x)
  unfolding words_of
  bias_is x =
      and_mask (x / 2 ^ l.offset.0 + half_of l.signed l.precision) l.precision
      ∙ sym (mod-add-mod (x / 2 ^ l.offset.0) (2 ^ l.precision) (half_of l.signed l.precision))

  place_is : (b : ℕ) → place_by (words_of l m) b ≡ unbiased (half_of l.signed l.precision) m.precision b * 2 ^ m.offset.0 + ones_of m
  unfolding words_of
  place_is b = ap (λ (x : ℕ). x * 2 ^ m.offset.0 + ones_of m) (and_mask (b + (2 ^ 64 - half_of l.signed l.precision)) m.precision)

  raw_lt : (x : ℕ) → raw_of x < 2 ^ l.precision
  raw_lt x = mod-lt (x / 2 ^ l.offset.0) (pow_pos l.precision)

  pub make_is : (x : ℕ) → make_by (words_of l m) x ≡ (fitted m (valued l.signed l.precision (field l.offset.0 l.precision x))).raw * 2 ^ m.offset.0 + ones_of m
  unfolding make_by words_of
  make_is x =
      place_is (clamped (words_of l m).low (words_of l m).high (bias_by (words_of l m) x))
      ∙ ap (λ (b : ℕ). unbiased (half_of l.signed l.precision) m.precision (clamped (words_of l m).low (words_of l m).high b) * 2 ^ m.offset.0 + ones_of m) (bias_is x)
      ∙ ap (λ (r : ℕ). r * 2 ^ m.offset.0 + ones_of m) (sym (fit_layouts l m (raw_of x) s t (raw_lt x)).0)

  pub count_is : (x : ℕ) → count_by (words_of l m) x ≡ raises (fitted m (valued l.signed l.precision (field l.offset.0 l.precision x))).kind
  unfolding count_by words_of
  count_is x =
      ap (λ (b : ℕ). raises (kind_by (words_of l m).low (words_of l m).high b)) (bias_is x)
      ∙ ap raises (sym (fit_layouts l m (raw_of x) s t (raw_lt x)).1)

-- ---- it leaves room for the background's bits

module _ {v : ℕ} {w : Words} (f : Fits v w) where
  pub place_room : (b : ℕ) → place_by w b + w.keep < 2 ^ v
  place_room b =
      let x : ℕ = b + (2 ^ 64 - w.half) in
      let h : bit_and x w.into * 2 ^ w.up ≤ w.into * 2 ^ w.up = mul-le-mul_right (2 ^ w.up) (and_le_r x w.into) in
      omega (arith, f.sum)

  pub make_room : (x : ℕ) → make_by w x + w.keep < 2 ^ v
  unfolding make_by
  make_room x = place_room (clamped w.low w.high (bias_by w x))

-- ---- n bytes are all that is stored

digits_mod : (n c : ℕ) → to_digits n (c % 2 ^ (8 * n)) ≡ to_digits n c
digits_mod zero c = refl
digits_mod (suc n) c =
    let e : 8 * suc n ≡ 8 * n + 8 = omega arith in
    rw e (ap₂ (λ (x : ℕ) (l : List ℕ). x ∷ l) (mod-mod-pow c (8 * n) 8) (ap (to_digits n) (Pow.field c (8 * n) 8) ∙ digits_mod n (c / 256)))

pub over_bytes : (o : Order) (n k c : ℕ) → contained o n (k * 2 ^ (8 * n) + c) ≡ contained o n c
over_bytes o n k c =
    ap (arranged o) (sym (digits_mod n (k * 2 ^ (8 * n) + c)) ∙ ap (to_digits n) (mul-add-mod_self_right k (2 ^ (8 * n)) c) ∙ digits_mod n c)

-- a number with its pads, over the background's container g
pub merged_is : (m : Layout) → Valid m → (g r : ℕ)
    → contained m.order m.size.0 (r * 2 ^ m.offset.0 + ones_of m + bit_and g (keep_of m)) ≡ contained m.order m.size.0 (filled m g r)
merged_is m t g r =
    let over = filled_over m t g r in
    sym (over_bytes m.order m.size.0 over.0 (filled_by m.offset.0 (ones_of m) (keep_of m) g r)) ∙ ap (contained m.order m.size.0) (sym over.1)

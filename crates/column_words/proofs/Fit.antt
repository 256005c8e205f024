-- A number fitted by its biased bits is the number fitted by document 01. Assumes nothing.
use mathlib.Core.Path.{◌≡◌, refl, sym, ap, ◌∙◌}
use mathlib.Core.Logic.{◌⊎◌, inl, inr, ⊎_elim}
use mathlib.Core.Bool.{Bool, true, false}
use Prim.Native.Nat.{ℕ, suc, ◌+◌, ◌-◌, ◌*◌, ◌^◌, ◌%◌, ◌≤◌, ◌<◌, min}
use native.Mathlib.Nat.{lt_of_not-le, mod-eq_of_lt, add-mul-mod_self_right}
use native.Mathlib.Decide.{dec_le}
use native.Mathlib.Omega.{arith}
use lib.Pow.{pow_pos, pow_mono, pow-add, high_ones}
use lib.IntN.{ℤ, pos, negsuc}
use borrow.Author.Tests.{lt-ltb, le-ltb}
use Rattle.answer.specs.declared.Given.{Given}
use Rattle.layout.specs.declared.Layout.{Layout}
use Rattle.layout.specs.Layout.{Valid}
use Rattle.number.specs.declared.Fitted.{Fitted}
use Rattle.number.specs.Number.{valued, number_given, fitted_to, fitted}
use Rattle.number.proofs.Range.{twice_half, valued_low, valued_high, unsigned_above, unsigned_inside, signed_above, signed_inside, signed_below, signed_negative}
use Rattle.column_words.specs.Fit.{half_of, most_of, low_end, high_end, biased, clamped, kind_by, unbiased, raw_between, kind_between}

-- ---- the three cases of a clamp

-- a biased number b in q bits, given as g
abbrev pub fit_by : ℕ → ℕ → ℕ → ℕ → ℕ → Given → Fitted
fit_by half low high q b g = record { raw = unbiased half q (clamped low high b); kind = kind_by low high b; given = g }

module _ (h low high q b : ℕ) (g : Given) where
  fit_above : high < b → fit_by h low high q b g ≡ record { raw = unbiased h q high; kind = 1; given = g }
  fit_above k = simp (lt-ltb high b k)

  fit_below : b ≤ high → b < low → fit_by h low high q b g ≡ record { raw = unbiased h q low; kind = 2; given = g }
  fit_below k j = simp (le-ltb high b k, lt-ltb b low j)

  fit_inside : b ≤ high → low ≤ b → fit_by h low high q b g ≡ record { raw = unbiased h q b; kind = 0; given = g }
  fit_inside k j = simp (le-ltb high b k, le-ltb b low j)

-- ---- half taken away again

module _ (q : ℕ) (most : q ≤ 64) where
  whole : 2 ^ 64 ≡ 2 ^ (64 - q) * 2 ^ q
  whole =
      let e : 64 ≡ 64 - q + q = omega arith in
      ap (λ (k : ℕ). 2 ^ k) e ∙ pow-add 2 (64 - q) q

  part : 2 ^ 64 - 2 ^ q ≡ (2 ^ (64 - q) - 1) * 2 ^ q
  part =
      let e : 64 ≡ 64 - q + q = omega arith in
      ap (λ (k : ℕ). 2 ^ k - 2 ^ q) e ∙ high_ones (64 - q) q

  up : (h v x : ℕ) → h ≤ 2 ^ 64 → v < 2 ^ q → x ≡ v + h → unbiased h q x ≡ v
  up h v x k l e =
      let s : x + (2 ^ 64 - h) ≡ v + 2 ^ 64 = omega arith in
      ap (λ (y : ℕ). y % 2 ^ q) (s ∙ ap (λ (y : ℕ). v + y) whole) ∙ add-mul-mod_self_right v (2 ^ (64 - q)) (2 ^ q) ∙ mod-eq_of_lt l

  down : (h v x : ℕ) → h ≤ 2 ^ 64 → 0 < v → v ≤ 2 ^ q → x + v ≡ h → unbiased h q x ≡ 2 ^ q - v
  down h v x k p l e =
      let m : 2 ^ q ≤ 2 ^ 64 = pow_mono most in
      let s : x + (2 ^ 64 - h) ≡ 2 ^ q - v + (2 ^ 64 - 2 ^ q) = omega arith in
      let low : 2 ^ q - v < 2 ^ q = omega arith in
      ap (λ (y : ℕ). y % 2 ^ q) (s ∙ ap (λ (y : ℕ). 2 ^ q - v + y) part) ∙ add-mul-mod_self_right (2 ^ q - v) (2 ^ (64 - q) - 1) (2 ^ q) ∙ mod-eq_of_lt low

over_or_inside : (m n : ℕ) → (m < n) ⊎ (n ≤ m)
over_or_inside m n = elim (dec_le n m) [ yes h ↦ inr h | no f ↦ inl (lt_of_not-le f) ]

same : {r s k : ℕ} {g : Given} → r ≡ s → ◌≡◌ {A = Fitted} (record { raw = r; kind = k; given = g }) (record { raw = s; kind = k; given = g })
same e = rw e

-- ---- a number n above 0, or n + 1 below it, where the source's numbers go half below 0 and most above

module _ (half most q : ℕ) (wide : half ≤ 2 ^ 64) (some : 1 ≤ q) (few : q ≤ 64) where
  abbrev Goal : Bool → ℤ → ℕ → Type 0
  Goal t z b = fitted_to t q z ≡ fit_by half (half - half_of t q) (half + min most (most_of t q)) q b (number_given z)

  up_by : (n : ℕ) → n < 2 ^ q → unbiased half q (n + half) ≡ n
  up_by n l = up q few half n (n + half) wide l refl

  above : (t : Bool) (n : ℕ) → n ≤ most → Goal t (pos n) (n + half)
  above false n h =
      let room = pow_pos q in
      ⊎_elim
      (λ o. let m : half + min most (2 ^ q - 1 - 0) ≡ 2 ^ q - 1 + half = omega arith in
      unsigned_above q n o ∙ sym (rw m (fit_above half (half - 0) (2 ^ q - 1 + half) q (n + half) (number_given (pos n)) (omega arith) ∙ same (up_by (2 ^ q - 1) (omega arith)))))
      (λ i. unsigned_inside q n i ∙ sym (fit_inside half (half - 0) (half + min most (2 ^ q - 1 - 0)) q (n + half) (number_given (pos n)) (omega arith) (omega arith) ∙ same (up_by n (omega arith))))
      (over_or_inside (2 ^ q - 1) n)
  above true n h =
      let two = twice_half q some in
      let room = pow_pos (q - 1) in
      ⊎_elim
      (λ o. let m : half + min most (2 ^ q - 1 - 2 ^ (q - 1)) ≡ 2 ^ (q - 1) - 1 + half = omega arith in
      signed_above q n o ∙ sym (rw m (fit_above half (half - 2 ^ (q - 1)) (2 ^ (q - 1) - 1 + half) q (n + half) (number_given (pos n)) (omega arith) ∙ same (up_by (2 ^ (q - 1) - 1) (omega arith)))))
      (λ i. signed_inside q n i
      ∙ sym (fit_inside half (half - 2 ^ (q - 1)) (half + min most (2 ^ q - 1 - 2 ^ (q - 1))) q (n + half) (number_given (pos n)) (omega arith) (omega arith) ∙ same (up_by n (omega arith))))
      (over_or_inside (2 ^ (q - 1) - 1) n)

  below : (t : Bool) (n b : ℕ) → b + suc n ≡ half → Goal t (negsuc n) b
  below false n b e =
      let room = pow_pos q in
      let z : half - 0 ≡ 0 + half = omega arith in
      sym (fit_below half (half - 0) (half + min most (2 ^ q - 1 - 0)) q b (number_given (negsuc n)) (omega arith) (omega arith) ∙ same (ap (unbiased half q) z ∙ up_by 0 (omega arith)))
  below true n b e =
      let two = twice_half q some in
      let room = pow_pos (q - 1) in
      let high : b ≤ half + min most (2 ^ q - 1 - 2 ^ (q - 1)) = omega arith in
      ⊎_elim
      (λ o. let s : suc (2 ^ (q - 1) - 1) ≡ 2 ^ (q - 1) = omega arith in
      signed_below q n o
      ∙ sym (fit_below half (half - 2 ^ (q - 1)) (half + min most (2 ^ q - 1 - 2 ^ (q - 1))) q b (number_given (negsuc n)) high (omega arith)
      ∙ same (down q few half (2 ^ (q - 1)) (half - 2 ^ (q - 1)) wide (omega arith) (omega arith) (omega arith) ∙ ap (λ (x : ℕ). 2 ^ q - x) (sym s))))
      (λ i. signed_negative q n i
      ∙ sym (fit_inside half (half - 2 ^ (q - 1)) (half + min most (2 ^ q - 1 - 2 ^ (q - 1))) q b (number_given (negsuc n)) high (omega arith) ∙ same (down q few half (suc n) b wide (omega arith) (omega arith) e)))
      (over_or_inside (2 ^ (q - 1) - 1) n)

-- ---- the law

module _ (p r : ℕ) (some : 1 ≤ p) (h : r < 2 ^ p) where
  bias_low : r < 2 ^ (p - 1) → ((r + 2 ^ (p - 1)) % 2 ^ p ≡ r + 2 ^ (p - 1)) × (r ≤ 2 ^ p - 1 - 2 ^ (p - 1))
  bias_low low =
      let two = twice_half p some in
      let l : r + 2 ^ (p - 1) < 2 ^ p = omega arith in
      (mod-eq_of_lt l, omega arith)

  bias_high : 2 ^ (p - 1) ≤ r → ((r + 2 ^ (p - 1)) % 2 ^ p ≡ r - 2 ^ (p - 1)) × (r - 2 ^ (p - 1) + suc (2 ^ p - suc r) ≡ 2 ^ (p - 1))
  bias_high high =
      let two = twice_half p some in
      let e : r + 2 ^ (p - 1) ≡ r - 2 ^ (p - 1) + 1 * 2 ^ p = omega arith in
      let l : r - 2 ^ (p - 1) < 2 ^ p = omega arith in
      (ap (λ (x : ℕ). x % 2 ^ p) e ∙ add-mul-mod_self_right (r - 2 ^ (p - 1)) 1 (2 ^ p) ∙ mod-eq_of_lt l, omega arith)

-- what a biased number of p bits becomes in q bits is what document 01 says
pub fit_biased : (s : Bool) (p : ℕ) (t : Bool) (q r : ℕ) → 1 ≤ p → p ≤ 64 → 1 ≤ q → q ≤ 64 → r < 2 ^ p
    → fitted_to t q (valued s p r) ≡ fit_by (half_of s p) (low_end s p t q) (high_end s p t q) q (biased s p r) (number_given (valued s p r))
fit_biased false p t q r sp mp sq mq h =
    let z : r + 0 ≡ r = omega arith in
    let b : (r + 0) % 2 ^ p ≡ r + 0 = mod-eq_of_lt (rw z h) in
    let k : r ≤ 2 ^ p - 1 - 0 = omega arith in
    rw b (above 0 (2 ^ p - 1 - 0) q (omega arith) sq mq t r k)
fit_biased true p t q r sp mp sq mq h =
    let wide : 2 ^ (p - 1) ≤ 2 ^ 64 = pow_mono {j = 64} (omega arith) in
    ⊎_elim
    (λ low. rw ((bias_low p r sp h low).0, valued_low p r low) (above (2 ^ (p - 1)) (2 ^ p - 1 - 2 ^ (p - 1)) q wide sq mq t r (bias_low p r sp h low).1))
    (λ high. rw ((bias_high p r sp h high).0, valued_high p r high)
    (below (2 ^ (p - 1)) (2 ^ p - 1 - 2 ^ (p - 1)) q wide sq mq t (2 ^ p - suc r) (r - 2 ^ (p - 1)) (bias_high p r sp h high).1))
    (over_or_inside r (2 ^ (p - 1)))

-- the same for the bits r of l as those of m
pub fit_layouts : (l m : Layout) (r : ℕ) → Valid l → Valid m → r < 2 ^ l.precision
    → ((fitted m (valued l.signed l.precision r)).raw ≡ raw_between l m r) × ((fitted m (valued l.signed l.precision r)).kind ≡ kind_between l m r)
fit_layouts l m r v w h =
    let e = fit_biased l.signed l.precision m.signed m.precision r v.some v.most w.some w.most h in
    (ap (λ (f : Fitted). f.raw) e, ap (λ (f : Fitted). f.kind) e)

-- A real of less than 2^53 as an int: its bits alone give it. Assumes nothing.
use Rattle.std.proofs.Common.{◌≡◌, ℕ, zero, suc, ◌+◌, ◌-◌, ◌*◌, ◌/◌, ◌%◌, ◌^◌, ◌<◌, ◌≤◌, min, Bool, true, false, cond, not, ◌&&◌, ◌||◌, eqb, ltb, sym, refl, ap, ◌∙◌, ap₂, ⊎_elim, true≢false, mod-lt, mod-eq_of_lt, le-div_iff_mul-le, arith, pow_pos, pow_mono, le-ltb, lt-ltb, eq-eqb, ne_eqb, eqb-true, le-leb}
use native.Mathlib.Nat.{mod_self, div-eq_of_lt}
use lib.Bits.{bit_and, and_mask, and_le_r}
use lib.Pow.{split}
use Rattle.answer.specs.declared.Given.TheVariants.{Real}
use Rattle.number.specs.declared.Fitted.{Fitted}
use Rattle.number.specs.Number.{fitted_to}
use Rattle.number.proofs.Range.{unsigned_above, unsigned_inside, signed_above, signed_inside, signed_below, signed_negative, twice_half}
use Rattle.reals.specs.Worth.{negative, exponent, fraction}
use Rattle.reals.specs.Convert.{with_sign, noting, real_to_int_of}
use Rattle.reals.proofs.Rounding.{over_or_within}
use Rattle.real_numbers.specs.declared.cut.Cut.TheVariants.{Whole}
use Rattle.real_numbers.proofs.Cutting.{small_cut, right_cut}
use Rattle.real_numbers.proofs.Converted.{whole_int}
use Rattle.records.specs.Record.{raises}
use Rattle.column_words.specs.Fit.{half_of, most_of}
use Rattle.column_steps.proofs.Making.{bias_is}
use Rattle.real_columns.specs.Near.{significand_of, below_of, whole_near, part_near, limit_of, signed_in, raised_near}

-- ---- the small functions

module _ (part limit n : ℕ) where
  pub raised_over_lem : part ≡ 0 → limit < n → (1 ≡ raised_near part limit n) × (1 ≤ 1)
  raised_over_lem h k = rw (eq-eqb part 0 h, lt-ltb limit n k) (refl, omega arith)

  pub raised_inside : part ≡ 0 → n ≤ limit → (0 ≡ raised_near part limit n) × (0 ≤ 1)
  raised_inside h k = rw (eq-eqb part 0 h, le-ltb limit n k) (refl, omega arith)

  pub raised_part : (part ≡ 0 → ⊥) → (1 ≡ raised_near part limit n) × (1 ≤ 1)
  raised_part h = rw (ne_eqb part 0 h) (refl, omega arith)

pub signed_negated : (s : Bool) (into c : ℕ) {r : ℕ} → into < 2 ^ 64 → s ≡ true → r ≡ (into - c + 1) % 2 ^ 64 → (bit_and r into ≡ signed_in s into c) × (bit_and r into ≤ into)
signed_negated s into c {r} h e k = (rw e (bias_is 64 (into - c + 1) into h k), and_le_r r into)

pub limit_within : (s : Bool) (most least into : ℕ) {limit c : ℕ} → most ≤ into → least ≤ into → limit ≡ limit_of s most least → c ≤ limit → c ≤ into
limit_within true most least into h k e l = omega arith
limit_within false most least into h k e l = omega arith

pub ends_within : (signed : Bool) (p : ℕ) {most least into : ℕ} → 1 ≤ p → most ≡ most_of signed p → least ≡ half_of signed p → into ≡ 2 ^ p - 1 → (most ≤ into) × (least ≤ into)
ends_within false p h hm hl hi = (omega arith, omega arith)
ends_within true p h hm hl hi =
    let two = twice_half p h in
    let some = pow_pos (p - 1) in
    (omega arith, omega arith)

pub most_is : (signed : Bool) (p : ℕ) {into least : ℕ} → into ≡ 2 ^ p - 1 → least ≡ half_of signed p → into - least ≡ most_of signed p
most_is signed p e h = ap₂ (λ (a b : ℕ). a - b) e h

-- ---- the real cut toward zero

or_false : (f s : Bool) → f ≡ (f || (s && false))
or_false true s = refl
or_false false true = refl
or_false false false = refl

module _ (signed : Bool) (p b : ℕ) where
  abbrev Cut : Type 0
  Cut = noting (Real b) (not (eqb (part_near b) 0)) (fitted_to signed p (with_sign (negative b) (whole_near b))) ≡ real_to_int_of signed p b

  -- from 1 on
  cut_one : 1023 ≤ exponent b → exponent b ≤ 1075 → Cut
  unfolding whole_near part_near
  cut_one low high =
      let some : b ≡ 0 → ⊥ = λ (e : b ≡ 0). let no : 1023 ≤ exponent 0 = rw e at low in omega (arith, no) in
      let k : below_of (exponent b) ≡ 1075 - exponent b = omega arith in
      let n : ℕ = (2 ^ 52 + fraction b) / 2 ^ (1075 - exponent b) in
      let f : Bool = not (eqb ((2 ^ 52 + fraction b) % 2 ^ (1075 - exponent b)) 0) in
      let fits : 2 ^ (1075 - exponent b) ≤ 2 ^ 52 = pow_mono {j = 52} (omega arith) in
      let one : 1 ≤ n = (le-div_iff_mul-le (pow_pos (1075 - exponent b))).1 (omega arith) in
      rw (ne_eqb b 0 some, k)
      (ap (λ (l : Bool). noting (Real b) l (fitted_to signed p (with_sign (negative b) n))) (or_false f (negative b) ∙ ap (λ (z : Bool). f || (negative b && z)) (sym (ne_eqb n 0 (λ e. omega arith))))
      ∙ whole_int signed p b (Whole (negative b) n f) (negative b) n f (right_cut b low high) refl)

  -- below 1, and not the positive zero
  some_lost : (b ≡ 0 → ⊥) → true ≡ (not (eqb (exponent b + fraction b) 0) || (negative b && true))
  some_lost some = go (eqb (exponent b + fraction b) 0) refl
    where
      go : (z : Bool) → eqb (exponent b + fraction b) 0 ≡ z → true ≡ (not z || (negative b && true))
      go false e = refl
      go true e =
          let none : exponent b + fraction b ≡ 0 = eqb-true (exponent b + fraction b) 0 e in
          let whole : b / 2 ^ 52 * 2 ^ 52 + fraction b ≡ b = split b 52 in
          let parts : b / 2 ^ 52 / 2 ^ 11 * 2 ^ 11 + exponent b ≡ b / 2 ^ 52 = split (b / 2 ^ 52) 11 in
          let high : 2 ^ 63 ≤ b = ⊎_elim (λ o. omega arith) (λ z. absurd (some (omega arith))) (over_or_within 0 (b / 2 ^ 52 / 2 ^ 11)) in
          rw (le-leb (2 ^ 63) b high)

  cut_below : exponent b < 1023 → (b ≡ 0 → ⊥) → Cut
  unfolding whole_near part_near
  cut_below low some =
      let g : ℕ = 2 ^ 52 + fraction b in
      let k : ℕ = below_of (exponent b) in
      let far : 53 ≤ k = omega arith in
      let short : fraction b < 2 ^ 52 = mod-lt b (pow_pos 52) in
      let wide : 2 ^ 53 ≤ 2 ^ k = pow_mono {i = 53} far in
      let in-it : g < 2 ^ k = omega arith in
      let f : Bool = not (eqb (exponent b + fraction b) 0) in
      rw (ne_eqb b 0 some, div-eq_of_lt in-it, mod-eq_of_lt in-it, ne_eqb g 0 (λ e. omega arith))
      (ap (λ (l : Bool). noting (Real b) l (fitted_to signed p (with_sign (negative b) 0))) (some_lost some)
      ∙ whole_int signed p b (Whole (negative b) 0 f) (negative b) 0 f (small_cut b low) refl)

-- the positive zero
cut_zero : (signed : Bool) (p : ℕ) → Cut signed p 0
unfolding whole_near part_near
cut_zero signed p = whole_int signed p 0 (Whole false 0 false) false 0 false (small_cut 0 (omega arith)) refl

cut_near : (signed : Bool) (p b : ℕ) → exponent b ≤ 1075 → Cut signed p b
cut_near signed p b h =
    ⊎_elim (λ low. cut_one signed p b low h) (λ low. go (eqb b 0) refl low) (over_or_within 1022 (exponent b))
  where
    go : (z : Bool) → eqb b 0 ≡ z → exponent b ≤ 1022 → Cut signed p b
    go true e low = rw (eqb-true b 0 e) (cut_zero signed p)
    go false e low = cut_below signed p b (omega arith) (λ i. let no : ◌≡◌ {A = Bool} true false = sym (eq-eqb b 0 i) ∙ e in absurd (true≢false no))

-- ---- brought into the range

negated : (p c : ℕ) → 1 ≤ c → c ≤ 2 ^ p - 1 → bit_and (2 ^ p - 1 - c + 1) (2 ^ p - 1) ≡ 2 ^ p - c
negated p c some most =
    let e : 2 ^ p - 1 - c + 1 ≡ 2 ^ p - c = omega arith in
    and_mask (2 ^ p - 1 - c + 1) p ∙ ap (λ (x : ℕ). x % 2 ^ p) e ∙ mod-eq_of_lt (omega arith)

negated_none : (p : ℕ) → bit_and (2 ^ p - 1 - 0 + 1) (2 ^ p - 1) ≡ 0
negated_none p =
    let some = pow_pos p in
    let e : 2 ^ p - 1 - 0 + 1 ≡ 2 ^ p = omega arith in
    and_mask (2 ^ p - 1 - 0 + 1) p ∙ ap (λ (x : ℕ). x % 2 ^ p) e ∙ mod_self (2 ^ p)

abbrev Fit : Bool → ℕ → Bool → ℕ → Type 0
Fit signed p s n =
    (signed_in s (2 ^ p - 1) (min n (limit_of s (most_of signed p) (half_of signed p))) ≡ (fitted_to signed p (with_sign s n)).raw)
    × (cond (ltb (limit_of s (most_of signed p) (half_of signed p)) n) 1 0 ≡ raises (fitted_to signed p (with_sign s n)).kind)

fit_near : (signed : Bool) (p : ℕ) (s : Bool) (n : ℕ) → 1 ≤ p → Fit signed p s n
fit_near false p false n h =
    let limit : ℕ = 2 ^ p - 1 - 0 in
    ⊎_elim
    (λ (o : limit < n). let c : min n limit ≡ 2 ^ p - 1 = omega arith in rw (c, lt-ltb limit n o, unsigned_above p n (omega arith)) (refl, refl))
    (λ (i : n ≤ limit). let c : min n limit ≡ n = omega arith in rw (c, le-ltb limit n i, unsigned_inside p n (omega arith)) (refl, refl))
    (over_or_within limit n)
fit_near true p false n h =
    let two = twice_half p h in
    let limit : ℕ = 2 ^ p - 1 - 2 ^ (p - 1) in
    ⊎_elim
    (λ (o : limit < n). let c : min n limit ≡ 2 ^ (p - 1) - 1 = omega arith in rw (c, lt-ltb limit n o, signed_above p n (omega arith)) (refl, refl))
    (λ (i : n ≤ limit). let c : min n limit ≡ n = omega arith in rw (c, le-ltb limit n i, signed_inside p n (omega arith)) (refl, refl))
    (over_or_within limit n)
fit_near false p true zero h = let c : min 0 0 ≡ 0 = omega arith in rw (unsigned_inside p 0 (omega arith)) (rw c (negated_none p), refl)
fit_near false p true (suc n) h = let c : min (suc n) 0 ≡ 0 = omega arith in (rw c (negated_none p), rw (lt-ltb 0 (suc n) (omega arith)))
fit_near true p true zero h =
    let c : min 0 (2 ^ (p - 1)) ≡ 0 = omega arith in
    rw (signed_inside p 0 (omega arith)) (rw c (negated_none p), rw (le-ltb (2 ^ (p - 1)) 0 (omega arith)))
fit_near true p true (suc n) h =
    let two = twice_half p h in
    let some = pow_pos (p - 1) in
    let limit : ℕ = 2 ^ (p - 1) in
    ⊎_elim
    (λ (o : limit < suc n). let c : min (suc n) limit ≡ limit = omega arith in
    let s : suc (2 ^ (p - 1) - 1) ≡ limit = omega arith in
    rw (c, lt-ltb limit (suc n) o, signed_below p n (omega arith)) (negated p limit some (omega arith) ∙ ap (λ (x : ℕ). 2 ^ p - x) (sym s), refl))
    (λ (i : suc n ≤ limit). let c : min (suc n) limit ≡ suc n = omega arith in
    rw (c, le-ltb limit (suc n) i, signed_negative p n (omega arith)) (negated p (suc n) (omega arith) (omega arith), refl))
    (over_or_within limit (suc n))

-- ---- the law

raised_noted : (z : Bool) (o kind : ℕ) → o ≡ raises kind → cond z o 1 ≡ raises (cond (eqb kind 0) (cond (not z) 5 0) kind)
raised_noted true o zero e = e
raised_noted false o zero e = refl
raised_noted true o (suc kind) e = rw (ne_eqb (suc kind) 0 (λ i. omega arith)) e
raised_noted false o (suc kind) e = rw (ne_eqb (suc kind) 0 (λ i. omega arith)) refl

pub near_is : (signed : Bool) (p b : ℕ) {most least into raw raised : ℕ} → 1 ≤ p → exponent b ≤ 1075 → most ≡ most_of signed p → least ≡ half_of signed p → into ≡ 2 ^ p - 1
    → raw ≡ signed_in (negative b) into (min (whole_near b) (limit_of (negative b) most least)) → raised ≡ raised_near (part_near b) (limit_of (negative b) most least) (whole_near b)
    → (raw ≡ (real_to_int_of signed p b).raw) × (raised ≡ raises (real_to_int_of signed p b).kind)
near_is signed p b h low hm hl hi hraw hraised =
    let fit = fit_near signed p (negative b) (whole_near b) h in
    let cut = cut_near signed p b low in (
      hraw ∙ rw (hm, hl, hi) (fit.0 ∙ ap (λ (f : Fitted). f.raw) cut),
      hraised
          ∙ rw (hm, hl)
          (raised_noted (eqb (part_near b) 0) (cond (ltb (limit_of (negative b) (most_of signed p) (half_of signed p)) (whole_near b)) 1 0) (fitted_to signed p (with_sign (negative b) (whole_near b))).kind fit.1
          ∙ ap (λ (f : Fitted). raises f.kind) cut),
    )

-- what the function leaves
pub near_made : (b most least into : ℕ) {below sig q limit raised c raw : ℕ} → below ≡ below_of (exponent b) → sig ≡ significand_of b → q ≡ 2 ^ below → limit ≡ limit_of (negative b) most least
    → raised ≡ raised_near (sig % q) limit (sig / 2 ^ below) → c ≡ min (sig / 2 ^ below) limit → raw ≡ signed_in (negative b) into c
    → (raw ≡ signed_in (negative b) into (min (whole_near b) (limit_of (negative b) most least))) × (raised ≡ raised_near (part_near b) (limit_of (negative b) most least) (whole_near b))
unfolding whole_near part_near
near_made b most least into hb hs hq hl hr hc hraw = (hraw ∙ rw (hc, hl, hs, hb), hr ∙ rw (hq, hl, hs, hb))

-- Real to int, from what is left without the fraction. Assumes nothing.
use mathlib.Core.Path.{◌≡◌, refl, sym, ap, ◌∙◌}
use mathlib.Core.Bool.{Bool, true, false, cond, not, ◌&&◌, ◌||◌}
use Prim.Native.Nat.{ℕ, ◌*◌, ◌/◌, ◌%◌, ◌^◌, ◌≤◌, ◌<◌}
use lib.Dec.{eqb, ltb}
use lib.Pow.{pow_pos}
use borrow.Author.Tests.{eqb-true, ltb-true, ltb-false}
use Rattle.answer.specs.declared.Given.{Given}
use Rattle.answer.specs.declared.Given.TheVariants.{Real}
use Rattle.number.specs.Number.{fitted_to}
use Rattle.real_numbers.specs.declared.cut.Cut.{Cut}
use Rattle.real_numbers.specs.declared.cut.Cut.TheVariants.{NotANumber, Beyond, Whole}
use Rattle.reals.specs.Worth.{quanta_per_one, Worth, worth}
use Rattle.reals.specs.Worth.Worth.{not_a_number, infinite, finite}
use Rattle.reals.specs.Convert.{with_sign, lost, noting, worth_to_int, real_to_int_of}
use Rattle.real_numbers.specs.Left.{cut_of}
use Rattle.reals.proofs.Scale.{zero_scale, whole_quotient}
use Rattle.reals.proofs.Ends.{beyond_out}

-- a worth, and what is left of it
pub data View : Worth → Cut → Type 0 where
  nan : View not_a_number NotANumber
  inf : {s : Bool} → View (infinite s) (Beyond s)
  far : {s : Bool} {m : ℕ} → 2 ^ 64 ≤ m / quanta_per_one → View (finite s m) (Beyond s)
  near : {s : Bool} {m : ℕ} → m / quanta_per_one < 2 ^ 64 → View (finite s m) (Whole s (m / quanta_per_one) (not (eqb (m % quanta_per_one) 0)))

view : (w : Worth) → View w (cut_of w)
view not_a_number = nan
view (infinite s) = inf
view (finite s m) = go (ltb (m / quanta_per_one) (2 ^ 64)) refl
  where
    go : (t : Bool) → ltb (m / quanta_per_one) (2 ^ 64) ≡ t → View (finite s m) (cond t (Whole s (m / quanta_per_one) (not (eqb (m % quanta_per_one) 0))) (Beyond s))
    go true e = near (ltb-true _ _ e)
    go false e = far (ltb-false _ _ e)

pub viewed : (w : Worth) (c : Cut) → c ≡ cut_of w → View w c
viewed w c e = rw e (view w)

-- ---- real to int
-- what is lost, by the whole part
whole_lost : (t : Bool) (m : ℕ) → (not (eqb (m % quanta_per_one) 0) || (t && eqb (m / quanta_per_one) 0)) ≡ lost t m
whole_lost t m = go (eqb (m % quanta_per_one) 0) refl
  where
    go : (f : Bool) → eqb (m % quanta_per_one) 0 ≡ f → (not f || (t && eqb (m / quanta_per_one) 0)) ≡ (not f || (t && eqb m 0))
    go false e = refl
    go true e =
        let z : m % quanta_per_one ≡ 0 = eqb-true _ _ e in
        let w : m / quanta_per_one * quanta_per_one ≡ m = whole_quotient m quanta_per_one z in
        ap (λ (u : Bool). t && u) (sym (zero_scale (m / quanta_per_one) quanta_per_one (pow_pos 1074)) ∙ ap (λ (r : ℕ). eqb r 0) w)

nan_worth : (g : Given) (signed : Bool) (p : ℕ) (w : Worth) → View w NotANumber → record { raw = 0; kind = 4; given = g } ≡ worth_to_int g signed p w
nan_worth g signed p w nan = refl

beyond_worth : (g : Given) (signed : Bool) (p : ℕ) (w : Worth) (t : Bool) → 1 ≤ p → p ≤ 64 → View w (Beyond t)
    → worth_to_int g signed p (infinite t) ≡ worth_to_int g signed p w
beyond_worth g signed p w t a b inf = refl
beyond_worth g signed p w t a b (far {m = m} h) = beyond_out g signed p t (m / quanta_per_one) (lost t m) a b h

whole_worth : (g : Given) (signed : Bool) (p : ℕ) (w : Worth) (t : Bool) (n : ℕ) (f : Bool) → View w (Whole t n f)
    → noting g (f || (t && eqb n 0)) (fitted_to signed p (with_sign t n)) ≡ worth_to_int g signed p w
whole_worth g signed p w t n f (near {m = m} h) = ap (λ (l : Bool). noting g l (fitted_to signed p (with_sign t (m / quanta_per_one)))) (whole_lost t m)

module _ (signed : Bool) (p b : ℕ) where
  pub nan_int : (c : Cut) → c ≡ cut_of (worth b) → c ≡ NotANumber → record { raw = 0; kind = 4; given = Real b } ≡ real_to_int_of signed p b
  unfolding real_to_int_of
  nan_int c e f = nan_worth (Real b) signed p (worth b) (viewed (worth b) NotANumber (sym f ∙ e))

  pub beyond_int : (c : Cut) (t : Bool) → 1 ≤ p → p ≤ 64 → c ≡ cut_of (worth b) → c ≡ Beyond t
      → worth_to_int (Real b) signed p (infinite t) ≡ real_to_int_of signed p b
  unfolding real_to_int_of
  beyond_int c t l h e f = beyond_worth (Real b) signed p (worth b) t l h (viewed (worth b) (Beyond t) (sym f ∙ e))

  pub whole_int : (c : Cut) (t : Bool) (n : ℕ) (g : Bool) → c ≡ cut_of (worth b) → c ≡ Whole t n g
      → noting (Real b) (g || (t && eqb n 0)) (fitted_to signed p (with_sign t n)) ≡ real_to_int_of signed p b
  unfolding real_to_int_of
  whole_int c t n g e f = whole_worth (Real b) signed p (worth b) t n g (viewed (worth b) (Whole t n g) (sym f ∙ e))

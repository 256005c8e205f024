-- The ends of an int's range, and magnitudes of 2^64 and more, which are beyond every range. Assumes nothing.
use mathlib.Core.Path.{◌≡◌, refl, sym, ap, ◌∙◌}
use mathlib.Core.Logic.{⊎_elim}
use mathlib.Core.Bool.{Bool, true, false, cond, true≢false, false≢true}
use Prim.Native.Nat.{ℕ, zero, suc, ◌-◌, ◌^◌, ◌≤◌, ◌<◌}
use native.Mathlib.Omega.{arith}
use lib.Dec.{eqb}
use lib.IntN.{ℤ, pos, negsuc}
use lib.Pow.{pow_pos, pow_mono, ones_lt}
use Rattle.answer.specs.declared.Given.{Given}
use Rattle.answer.specs.declared.Given.TheVariants.{Real}
use Rattle.layout.specs.declared.Layout.{Layout}
use Rattle.number.specs.declared.Fitted.{Fitted}
use Rattle.number.specs.Number.{number_given, fitted_to}
use Rattle.number.proofs.Range.{most_le, sub_one_sub, unsigned_above, signed_above, signed_below}
use Rattle.number.proofs.RoundTrip.{fitted_lt}
use Rattle.reals.specs.Worth.{Worth, worth}
use Rattle.reals.specs.Worth.Worth.{not_a_number, infinite, finite}
use Rattle.reals.specs.Compare.{below0, magnitude}
use Rattle.reals.specs.Convert.{with_sign, toward_zero, noting, worth_to_int, real_to_int_of, real_to_int}
use Rattle.reals.proofs.Rounding.{over_or_within}

-- ---- what an infinity becomes in a range of p bits: the significant bits of the range's end, and the kind
abbrev Ended : Given → Bool → ℕ → Bool → ℕ → Type 0
Ended g signed p t raw = (raw ≡ (worth_to_int g signed p (infinite t)).raw) × (raw < 2 ^ p)

pub low_end : (g : Given) (p : ℕ) → 1 ≤ p → Ended g true p true (2 ^ p - 1 - (2 ^ (p - 1) - 1))
low_end g p h = (sub_one_sub (2 ^ p) (2 ^ (p - 1) - 1), omega (arith, pow_pos p))

pub high_end : (g : Given) (p : ℕ) → Ended g true p false (2 ^ (p - 1) - 1)
high_end g p = (refl, omega (arith, most_le p, pow_pos p))

pub zero_end : (g : Given) (p : ℕ) → Ended g false p true 0
zero_end g p = (refl, pow_pos p)

pub all_end : (g : Given) (p : ℕ) → Ended g false p false (2 ^ p - 1)
all_end g p = (refl, ones_lt p)

pub below_end : (g : Given) (signed : Bool) (p : ℕ) (t : Bool) (raw : ℕ) → t ≡ true → raw ≡ (worth_to_int g signed p (infinite t)).raw
    → record { raw = raw; kind = 2; given = g } ≡ worth_to_int g signed p (infinite t)
below_end g signed p true raw e f = ap (λ (r : ℕ). record { raw = r; kind = 2; given = g }) f
below_end g signed p false raw e f = absurd (false≢true e)

pub above_end : (g : Given) (signed : Bool) (p : ℕ) (t : Bool) (raw : ℕ) → t ≡ false → raw ≡ (worth_to_int g signed p (infinite t)).raw
    → record { raw = raw; kind = 1; given = g } ≡ worth_to_int g signed p (infinite t)
above_end g signed p false raw e f = ap (λ (r : ℕ). record { raw = r; kind = 1; given = g }) f
above_end g signed p true raw e f = absurd (true≢false e)

-- whatever a worth becomes has p bits
pub worth_lt : (g : Given) (signed : Bool) (p : ℕ) (w : Worth) → 1 ≤ p → (worth_to_int g signed p w).raw < 2 ^ p
worth_lt g signed p not_a_number a = pow_pos p
worth_lt g false p (infinite false) a = (all_end g p).1
worth_lt g false p (infinite true) a = pow_pos p
worth_lt g true p (infinite false) a = (high_end g p).1
worth_lt g true p (infinite true) a = rw (← sub_one_sub (2 ^ p) (2 ^ (p - 1) - 1)) (low_end g p a).1
worth_lt g signed p (finite s m) a = fitted_lt signed p (toward_zero s m) a

-- ---- a magnitude of 2^64 or more becomes what an infinity does, whatever was lost
pub beyond_out : (g : Given) (signed : Bool) (p : ℕ) (t : Bool) (n : ℕ) (l : Bool) → 1 ≤ p → p ≤ 64 → 2 ^ 64 ≤ n
    → worth_to_int g signed p (infinite t) ≡ noting g l (fitted_to signed p (with_sign t n))
beyond_out g signed p t zero l a b h = absurd (omega arith)
beyond_out g false p false (suc n) l a b h =
    let m : 2 ^ p ≤ 2 ^ 64 = pow_mono {i = p} {j = 64} b in
    let e = unsigned_above p (suc n) (omega (arith, pow_pos p)) in
    sym (ap (noting g l) e)
beyond_out g false p true (suc n) l a b h = refl
beyond_out g true p false (suc n) l a b h =
    let m : 2 ^ (p - 1) ≤ 2 ^ 64 = pow_mono {i = p - 1} {j = 64} (omega arith) in
    sym (ap (noting g l) (signed_above p (suc n) (omega (arith, pow_pos (p - 1)))))
beyond_out g true p true (suc n) l a b h =
    let m : 2 ^ (p - 1) ≤ 2 ^ 63 = pow_mono {i = p - 1} {j = 63} (omega arith) in
    sym (ap (noting g l) (signed_below p n (omega (arith, pow_pos (p - 1)))))

-- so it raises
beyond_kind : (signed : Bool) (p : ℕ) (t : Bool) (n : ℕ) → 1 ≤ p → p ≤ 64 → 2 ^ 64 ≤ n → (fitted_to signed p (with_sign t n)).kind ≡ 0 → ⊥
beyond_kind signed p t n a b h e =
    ends t (ap (λ (f : Fitted). f.kind) (beyond_out nothing signed p t n false a b h) ∙ ap (λ (k : ℕ). cond (eqb k 0) 0 k) e)
  where
    nothing : Given
    nothing = number_given (pos 0)

    ends : (t : Bool) → (worth_to_int nothing signed p (infinite t)).kind ≡ 0 → ⊥
    ends false q = omega (arith, q)
    ends true q = omega (arith, q)

-- and what is in the range of at most 64 bits has a magnitude below 2^64
pub fits_lt : (signed : Bool) (p : ℕ) (s : Bool) (n : ℕ) → 1 ≤ p → p ≤ 64 → (fitted_to signed p (with_sign s n)).kind ≡ 0 → n < 2 ^ 64
fits_lt signed p s n a b e = ⊎_elim (λ l. l) (λ h. absurd (no (beyond_kind signed p s n a b h))) (over_or_within n (2 ^ 64))
  where
    no : ((fitted_to signed p (with_sign s n)).kind ≡ 0 → ⊥) → ⊥
    no f = f e

of_sign : (z : ℤ) → with_sign (below0 z) (magnitude z) ≡ z
of_sign (pos n) = refl
of_sign (negsuc n) = refl

pub fits_magnitude : (signed : Bool) (p : ℕ) (z : ℤ) → 1 ≤ p → p ≤ 64 → (fitted_to signed p z).kind ≡ 0 → magnitude z < 2 ^ 64
fits_magnitude signed p z a h e = fits_lt signed p (below0 z) (magnitude z) a h (rw (of_sign z) e)

-- whatever becomes of a real, its 64 bits are what was given
worth_given : (g : Given) (signed : Bool) (p : ℕ) (w : Worth) → (worth_to_int g signed p w).given ≡ g
worth_given g signed p not_a_number = refl
worth_given g signed p (infinite false) = refl
worth_given g signed p (infinite true) = refl
worth_given g signed p (finite s m) = refl

pub real_given : (l : Layout) (b : ℕ) → (real_to_int l b).given ≡ Real b
unfolding real_to_int_of
real_given l b = worth_given (Real b) l.signed l.precision (worth b)

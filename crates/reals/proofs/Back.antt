-- Demand 2, the way back, and demand 3, different numbers into different bytes, for one leaf between int and real. Assumes nothing.
use mathlib.Core.Path.{◌≡◌, refl, sym, ap, ◌∙◌, subst}
use mathlib.Core.Bool.{Bool, true, false, cond, not, ◌&&◌, true≢false, false≢true}
use Prim.Native.Nat.{ℕ, zero, suc, ◌+◌, ◌-◌, ◌*◌, ◌/◌, ◌%◌, ◌^◌, ◌≤◌, ◌<◌}
use native.Mathlib.Nat.{zero-lt-suc, one-mul, zero-add, zero-mul, mul-div_cancel, mul-mod_left, mul-pos, le_trans, le_of_eq, lt_irrefl, lt_of_lt_of_le}
use native.Mathlib.Nat.{mul-le-mul_right, eq_of_mul-eq-mul_right}
use native.Mathlib.Omega.{arith}
use lib.Dec.{eqb, ltb, lit≤}
use lib.IntN.{ℤ, pos, negsuc}
use lib.Pow.{pow_pos, pow_mono}
use borrow.Author.Tests.{eqb-true, eq-eqb, ne_eqb, not-false, ltb-false}
use Rattle.answer.specs.declared.Given.{Given}
use Rattle.answer.specs.declared.Given.TheVariants.{Real}
use Rattle.number.specs.declared.Fitted.{Fitted}
use Rattle.number.specs.Number.{valued, number_given, fitted_to}
use Rattle.number.proofs.RoundTrip.{fitted_back, bits_back}
use Rattle.reals.specs.Worth.{quanta_per_one, quanta_of, Worth, worth}
use Rattle.reals.specs.Worth.Worth.{not_a_number, infinite, finite}
use Rattle.reals.specs.Nearest.{nearest, magnitude_bits}
use Rattle.reals.specs.Compare.{below0, magnitude, is_worth, equals}
use Rattle.reals.specs.Nearness.{IsNearest}
use Rattle.reals.specs.Convert.{int_to_real, with_sign, toward_zero, lost, worth_to_int, real_to_int_of}
use Rattle.reals.proofs.Tests.{and_left, or_true, or_false_left, or_false_right}
use Rattle.reals.proofs.Scale.{zero_scale, whole_quotient}
use Rattle.reals.proofs.Rounding.{Rounds, rounds_whole}
use Rattle.reals.proofs.Fields.{assembled, Apart, apart_of}
use Rattle.reals.proofs.Fields.Apart.{fin}
use Rattle.reals.proofs.Nearly.{Nearly, nearly, one_power}
use Rattle.reals.proofs.Nearness.{nearness, nearest_lt}
use Rattle.reals.proofs.Noting.{noting_nothing, noting_zero}
use Rattle.reals.proofs.Ends.{fits_lt, worth_lt}

-- ---- int to real and back
pub exact_when : (z : ℤ) → (int_to_real z).kind ≡ 0 → equals (nearest z) z ≡ true
unfolding int_to_real
exact_when z e = go (equals (nearest z) z) e
  where
    go : (t : Bool) → ◌≡◌ {A = ℕ} (cond t 0 6) 0 → t ≡ true
    go true e = refl
    go false e = absurd (omega (arith, e))

-- the double of a number that raised nothing is worth it, with its sign
pub exact_worth : (z : ℤ) → magnitude z < 2 ^ 64 → (int_to_real z).kind ≡ 0 → worth (nearest z) ≡ finite (below0 z) (magnitude z * quanta_per_one)
exact_worth z l e =
    let n : IsNearest z (nearest z) = nearness z l in
    let t : is_worth (finite (below0 z) n.quanta) z ≡ true = ap (λ (w : Worth). is_worth w z) (sym n.is) ∙ exact_when z e in
    n.is ∙ ap (finite (below0 z)) (eqb-true _ _ (and_left _ _ t))

-- such a worth, cut toward zero, is z, and nothing is lost
own_worth : (g : Given) (signed : Bool) (p : ℕ) (z : ℤ)
    → worth_to_int g signed p (finite (below0 z) (magnitude z * quanta_per_one)) ≡ record { raw = (fitted_to signed p z).raw; kind = (fitted_to signed p z).kind; given = g }
own_worth g signed p (pos n) =
    rw (mul-div_cancel n (pow_pos 1074), mul-mod_left n quanta_per_one) (noting_nothing g (fitted_to signed p (pos n)))
own_worth g signed p (negsuc n) =
    let z : eqb (suc n) 0 ≡ false = ne_eqb (suc n) 0 (λ e. omega arith) in
    rw (mul-div_cancel (suc n) (pow_pos 1074), mul-mod_left (suc n) quanta_per_one, zero_scale (suc n) quanta_per_one (pow_pos 1074), z)
    (noting_nothing g (fitted_to signed p (negsuc n)))

-- Int to real without kind 6, then real to int: what int to int gives, in every layout.
pub int_back : (signed : Bool) (p : ℕ) (z : ℤ) → magnitude z < 2 ^ 64 → (int_to_real z).kind ≡ 0
    → real_to_int_of signed p (nearest z) ≡ record { raw = (fitted_to signed p z).raw; kind = (fitted_to signed p z).kind; given = Real (nearest z) }
unfolding real_to_int_of
int_back signed p z l e = ap (worth_to_int (Real (nearest z)) signed p) (exact_worth z l e) ∙ own_worth (Real (nearest z)) signed p z

sign_and_magnitude : (z w : ℤ) → below0 z ≡ below0 w → magnitude z ≡ magnitude w → z ≡ w
sign_and_magnitude (pos n) (pos m) s e = ap pos e
sign_and_magnitude (pos n) (negsuc m) s e = absurd (false≢true s)
sign_and_magnitude (negsuc n) (pos m) s e = absurd (true≢false s)
sign_and_magnitude (negsuc n) (negsuc m) s e =
    let h : n ≡ m = omega arith in
    ap negsuc h

-- the sign and the quanta of a worth
abbrev sign_of : Worth → Bool
sign_of not_a_number = false
sign_of (infinite s) = s
sign_of (finite s m) = s

abbrev quanta_of_lem : Worth → ℕ
quanta_of_lem not_a_number = 0
quanta_of_lem (infinite s) = 0
quanta_of_lem (finite s m) = m

-- two numbers that raise nothing and give the same 64 bits are the same
pub ints_apart : (z w : ℤ) → magnitude z < 2 ^ 64 → magnitude w < 2 ^ 64 → (int_to_real z).kind ≡ 0 → (int_to_real w).kind ≡ 0 → nearest z ≡ nearest w → z ≡ w
ints_apart z w l h e f g =
    let q : finite (below0 z) (magnitude z * quanta_per_one) ≡ finite (below0 w) (magnitude w * quanta_per_one) =
    sym (exact_worth z l e) ∙ ap worth g ∙ exact_worth w h f in
    sign_and_magnitude z w (ap sign_of q) (eq_of_mul-eq-mul_right quanta_per_one (pow_pos 1074) (magnitude z) (magnitude w) (ap quanta_of_lem q))

-- ---- real to int and back: a worth that is a whole number is the double nearest to that number
carry : (k t : ℕ) → k * 2 ^ 52 + (2 ^ 52 + t) ≡ suc k * 2 ^ 52 + t
carry k t = omega arith

exact_magnitude : (x t n : ℕ) → t < 2 ^ 52 → quanta_of x t ≡ n * quanta_per_one → n < 2 ^ 64 → 0 < n → magnitude_bits n ≡ x * 2 ^ 52 + t
exact_magnitude zero t n h e l p =
    let o : quanta_per_one ≤ n * quanta_per_one = le_trans (le_of_eq (sym (one-mul quanta_per_one))) (mul-le-mul_right quanta_per_one p) in
    absurd (lt_irrefl t (lt_of_lt_of_le h (le_trans (pow_mono {i = 52} {j = 1074} (lit≤ tt)) (le_trans o (le_of_eq (sym e))))))
exact_magnitude (suc x) t n h e l p = go _ _ (nearly n l p)
  where
    go : (k y : ℕ) → Nearly n k y → magnitude_bits n ≡ suc x * 2 ^ 52 + t
    go k y r =
        let g = 2 ^ 52 + t in
        let lo : 2 ^ 52 * 2 ^ k ≤ g * 2 ^ x = subst (λ (m : ℕ). 2 ^ 52 * 2 ^ k ≤ m) (sym e) r.low in
        let hi : g * 2 ^ x < 2 ^ 53 * 2 ^ k = subst (λ (m : ℕ). m < 2 ^ 53 * 2 ^ k) (sym e) r.high in
        let s : x ≡ k = one_power g x k (omega arith) (omega arith) lo hi in
        let f : n * quanta_per_one ≡ g * 2 ^ k = sym e ∙ ap (λ (i : ℕ). g * 2 ^ i) s in
        let w : y ≡ g = rounds_whole g (2 ^ k) y (pow_pos k) (subst (λ (m : ℕ). Rounds m (2 ^ k) y) f r.rounds) in
        r.is ∙ rw (w, s) (carry k t)

zero_magnitude : (x t : ℕ) → quanta_of x t ≡ 0 → magnitude_bits 0 ≡ x * 2 ^ 52 + t
unfolding magnitude_bits
zero_magnitude zero t e = sym (ap (λ (m : ℕ). 0 * 2 ^ 52 + m) e)
zero_magnitude (suc x) t e =
    let h : 0 < (2 ^ 52 + t) * 2 ^ x = mul-pos (omega arith) (pow_pos x) in
    absurd (omega arith)

magnitude_of : (x t n : ℕ) → t < 2 ^ 52 → quanta_of x t ≡ n * quanta_per_one → n < 2 ^ 64 → magnitude_bits n ≡ x * 2 ^ 52 + t
magnitude_of x t zero h e l = zero_magnitude x t (e ∙ zero-mul quanta_per_one)
magnitude_of x t (suc n) h e l = exact_magnitude x t (suc n) h e l (zero-lt-suc n)

exact_bits : (s : Bool) (x t n : ℕ) → t < 2 ^ 52 → quanta_of x t ≡ n * quanta_per_one → n < 2 ^ 64 → (s && eqb n 0) ≡ false
    → nearest (with_sign s n) ≡ assembled s x t
exact_bits false x t n h e l z = magnitude_of x t n h e l ∙ sym (zero-add (x * 2 ^ 52 + t))
exact_bits true x t zero h e l z = absurd (true≢false z)
exact_bits true x t (suc n) h e l z = ap (λ (m : ℕ). 2 ^ 63 + m) (magnitude_of x t (suc n) h e l)

is_own : (s : Bool) (n : ℕ) → (s && eqb n 0) ≡ false → is_worth (finite s (n * quanta_per_one)) (with_sign s n) ≡ true
is_own false n z = rw (eq-eqb (n * quanta_per_one) (n * quanta_per_one) refl) (or_true (eqb (n * quanta_per_one) 0))
is_own true zero z = absurd (true≢false z)
is_own true (suc n) z = rw (eq-eqb (suc n * quanta_per_one) (suc n * quanta_per_one) refl) (or_true (eqb (suc n * quanta_per_one) 0))

real_of : (z : ℤ) (b : ℕ) → nearest z ≡ b → equals b z ≡ true → int_to_real z ≡ record { raw = b; kind = 0; given = number_given z }
unfolding int_to_real
real_of z b e f = rw (e, f)

not_lost : (s : Bool) (m : ℕ) → lost s m ≡ false → (m ≡ m / quanta_per_one * quanta_per_one) × ((s && eqb (m / quanta_per_one) 0) ≡ false)
not_lost s m e =
    let q : m % quanta_per_one ≡ 0 = eqb-true _ _ (not-false (eqb (m % quanta_per_one) 0) (or_false_left _ (s && eqb m 0) e)) in
    let w : m / quanta_per_one * quanta_per_one ≡ m = whole_quotient m quanta_per_one q in
    let z : eqb (m / quanta_per_one) 0 ≡ eqb m 0 = sym (zero_scale (m / quanta_per_one) quanta_per_one (pow_pos 1074)) ∙ ap (λ (r : ℕ). eqb r 0) w in
    (sym w, ap (λ (u : Bool). s && u) z ∙ or_false_right (not (eqb (m % quanta_per_one) 0)) _ e)

back_finite : (signed : Bool) (p b : ℕ) (s : Bool) (m : ℕ) → 1 ≤ p → p ≤ 64 → worth b ≡ finite s m → Apart b (finite s m)
    → (worth_to_int (Real b) signed p (finite s m)).kind ≡ 0
    → let z = valued signed p (worth_to_int (Real b) signed p (finite s m)).raw in int_to_real z ≡ record { raw = b; kind = 0; given = number_given z }
back_finite signed p b s m a h w (fin {x = x} {t = t} xl tl is) e =
    let k = noting_zero (Real b) (lost s (quanta_of x t)) (fitted_to signed p (toward_zero s (quanta_of x t))) e in
    let n = quanta_of x t / quanta_per_one in
    let q = not_lost s (quanta_of x t) k.1 in
    let c : nearest (with_sign s n) ≡ b = exact_bits s x t n tl q.0 (fits_lt signed p s n a h k.0) q.1 ∙ sym is in
    let f : equals b (with_sign s n) ≡ true = ap (λ (v : Worth). is_worth v (with_sign s n)) (w ∙ ap (finite s) q.0) ∙ is_own s n q.1 in
    rw (fitted_back signed p (with_sign s n) a k.0) (real_of (with_sign s n) b c f)

back_worth : (signed : Bool) (p b : ℕ) (w : Worth) → 1 ≤ p → p ≤ 64 → worth b ≡ w → Apart b w → (worth_to_int (Real b) signed p w).kind ≡ 0
    → let z = valued signed p (worth_to_int (Real b) signed p w).raw in int_to_real z ≡ record { raw = b; kind = 0; given = number_given z }
back_worth signed p b not_a_number a h w q e = absurd (omega (arith, e))
back_worth signed p b (infinite false) a h w q e = absurd (omega (arith, e))
back_worth signed p b (infinite true) a h w q e = absurd (omega (arith, e))
back_worth signed p b (finite s m) a h w q e = back_finite signed p b s m a h w q e

-- Real to int without an exception, then int to real: the very 64 bits, and nothing raised.
pub real_back : (signed : Bool) (p b : ℕ) → 1 ≤ p → p ≤ 64 → b < 2 ^ 64 → (real_to_int_of signed p b).kind ≡ 0
    → let z = valued signed p (real_to_int_of signed p b).raw in int_to_real z ≡ record { raw = b; kind = 0; given = number_given z }
unfolding real_to_int_of
real_back signed p b a h l e = back_worth signed p b (worth b) a h refl (apart_of b l) e

-- two reals that raise nothing and give the same bits of an int are the same
pub reals_apart : (signed : Bool) (p b c : ℕ) → 1 ≤ p → p ≤ 64 → b < 2 ^ 64 → c < 2 ^ 64 → (real_to_int_of signed p b).kind ≡ 0 → (real_to_int_of signed p c).kind ≡ 0
    → (real_to_int_of signed p b).raw ≡ (real_to_int_of signed p c).raw → b ≡ c
reals_apart signed p b c a h l m e f q =
    ap (λ (r : Fitted). r.raw)
    (sym (real_back signed p b a h l e) ∙ ap (λ (r : ℕ). int_to_real (valued signed p r)) q ∙ real_back signed p c a h m f)

-- ---- the same for p significant bits r of an int leaf
valued_lt : (signed : Bool) (p r : ℕ) → 1 ≤ p → p ≤ 64 → r < 2 ^ p → magnitude (valued signed p r) < 2 ^ 64
valued_lt false p r a h l = lt_of_lt_of_le l (pow_mono {i = p} {j = 64} h)
valued_lt true p r a h l = go (ltb r (2 ^ (p - 1))) refl
  where
    go : (t : Bool) → ltb r (2 ^ (p - 1)) ≡ t → magnitude (cond t (pos r) (negsuc (2 ^ p - suc r))) < 2 ^ 64
    go true e = lt_of_lt_of_le l (pow_mono {i = p} {j = 64} h)
    go false e =
        let u : 2 ^ p ≤ 2 ^ 64 = pow_mono {i = p} {j = 64} h in
        let g : 2 ^ (p - 1) ≤ r = ltb-false _ _ e in
        let o : 0 < 2 ^ (p - 1) = pow_pos (p - 1) in
        omega arith

pub int_leaf_back : (signed : Bool) (p r : ℕ) → 1 ≤ p → p ≤ 64 → r < 2 ^ p → (int_to_real (valued signed p r)).kind ≡ 0
    → let b = (int_to_real (valued signed p r)).raw in real_to_int_of signed p b ≡ record { raw = r; kind = 0; given = Real b }
unfolding int_to_real
int_leaf_back signed p r a h l e =
    int_back signed p (valued signed p r) (valued_lt signed p r a h l) e
    ∙ ap (λ (f : Fitted). record { raw = f.raw; kind = f.kind; given = Real (nearest (valued signed p r)) }) (bits_back signed p r a l)

-- what arrives without an exception is worth the same
pub real_int_worth : (signed : Bool) (p b : ℕ) → 1 ≤ p → p ≤ 64 → b < 2 ^ 64 → (real_to_int_of signed p b).kind ≡ 0
    → equals b (valued signed p (real_to_int_of signed p b).raw) ≡ true
unfolding int_to_real
real_int_worth signed p b a h l e =
    let w = valued signed p (real_to_int_of signed p b).raw in
    let q = real_back signed p b a h l e in
    let n : nearest w ≡ b = ap (λ (f : Fitted). f.raw) q in
    rw n at (exact_when w (ap (λ (f : Fitted). f.kind) q))

-- whatever the number, from −2^63 to 2^64 − 1, its double has 64 bits
pub int_real_raw : (z : ℤ) → magnitude z < 2 ^ 64 → (int_to_real z).raw < 2 ^ 64
unfolding int_to_real
int_real_raw z l = nearest_lt z l

-- whatever the bits, what they become has p bits
pub real_int_lt : (signed : Bool) (p b : ℕ) → 1 ≤ p → (real_to_int_of signed p b).raw < 2 ^ p
unfolding real_to_int_of
real_int_lt signed p b a = worth_lt (Real b) signed p (worth b) a

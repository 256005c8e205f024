-- The one shape that the proofs read of `magnitudeBits`: for n above 0, with N its quanta, it is k × 2^52 + y, where y is N / 2^k rounded and N lies from
-- 2^52 × 2^k to below 2^53 × 2^k. Assumes nothing.
use mathlib.Core.Path.{◌≡◌, refl, sym, ap, ◌∙◌, subst}
use mathlib.Core.Logic.{⊎_elim}
use mathlib.Core.Bool.{Bool}
use Prim.Native.Nat.{ℕ, zero, suc, ◌+◌, ◌-◌, ◌*◌, ◌^◌, ◌≤◌, ◌<◌}
use native.Mathlib.Nat.{zero-lt-suc, mul_comm, mul_assoc, mul_left_comm, mul-le-mul_right, mul-lt-mul_of_pos_right, pow-succ', le_trans, lt_irrefl}
use native.Mathlib.Nat.{lt_of_lt_of_le, lt_of_le_of_lt}
use native.Mathlib.Omega.{arith}
use lib.Dec.{lit<}
use lib.Pow.{pow-add, pow_pos, pow_mono, shl_lt}
use Rattle.reals.specs.Worth.{quanta_per_one, quanta_of, worth}
use Rattle.reals.specs.Worth.Worth.{finite}
use Rattle.reals.specs.Nearest.{highest, rounded, magnitude_bits}
use Rattle.reals.proofs.Highest.{Highest, highest_is}
use Rattle.reals.proofs.Rounding.{over_or_within, Rounds, rounded_is, rounded_same, rounds_low, rounds_high}
use Rattle.reals.proofs.Fields.{sign_bit, worth_of}

pub record Nearly (n k y : ℕ) : Type 0 where
  pub most : k ≤ 1085
  pub low : 2 ^ 52 * 2 ^ k ≤ n * quanta_per_one
  pub high : n * quanta_per_one < 2 ^ 53 * 2 ^ k
  pub rounds : Rounds (n * quanta_per_one) (2 ^ k) y
  pub rounded : rounded (n * quanta_per_one) (2 ^ k) ≡ y
  pub is : magnitude_bits n ≡ k * 2 ^ 52 + y

-- 2^p × 2^(u + e) is 2^e of 2^(p + u)
regroup : (p u e : ℕ) → 2 ^ p * 2 ^ (u + e) ≡ 2 ^ e * 2 ^ (p + u)
regroup p u e = simp (pow-add, mul_comm, mul_left_comm)

pub nearly : (n : ℕ) → n < 2 ^ 64 → 0 < n → Nearly n (1022 + highest 63 n) (rounded (n * 2 ^ 52) (2 ^ highest 63 n))
unfolding magnitude_bits
nearly zero l p = absurd (omega arith)
nearly (suc m) l p =
    let n = suc m in
    let e = highest 63 n in
    let h : Highest 63 n e = highest_is 63 n p l in
    let w : 2 ^ 52 * 2 ^ (1022 + e) ≡ 2 ^ e * quanta_per_one = regroup 52 1022 e in
    let v : 2 ^ 53 * 2 ^ (1022 + e) ≡ 2 ^ suc e * quanta_per_one = twice e w in
    let s : rounded (n * quanta_per_one) (2 ^ (1022 + e)) ≡ rounded (n * 2 ^ 52) (2 ^ e) =
    rounded_same (n * quanta_per_one) (2 ^ (1022 + e)) (n * 2 ^ 52) (2 ^ e) (pow_pos (1022 + e)) (pow_pos e) (same n e w) in
    record {
      most = omega (arith, h.most);
      low = rw w (mul-le-mul_right quanta_per_one h.low);
      high = rw v (mul-lt-mul_of_pos_right h.high (pow_pos 1074));
      rounds = subst (λ (y : ℕ). Rounds (n * quanta_per_one) (2 ^ (1022 + e)) y) s (rounded_is (n * quanta_per_one) (2 ^ (1022 + e)));
      rounded = s;
      is = refl;
    }
  where
    twice : (e : ℕ) → 2 ^ 52 * 2 ^ (1022 + e) ≡ 2 ^ e * quanta_per_one → 2 ^ 53 * 2 ^ (1022 + e) ≡ 2 ^ suc e * quanta_per_one
    twice e w = rw (pow-succ' 2 e, mul_assoc 2 (2 ^ e) quanta_per_one, ← w) (mul_assoc 2 (2 ^ 52) (2 ^ (1022 + e)))

    same : (n e : ℕ) → 2 ^ 52 * 2 ^ (1022 + e) ≡ 2 ^ e * quanta_per_one → n * quanta_per_one * 2 ^ e ≡ n * 2 ^ 52 * 2 ^ (1022 + e)
    same n e w = mul_assoc n quanta_per_one (2 ^ e) ∙ ap (λ (x : ℕ). n * x) (mul_comm quanta_per_one (2 ^ e) ∙ sym w) ∙ sym (mul_assoc n (2 ^ 52) (2 ^ (1022 + e)))

-- m quanta by an exponent and a fraction, whose bits are a
pub record Landed (a m : ℕ) : Type 0 where
  pub x : ℕ
  pub t : ℕ
  pub exponent : x < 2047
  pub fraction : t < 2 ^ 52
  pub bits : a ≡ x * 2 ^ 52 + t
  pub quanta : quanta_of x t ≡ m

pub landed : (k y : ℕ) → k ≤ 1085 → 2 ^ 52 ≤ y → y ≤ 2 ^ 53 → Landed (k * 2 ^ 52 + y) (y * 2 ^ k)
landed k y h l u = ⊎_elim below (λ g. carried (omega arith)) (over_or_within y (2 ^ 53))
  where
    below : y < 2 ^ 53 → Landed (k * 2 ^ 52 + y) (y * 2 ^ k)
    below g =
        let e : 2 ^ 52 + (y - 2 ^ 52) ≡ y = omega arith in
        record {
          x = suc k;
          t = y - 2 ^ 52;
          exponent = omega arith;
          fraction = omega arith;
          bits = omega arith;
          quanta = rw e;
        }

    carried : y ≡ 2 ^ 53 → Landed (k * 2 ^ 52 + y) (y * 2 ^ k)
    carried e = record {
      x = suc (suc k);
      t = 0;
      exponent = omega arith;
      fraction = pow_pos 52;
      bits = omega arith;
      quanta = rw (pow-succ' 2 k, e) (sym (mul_assoc (2 ^ 52) 2 (2 ^ k)));
    }

-- what is landed on is worth its quanta, under either sign
pub landed_worth : {a m : ℕ} → Landed a m → (s : Bool) → worth (sign_bit s + a) ≡ finite s m
landed_worth l s = rw l.bits (worth_of s l.x l.t l.exponent l.fraction ∙ ap (finite s) l.quanta)

pub nearly_low : {n k y : ℕ} → Nearly n k y → 2 ^ 52 ≤ y
nearly_low {n} {k} {y} r = rounds_low (n * quanta_per_one) (2 ^ k) y (2 ^ 52) (pow_pos k) r.rounds r.low

pub nearly_high : {n k y : ℕ} → Nearly n k y → y ≤ 2 ^ 53
nearly_high {n} {k} {y} r = rounds_high (n * quanta_per_one) (2 ^ k) y (2 ^ 53) (pow_pos k) r.rounds r.high

pub nearly_landed : {n k y : ℕ} → Nearly n k y → Landed (magnitude_bits n) (y * 2 ^ k)
nearly_landed {n} {k} {y} r = rw r.is (landed k y r.most (nearly_low r) (nearly_high r))

pub zero_landed : Landed (magnitude_bits 0) 0
unfolding magnitude_bits
zero_landed = record { x = 0; t = 0; exponent = lit< tt; fraction = pow_pos 52; bits = refl; quanta = refl }

-- every n has its bits, which leave the sign's bit free
pub record LandedAny (n : ℕ) : Type 0 where
  pub quanta : ℕ
  pub landed : Landed (magnitude_bits n) quanta

pub any_landed : (n : ℕ) → n < 2 ^ 64 → LandedAny n
any_landed zero l = record { quanta = 0; landed = zero_landed }
any_landed (suc n) l = record { quanta = _; landed = nearly_landed (nearly (suc n) l (zero-lt-suc n)) }

pub landed_lt : {a m : ℕ} → Landed a m → a < 2 ^ 63
landed_lt l = omega (arith, l.exponent, l.fraction, l.bits)

-- a significand of 53 bits and its power of two: one power for so many quanta
pub one_power : (g x k : ℕ) → 2 ^ 52 ≤ g → g < 2 ^ 53 → 2 ^ 52 * 2 ^ k ≤ g * 2 ^ x → g * 2 ^ x < 2 ^ 53 * 2 ^ k → x ≡ k
one_power g x k l h a b = ⊎_elim (λ o. absurd (no_low o)) (λ o. ⊎_elim (λ i. absurd (no_high i)) (λ i. omega arith) (over_or_within k x)) (over_or_within x k)
  where
    no_low : x < k → ⊥
    no_low o =
        let c : 2 ^ (53 + x) ≤ 2 ^ 52 * 2 ^ k = rw (← pow-add 2 52 k) (pow_mono {i = 53 + x} {j = 52 + k} (omega arith)) in
        lt_irrefl (2 ^ 52 * 2 ^ k) (lt_of_le_of_lt a (lt_of_lt_of_le (shl_lt {a = g} 53 x h) c))

    no_high : k < x → ⊥
    no_high i =
        let c : 2 ^ 53 * 2 ^ k ≤ 2 ^ 52 * 2 ^ x = rw (← pow-add 2 53 k, ← pow-add 2 52 x) (pow_mono {i = 53 + k} {j = 52 + x} (omega arith)) in
        lt_irrefl (g * 2 ^ x) (lt_of_lt_of_le b (le_trans c (mul-le-mul_right (2 ^ x) l)))

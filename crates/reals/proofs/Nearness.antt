-- `nearest z` is the nearest double to z. Assumes nothing.
use mathlib.Core.Path.{◌≡◌, refl, sym, ap, ◌∙◌, subst}
use mathlib.Core.Logic.{⊎_elim}
use mathlib.Core.Bool.{Bool, true, false}
use Prim.Native.Nat.{ℕ, zero, suc, ◌+◌, ◌-◌, ◌*◌, ◌%◌, ◌^◌, ◌≤◌, ◌<◌, zero-le}
use native.Mathlib.Nat.{zero-lt-suc, zero-add, zero-mul, mul_assoc, le_trans, le_of_eq, lt_of_lt_of_le, le_antisymm, mul-le-mul_left}
use native.Mathlib.Omega.{arith}
use lib.IntN.{ℤ, pos, negsuc}
use lib.Pow.{pow-add, pow_pos, pow_mono, shl_lt}
use Rattle.reals.specs.Worth.{quanta_per_one, quanta_of, Worth, worth}
use Rattle.reals.specs.Worth.Worth.{finite}
use Rattle.reals.specs.Nearest.{nearest, magnitude_bits}
use Rattle.reals.specs.Compare.{below0, magnitude}
use Rattle.reals.specs.Nearness.{apart, distance, IsNearest}
use Rattle.reals.proofs.Rounding.{gap, over_or_within, rounds_near, rounds_even}
use Rattle.reals.proofs.Fields.{sign_bit, Apart, apart_of}
use Rattle.reals.proofs.Fields.Apart.{fin}
use Rattle.reals.proofs.Nearly.{Nearly, nearly, nearly_landed, zero_landed, landed_worth, any_landed, landed_lt}

-- a multiple of 2^k that is as near to a as w is, and nearer where it is not w
pub record Beside (k a w d : ℕ) : Type 0 where
  pub j : ℕ
  pub near : gap (j * 2 ^ k) a ≤ d
  pub same : gap (j * 2 ^ k) a ≡ d → w ≡ j * 2 ^ k

under : (k a w : ℕ) → w < 2 ^ 52 * 2 ^ k → 2 ^ 52 * 2 ^ k ≤ a → Beside k a w (gap w a)
under k a w h l = record { j = 2 ^ 52; near = omega arith; same = λ e. absurd (no e) }
  where
    no : gap (2 ^ 52 * 2 ^ k) a ≡ gap w a → ⊥
    no e = omega arith

-- doubles from 2^52 × 2^k on are multiples of 2^k
beside : (x t k a : ℕ) → t < 2 ^ 52 → 2 ^ 52 * 2 ^ k ≤ a → Beside k a (quanta_of x t) (gap (quanta_of x t) a)
beside zero t k a h l =
    let p : 0 < 2 ^ k = pow_pos k in
    under k a t (omega (arith, mul-le-mul_left {m = 1} {n = 2 ^ k} (2 ^ 52) p)) l
beside (suc x) t k a h l = ⊎_elim low high (over_or_within x k)
  where
    low : x < k → Beside k a (quanta_of (suc x) t) (gap (quanta_of (suc x) t) a)
    low g =
        let b : (2 ^ 52 + t) * 2 ^ x < 2 ^ (53 + x) = shl_lt {a = 2 ^ 52 + t} 53 x (omega arith) in
        let c : 2 ^ (53 + x) ≤ 2 ^ (52 + k) = pow_mono {i = 53 + x} {j = 52 + k} (omega arith) in
        under k a ((2 ^ 52 + t) * 2 ^ x) (rw (← pow-add 2 52 k) (lt_of_lt_of_le b c)) l

    high : k ≤ x → Beside k a (quanta_of (suc x) t) (gap (quanta_of (suc x) t) a)
    high g =
        let e : x ≡ x - k + k = omega arith in
        let m : (2 ^ 52 + t) * 2 ^ x ≡ (2 ^ 52 + t) * 2 ^ (x - k) * 2 ^ k =
        ap (λ (i : ℕ). (2 ^ 52 + t) * 2 ^ i) e ∙ ap (λ (i : ℕ). (2 ^ 52 + t) * i) (pow-add 2 (x - k) k) ∙ sym (mul_assoc (2 ^ 52 + t) (2 ^ (x - k)) (2 ^ k)) in
        record { j = (2 ^ 52 + t) * 2 ^ (x - k); near = le_of_eq (ap (λ (i : ℕ). gap i a) (sym m)); same = λ _. m }

other : (w k a : ℕ) → Beside k a w (w + a)
other w k a =
    let z : 0 * 2 ^ k ≡ 0 = zero-mul (2 ^ k) in
    record { j = 0; near = omega arith; same = λ e. omega arith }

-- with signs: 0 is as near as a number of the other sign
beside_signed : (s r : Bool) (x t k a : ℕ) → t < 2 ^ 52 → 2 ^ 52 * 2 ^ k ≤ a → Beside k a (quanta_of x t) (apart s (quanta_of x t) r a)
beside_signed false false x t k a h l = beside x t k a h l
beside_signed true true x t k a h l = beside x t k a h l
beside_signed false true x t k a h l = other (quanta_of x t) k a
beside_signed true false x t k a h l = other (quanta_of x t) k a

-- the bits of z by its sign and its magnitude
pub nearest_is : (z : ℤ) → nearest z ≡ sign_bit (below0 z) + magnitude_bits (magnitude z)
nearest_is (pos n) = sym (zero-add (magnitude_bits n))
nearest_is (negsuc n) = refl

pub own : (r : Bool) (m a : ℕ) → apart r m r a ≡ gap m a
own false m a = refl
own true m a = refl

even_bits : (r : Bool) (k y : ℕ) → y % 2 ≡ 0 → (sign_bit r + (k * 2 ^ 52 + y)) % 2 ≡ 0
even_bits false k y h = omega arith
even_bits true k y h = omega arith

module _ (z : ℤ) (k y : ℕ) (r : Nearly (magnitude z) k y) where
  abbrev pub a : ℕ
  a = magnitude z * quanta_per_one

  from_parts : (c : ℕ) (s : Bool) (m : ℕ) → Apart c (finite s m) → Beside k a m (distance s m z)
  from_parts c s m (fin {x = x} {t = t} h l e) = beside_signed s (below0 z) x t k a l r.low

  pub beside_any : (c : ℕ) (s : Bool) (m : ℕ) → c < 2 ^ 64 → worth c ≡ finite s m → Beside k a m (distance s m z)
  beside_any c s m l e = from_parts c s m (subst (λ (w : Worth). Apart c w) e (apart_of c l))

  near_some : IsNearest z (nearest z)
  near_some = record {
    quanta = y * 2 ^ k;
    is = ap worth (nearest_is z) ∙ landed_worth (nearly_landed r) (below0 z);
    none_nearer = λ c s m l e.
        let b = beside_any c s m l e in
        rw (own (below0 z) (y * 2 ^ k) a) (le_trans (rounds_near a (2 ^ k) y b.j (pow_pos k) r.rounds) b.near);
    even_at_a_tie = λ c s m l e q n. tie c s m q n (beside_any c s m l e);
  }
    where
      tie : (c : ℕ) (s : Bool) (m : ℕ) → distance s m z ≡ distance (below0 z) (y * 2 ^ k) z → (m ≡ y * 2 ^ k → ⊥)
          → Beside k a m (distance s m z) → nearest z % 2 ≡ 0
      tie c s m q n b =
          let f : distance s m z ≡ gap (y * 2 ^ k) a = q ∙ own (below0 z) (y * 2 ^ k) a in
          let g : gap (b.j * 2 ^ k) a ≡ gap (y * 2 ^ k) a = le_antisymm (rw f at b.near) (rounds_near a (2 ^ k) y b.j (pow_pos k) r.rounds) in
          let w : m ≡ b.j * 2 ^ k = b.same (g ∙ sym f) in
          rw (nearest_is z, r.is)
          (even_bits (below0 z) k y (rounds_even a (2 ^ k) y b.j (pow_pos k) r.rounds g (λ (i : b.j ≡ y). n (w ∙ ap (λ (v : ℕ). v * 2 ^ k) i))))

near_zero : IsNearest (pos 0) (nearest (pos 0))
unfolding magnitude_bits
near_zero = record {
  quanta = 0;
  is = landed_worth zero_landed false;
  none_nearer = λ c s m l e. zero-le;
  even_at_a_tie = λ c s m l e q n. refl;
}

-- every whole number of a leaf, from −2^63 to 2^64 − 1, and some beyond
pub nearness : (z : ℤ) → magnitude z < 2 ^ 64 → IsNearest z (nearest z)
nearness (pos zero) l = near_zero
nearness (pos (suc n)) l = near_some (pos (suc n)) _ _ (nearly (suc n) l (zero-lt-suc n))
nearness (negsuc n) l = near_some (negsuc n) _ _ (nearly (suc n) l (zero-lt-suc n))

-- its bits are 64
pub nearest_lt : (z : ℤ) → magnitude z < 2 ^ 64 → nearest z < 2 ^ 64
nearest_lt (pos n) l =
    let h : magnitude_bits n < 2 ^ 63 = landed_lt (any_landed n l).landed in
    omega arith
nearest_lt (negsuc n) l =
    let h : magnitude_bits (suc n) < 2 ^ 63 = landed_lt (any_landed (suc n) l).landed in
    omega arith

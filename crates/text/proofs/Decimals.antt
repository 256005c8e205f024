-- Numbers in decimal: their digits, and that what is written is read. Assumes nothing.
use borrow.Author.Tests.{lt-ltb, le-ltb, ltb-true, ltb-false, le-leb, eq-eqb, ne_eqb}
use mathlib.Core.Path.{◌≡◌, refl, sym, ap, ◌∙◌}
use mathlib.Core.Bool.{Bool, true, false, cond}
use mathlib.Core.List.{List, [], ◌∷◌, ◌++◌}
use mathlib.Core.Option.{none, some}
use Prim.Native.Nat.{ℕ, zero, suc, ◌+◌, ◌-◌, ◌*◌, ◌/◌, ◌%◌, ◌^◌, ◌<◌, ◌≤◌}
use native.Mathlib.Nat.{not-suc-le-zero, pow-suc}
use native.Mathlib.Numerals.{add-one}
use native.Mathlib.Omega.{arith}
use lib.Dec.{ltb}
use lib.ListN.{length, length-append}
use lib.IntN.{ℤ, pos, negsuc, nat_abs}
use Rattle.text.specs.Field.{when, ◌>>=◌, is_digit, digits, decimal, decimal_in, decimal_of, signed_of}

-- ---- the digits of a number

-- what holds of each number of one digit, and of each other one where it holds of the number without its last digit, holds of all
module _ (P : ℕ → Type 0) (small : (n : ℕ) → n < 10 → P n) (large : (n : ℕ) → 10 ≤ n → P (n / 10) → P n) where
  below : (k n : ℕ) → n < k → P n
  below zero n h = absurd (not-suc-le-zero h)
  below (suc k) n h = go (ltb n 10) refl (λ b. below k (n / 10) (omega arith)) where
    go : (t : Bool) → ltb n 10 ≡ t → (10 ≤ n → P (n / 10)) → P n
    go true e r = small n (ltb-true n 10 e)
    go false e r = large n (ltb-false n 10 e) (r (ltb-false n 10 e))

  pub by_digits : (n : ℕ) → P n
  by_digits n = below (suc n) n (omega arith)

-- enough fuel is enough
fuel : (k j n : ℕ) → n < k → n < j → decimal_in k n ≡ decimal_in j n
unfolding decimal_in
fuel zero j n h g = absurd (not-suc-le-zero h)
fuel (suc k) zero n h g = absurd (not-suc-le-zero g)
fuel (suc k) (suc j) n h g = go (ltb n 10) refl (λ b. fuel k j (n / 10) (omega arith) (omega arith)) where
  go : (t : Bool) → ltb n 10 ≡ t → (10 ≤ n → decimal_in k (n / 10) ≡ decimal_in j (n / 10))
      → cond t ((48 + n) ∷ []) (decimal_in k (n / 10) ++ ((48 + n % 10) ∷ [])) ≡ cond t ((48 + n) ∷ []) (decimal_in j (n / 10) ++ ((48 + n % 10) ∷ []))
  go true e r = refl
  go false e r = ap (λ (l : List ℕ). l ++ ((48 + n % 10) ∷ [])) (r (ltb-false n 10 e))

module _ (n : ℕ) where
  pub decimal_small : n < 10 → decimal_of n ≡ (48 + n) ∷ []
  unfolding decimal_in
  decimal_small h = rw add-one (simp (lt-ltb _ _ h))

  pub decimal_large : 10 ≤ n → decimal_of n ≡ decimal_of (n / 10) ++ ((48 + n % 10) ∷ [])
  unfolding decimal_in
  decimal_large h =
      rw (add-one n) (simp (le-ltb _ _ h) (ap (λ (l : List ℕ). l ++ ((48 + n % 10) ∷ [])) (fuel n (n / 10 + 1) (n / 10) (omega arith) (omega arith))))

  pub length_small : n < 10 → length (decimal_of n) ≡ 1
  length_small h = ap length (decimal_small h)

  pub length_large : 10 ≤ n → length (decimal_of n) ≡ length (decimal_of (n / 10)) + 1
  length_large h = ap length (decimal_large h) ∙ length-append (decimal_of (n / 10)) ((48 + n % 10) ∷ [])

-- ---- at most so many digits

one_more : (k n : ℕ) (t : Bool) → ltb n 10 ≡ t → (10 ≤ n → length (decimal_of (n / 10)) ≤ k) → length (decimal_of n) ≤ suc k
one_more k n true e h = omega (arith, length_small n (ltb-true n 10 e))
one_more k n false e h = let l : 10 ≤ n = ltb-false n 10 e in omega (arith, length_large n l, h l)

pub digits_most : (k n : ℕ) → n < 10 ^ suc k → length (decimal_of n) ≤ suc k
digits_most zero n l = one_more 0 n (ltb n 10) refl (λ h. absurd (omega arith))
digits_most (suc k) n l =
    let p : n < 10 ^ suc k * 10 = rw (← pow-suc 10 (suc k)) l in
    one_more (suc k) n (ltb n 10) refl (λ h. digits_most k (n / 10) (omega arith))

-- and a sign
pub signed_most : (k : ℕ) (z : ℤ) → nat_abs z < 10 ^ suc k → length (signed_of z) ≤ suc (suc k)
signed_most k (pos n) l = omega (arith, digits_most k n l)
signed_most k (negsuc n) l = omega (arith, digits_most k (suc n) l)

-- ---- a number with and without a zero in front

pub one_digit : (b : ℕ) (bs : List ℕ) → b ≡ 48 → length (b ∷ bs) ≡ 1 → decimal (b ∷ bs) ≡ some 0
unfolding decimal digits
one_digit b [] e h = simp e
one_digit b (c ∷ cs) e h = absurd (omega arith)

pub zero_first : (b : ℕ) (bs : List ℕ) → b ≡ 48 → (length (b ∷ bs) ≡ 1 → ⊥) → decimal (b ∷ bs) ≡ none
unfolding decimal
zero_first b [] e h = absurd (h refl)
zero_first b (c ∷ cs) e h = simp (eq-eqb _ _ e)

pub no_zero : (b : ℕ) (bs : List ℕ) → (b ≡ 48 → ⊥) → decimal (b ∷ bs) ≡ digits 0 (b ∷ bs)
unfolding decimal
no_zero b [] h = refl
no_zero b (c ∷ cs) h = simp (ne_eqb _ _ h)

-- ---- what is written is read

digits_last : (v m c : ℕ) (xs : List ℕ) → digits v xs ≡ some m → 48 ≤ c → c ≤ 57 → digits v (xs ++ (c ∷ [])) ≡ some (m * 10 + (c - 48))
unfolding digits
digits_last v m c [] e g h = let p : v ≡ m = cc in simp (le-leb _ _ g, le-leb _ _ h, p)
digits_last v m c (b ∷ bs) e g h = go (is_digit b) e (λ q. digits_last (v * 10 + (b - 48)) m c bs q g h) where
  go : (t : Bool) → (when t (v * 10 + (b - 48)) >>= λ w. digits w bs) ≡ some m
      → (digits (v * 10 + (b - 48)) bs ≡ some m → digits (v * 10 + (b - 48)) (bs ++ (c ∷ [])) ≡ some (m * 10 + (c - 48)))
      → (when t (v * 10 + (b - 48)) >>= λ w. digits w (bs ++ (c ∷ []))) ≡ some (m * 10 + (c - 48))
  go true q r = r q
  go false q r = let z : ◌≡◌ {A = ℕ} 0 1 = cc in absurd (omega arith)

-- a number above 0 does not start with a zero
zero_alone : (b : ℕ) (bs : List ℕ) (m : ℕ) → b ≡ 48 → decimal (b ∷ bs) ≡ some m → 0 < m → ⊥
zero_alone b [] m e h l = let z : 0 ≡ m = cc (one_digit b [] e refl) in omega arith
zero_alone b (c ∷ cs) m e h l = let z : ◌≡◌ {A = ℕ} 0 1 = cc (zero_first b (c ∷ cs) e (λ q. omega arith)) in omega arith

decimal_last : (xs : List ℕ) (m c : ℕ) → decimal xs ≡ some m → 0 < m → 48 ≤ c → c ≤ 57 → decimal (xs ++ (c ∷ [])) ≡ some (m * 10 + (c - 48))
unfolding decimal
decimal_last [] m c e l g h = let z : ◌≡◌ {A = ℕ} 0 1 = cc in absurd (omega arith)
decimal_last (b ∷ bs) m c e l g h =
    let no : b ≡ 48 → ⊥ = λ q. zero_alone b bs m q e l in
    no_zero b (bs ++ (c ∷ [])) no ∙ digits_last 0 m c (b ∷ bs) (sym (no_zero b bs no) ∙ e) g h

pub read_written : (n : ℕ) → decimal (decimal_of n) ≡ some n
unfolding decimal digits
read_written =
    by_digits (λ n. decimal (decimal_of n) ≡ some n)
    (λ n b. rw (decimal_small n b) (simp (le-leb 48 (48 + n) (omega arith), le-leb (48 + n) 57 (omega arith)) (ap some (omega arith))))
    (λ n b r.
    let p : n / 10 * 10 + (48 + n % 10 - 48) ≡ n = omega arith in
    ap decimal (decimal_large n b)
    ∙ decimal_last (decimal_of (n / 10)) (n / 10) (48 + n % 10) r (omega arith) (omega arith) (omega arith)
    ∙ ap some p)

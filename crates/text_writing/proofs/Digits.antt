-- How many digits a number has, and digits written from the last one up. Assumes nothing.
use mathlib.Core.Path.{◌≡◌, refl, sym, ap, ap₂, ◌∙◌}
use mathlib.Core.List.{List, [], ◌∷◌, ◌++◌, append_assoc}
use Prim.Native.Nat.{ℕ, zero, suc, ◌+◌, ◌-◌, ◌*◌, ◌/◌, ◌%◌, ◌^◌, ◌<◌, ◌≤◌}
use native.Mathlib.Nat.{le_of_eq, add-suc, pow-suc, one-le-pow}
use native.Mathlib.Omega.{arith}
use lib.ListN.{length, set, take, drop, length-append, length-set}
use lib.Seq.{paste, take_all, take-set-le, drop-cons, get_or-set_same, drop-set-lt, append_snoc}
use Rattle.text.specs.Field.{decimal_of}
use Rattle.text.proofs.Decimals.{by_digits, decimal_small, decimal_large, length_small, length_large}

-- ---- writing from the last digit up

-- the i last digits of m
unfoldable pub last_digits : ℕ → ℕ → List ℕ
last_digits zero m = []
last_digits (suc i) m = last_digits i (m / 10) ++ ((48 + m % 10) ∷ [])

length_last : (i m : ℕ) → length (last_digits i m) ≡ i
unfolding last_digits
length_last zero m = refl
length_last (suc i) m = length-append (last_digits i (m / 10)) ((48 + m % 10) ∷ []) ∙ omega (arith, length_last i (m / 10))

pub all_digits : (n : ℕ) → last_digits (length (decimal_of n)) n ≡ decimal_of n
unfolding last_digits
all_digits =
    by_digits (λ n. last_digits (length (decimal_of n)) n ≡ decimal_of n)
    (λ n b. let p : 48 + n % 10 ≡ 48 + n = omega arith in rw (decimal_small n b) (ap (λ (x : ℕ). x ∷ []) p))
    (λ n b r.
    let p : length (decimal_of n) ≡ suc (length (decimal_of (n / 10))) = omega (arith, length_large n b) in
    ap (λ (l : ℕ). last_digits l n) p ∙ ap (λ (l : List ℕ). l ++ ((48 + n % 10) ∷ [])) r ∙ sym (decimal_large n b))

-- the element x behind a paste of all of t
paste_last : (d : List ℕ) (at j : ℕ) (t : List ℕ) (x : ℕ) → length t ≡ j → at + j < length d
    → paste (set d (at + j) x) at t j ≡ paste d at (t ++ (x ∷ [])) (suc j)
paste_last d at j t x e h =
    let rest : drop (at + j) (set d (at + j) x) ≡ x ∷ drop (suc (at + j)) d =
    drop-cons (set d (at + j) x) (at + j) 0 (rw length-set h)
    ∙ ap₂ (λ (y : ℕ) (l : List ℕ). y ∷ l) (get_or-set_same d (at + j) x 0 h) (drop-set-lt (suc (at + j)) d (at + j) x (omega arith)) in
    rw (
      take-set-le at d (at + j) x (omega arith),
      take_all j t (le_of_eq e),
      rest,
      take_all (suc j) (t ++ (x ∷ [])) (le_of_eq (length-append t (x ∷ []) ∙ omega arith)),
      add-suc,
      ← append_assoc,
    )
    (sym (append_snoc (take at d ++ t) x (drop (suc (at + j)) d)))

-- a turn of the loop that writes: the last of i digits goes to its place
pub digit_written : (d w : List ℕ) (at i m : ℕ) → paste d at (last_digits i m) i ≡ w → 0 < i → at + i ≤ length d
    → paste (set d (at + (i - 1)) (48 + m % 10)) at (last_digits (i - 1) (m / 10)) (i - 1) ≡ w
unfolding last_digits
digit_written d w at i m inv h l =
    let p : i ≡ suc (i - 1) = omega arith in
    paste_last d at (i - 1) (last_digits (i - 1) (m / 10)) (48 + m % 10) (length_last (i - 1) (m / 10)) (omega arith) ∙ (rw p at inv)

-- as many digits as the largest power of ten within n has
pub length_power : (k n : ℕ) → 10 ^ k ≤ n → n < 10 * 10 ^ k → length (decimal_of n) ≡ k + 1
length_power zero n l h = omega (arith, length_small n (omega arith))
length_power (suc k) n l h =
    let p : 10 ^ suc k ≡ 10 ^ k * 10 = pow-suc 10 k in
    let o : 1 ≤ 10 ^ k = one-le-pow k 10 (omega arith) in
    omega (arith, length_large n (omega arith), length_power k (n / 10) (omega arith) (omega arith))

-- where the loop begins
pub digits_start : (d : List ℕ) (at n l : ℕ) → l ≡ length (decimal_of n) → paste d at (last_digits l n) l ≡ paste d at (decimal_of n) (length (decimal_of n))
digits_start d at n l e = rw (e, all_digits)

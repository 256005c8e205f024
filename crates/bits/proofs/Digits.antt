-- Laws of a number's base-256 digits and of their two orders. Assumes nothing.
use mathlib.Core.Path.{◌≡◌, refl, sym, ap, ap₂, ◌∙◌}
use mathlib.Core.Logic.{⊎_elim}
use mathlib.Core.List.{List, [], ◌∷◌, ◌++◌, reverse_aux, reverse-reverse}
use Prim.Native.Nat.{ℕ, zero, suc, ◌+◌, ◌-◌, ◌*◌, ◌/◌, ◌%◌, ◌^◌, ◌≤◌, ◌<◌}
use native.Mathlib.Nat.{eq-or-lt_of_le, le_of_suc-le-suc, not-suc-le-zero, le_of_eq, lt_of_lt_of_le, mul_assoc, div-one, mod-one}
use native.Mathlib.Numerals.{add-one}
use native.Mathlib.Omega.{arith}
use lib.ListN.{length, get_or, set, take, drop, length-reverse, length-drop, drop_of_length-le}
use lib.Seq.{paste, paste-suc, length-take-le, get_or-take, get_or-drop, drop-cons}
use lib.Arith.{digits_lt}
use lib.Pow.{pow-add, pow_mono, shr-shr, mod-pow-add}
use Rattle.bits.specs.declared.Order.{Order}
use Rattle.bits.specs.declared.Order.TheVariants.{LE, BE}
use Rattle.bits.specs.Container.{arranged, from_digits, to_digits, container, contained}
use Rattle.bits.specs.Index.{index_of}

-- what stands behind the reversed part, and in it
getD_behind : (l r : List ℕ) (i : ℕ) → get_or (reverse_aux l r) (length l + i) 0 ≡ get_or r i 0
getD_behind [] r i = ap (λ (k : ℕ). get_or r k 0) (omega arith)
getD_behind (x ∷ xs) r i = ap (λ (k : ℕ). get_or (reverse_aux xs (x ∷ r)) k 0) (omega arith) ∙ getD_behind xs (x ∷ r) (suc i)

getD_within : (l r : List ℕ) (i : ℕ) → i < length l → get_or (reverse_aux l r) i 0 ≡ get_or l (length l - suc i) 0
getD_within [] r i h = absurd (not-suc-le-zero h)
getD_within (x ∷ xs) r i h =
    ⊎_elim
    (λ e. let q : suc (length xs) - suc i ≡ 0 = omega arith in
    ap (λ (k : ℕ). get_or (reverse_aux xs (x ∷ r)) k 0) (omega arith) ∙ getD_behind xs (x ∷ r) 0 ∙ rw q)
    (λ lt. let q : suc (length xs) - suc i ≡ suc (length xs - suc i) = omega arith in
    getD_within xs (x ∷ r) i lt ∙ rw q)
    (eq-or-lt_of_le (le_of_suc-le-suc h))

-- the digits of a, and those of b above them
pub digits_append : (a b : List ℕ) → from_digits (a ++ b) ≡ from_digits b * 2 ^ (8 * length a) + from_digits a
digits_append [] b = omega arith
digits_append (x ∷ xs) b =
    let e : 8 * suc (length xs) ≡ 8 * length xs + 8 = omega arith in
    let p : 2 ^ (8 * suc (length xs)) ≡ 2 ^ (8 * length xs) * 256 = rw (e, pow-add 2 (8 * length xs) 8) in
    rw (digits_append xs b, p) (omega (arith, mul_assoc (from_digits b) (2 ^ (8 * length xs)) 256))

pub arranged_length : (o : Order) (l : List ℕ) → length (arranged o l) ≡ length l
arranged_length LE l = refl
arranged_length BE l = length-reverse l

pub arranged_twice : (o : Order) (l : List ℕ) → arranged o (arranged o l) ≡ l
arranged_twice LE l = refl
arranged_twice BE l = reverse-reverse l

pub arranged_at : (o : Order) (l : List ℕ) (n i : ℕ) → length l ≡ n → i < n → get_or (arranged o l) i 0 ≡ get_or l (index_of o n i) 0
arranged_at LE l n i e h = refl
arranged_at BE l n i e h = rw (← e) (getD_within l [] i (rw e h))

pub digits_length : (n c : ℕ) → length (to_digits n c) ≡ n
digits_length zero c = refl
digits_length (suc n) c = ap suc (digits_length n (c / 256))

pub digit_at : (n c i : ℕ) → i < n → get_or (to_digits n c) i 0 ≡ c / 2 ^ (8 * i) % 256
digit_at zero c i h = absurd (not-suc-le-zero h)
digit_at (suc n) c zero h = ap (λ (x : ℕ). x % 256) (sym (div-one c))
digit_at (suc n) c (suc i) h =
    digit_at n (c / 256) i (le_of_suc-le-suc h) ∙ ap (λ (x : ℕ). x % 256) (shr-shr c 8 (8 * i) ∙ ap (λ (k : ℕ). c / 2 ^ k) (omega arith))

-- the n lowest digits of c make c without its higher ones
pub digits_number : (n c : ℕ) → from_digits (to_digits n c) ≡ c % 2 ^ (8 * n)
digits_number zero c = sym (mod-one c)
digits_number (suc n) c =
    ap (λ (x : ℕ). x * 256 + c % 256) (digits_number n (c / 256)) ∙ sym (mod-pow-add c (8 * n) 8) ∙ ap (λ (k : ℕ). c % 2 ^ k) (omega arith)

-- what is written is read
pub read_written : (o : Order) (n c : ℕ) → container o (contained o n c) ≡ c % 2 ^ (8 * n)
read_written o n c = ap from_digits (arranged_twice o (to_digits n c)) ∙ digits_number n c

pub contained_length : (o : Order) (n c : ℕ) → length (contained o n c) ≡ n
contained_length o n c = arranged_length o (to_digits n c) ∙ digits_length n c

pub index_lt : (o : Order) (n k : ℕ) → k < n → index_of o n k < n
index_lt LE n k h = h
index_lt BE n k h = omega arith

pub byte_at : (o : Order) (n c i : ℕ) → i < n → get_or (contained o n c) i 0 ≡ c / 2 ^ (8 * index_of o n i) % 256
byte_at o n c i h = arranged_at o (to_digits n c) n i (digits_length n c) h ∙ digit_at n c (index_of o n i) (index_lt o n i h)

-- a turn of the loop that writes: one byte more
pub put_step : (d₀ d d₁ : List ℕ) (at n : ℕ) (o : Order) (c i : ℕ) → at + n ≤ length d₀ → i < n → d ≡ paste d₀ at (contained o n c) i
    → d₁ ≡ set d (at + i) (get_or (contained o n c) i 0) → d₁ ≡ paste d₀ at (contained o n c) (i + 1)
put_step d₀ d d₁ at n o c i fits h e f =
    f ∙ ap (λ (l : List ℕ). set l (at + i) (get_or (contained o n c) i 0)) e
    ∙ paste-suc d₀ at (contained o n c) i 0 (omega arith) (rw (contained_length o n c) h)
    ∙ ap (λ (m : ℕ). paste d₀ at (contained o n c) m) (sym (add-one i))

-- ---- reading, from the highest digit down: c holds the digits from k on
module _ (s : List ℕ) (at n : ℕ) (o : Order) (fits : at + n ≤ length s) where
  pub part_length : length (arranged o (take n (drop at s))) ≡ n
  part_length = arranged_length o (take n (drop at s)) ∙ length-take-le n (drop at s) (simp length-drop (omega arith))

  pub part_at : (k : ℕ) → k < n → get_or (arranged o (take n (drop at s))) k 0 ≡ get_or s (at + index_of o n k) 0
  part_at k h =
      arranged_at o (take n (drop at s)) n k (length-take-le n (drop at s) (simp length-drop (omega arith))) h
      ∙ get_or-take n (drop at s) (index_of o n k) 0 (index_lt o n k h) ∙ get_or-drop at s (index_of o n k) 0

  pub load_none : 0 ≡ from_digits (drop n (arranged o (take n (drop at s))))
  load_none = sym (ap from_digits (drop_of_length-le (arranged o (take n (drop at s))) (le_of_eq part_length)))

  pub load_step : (k c i : ℕ) → 0 < k → k ≤ n → c ≡ from_digits (drop k (arranged o (take n (drop at s)))) → i ≡ index_of o n (k - 1)
      → c * 256 + get_or s (at + i) 0 ≡ from_digits (drop (k - 1) (arranged o (take n (drop at s))))
  load_step k c i h l ec ei =
      let e : k ≡ suc (k - 1) = omega arith in
      ap₂ (λ (x y : ℕ). x * 256 + y) (ec ∙ ap (λ (x : ℕ). from_digits (drop x (arranged o (take n (drop at s))))) e)
      (ap (λ (x : ℕ). get_or s (at + x) 0) ei ∙ sym (part_at (k - 1) (omega arith)))
      ∙ sym (ap from_digits (drop-cons (arranged o (take n (drop at s))) (k - 1) 0 (rw part_length (omega arith))))

-- one digit more needs eight bits more
pub step_lt : (n k c b : ℕ) → 0 < k → k ≤ n → c < 2 ^ (8 * (n - k)) → b < 256 → c * 256 + b < 2 ^ (8 * (n - (k - 1)))
step_lt n k c b h l hc hb =
    let e : 8 * (n - (k - 1)) ≡ 8 * (n - k) + 8 = omega arith in
    rw (e, pow-add 2 (8 * (n - k)) 8) (digits_lt hc hb)

pub step_fits : (n k c b : ℕ) → n ≤ 8 → 0 < k → k ≤ n → c < 2 ^ (8 * (n - k)) → b < 256 → c * 256 + b < 2 ^ 64
step_fits n k c b w h l hc hb = lt_of_lt_of_le (step_lt n k c b h l hc hb) (pow_mono {j = 64} (omega arith))

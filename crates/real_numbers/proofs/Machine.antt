-- The link to the kit's account of IEEE 754 (`lib.Ieee`): high half times 2^32 plus low half is the sum rounded once, and its bits are `magnitudeBits`.
-- `HasValue x false a c` says that x is the float a / c. Assumes nothing.
use mathlib.Core.Path.{◌≡◌, refl, sym, ap, ◌∙◌, subst}
use mathlib.Core.Bool.{Bool, true, false, not, true≢false}
use Prim.Native.Nat.{ℕ, zero, suc, ◌+◌, ◌-◌, ◌*◌, ◌/◌, ◌%◌, ◌^◌, ◌≤◌, ◌<◌}
use native.Mathlib.Nat.{zero-lt-suc, mod-lt, mul-le-mul, lt_of_le_of_lt, mul_comm, mul_assoc, mul-one, one-mul, mul-mul-mul_comm, mul-pos, mul-div_cancel}
use native.Mathlib.Nat.{add-mul, div-one, lt_of_lt_of_le, lt_of_not-le, not-le_of_lt, le_antisymm, mul-le-mul_right, zero-add}
use native.Mathlib.Omega.{arith}
use lib.IntN.{pos}
use lib.Dec.{T, lit<, lit≤}
use lib.Pow.{pow-add, pow_pos, pow_mono, pow-lt, shl_lt, shr_lt, split}
use lib.Ieee.{Float, nan, inf, fin, binary64, up, down, size, round, mul, add, sum, of_int, of_bits, to_bits, is_nan}
use lib.Ieee.Digits.{size-lt, size-le}
use lib.Ieee.Fits.{down_pos}
use lib.Ieee.Exact.{HasValue, round_exact}
use lib.Ieee.Back.{round_whole}
use lib.Ieee.Nearest.{closest}
use lib.Ieee.Scale.{round_same, grid, round_val}
use Rattle.reals.specs.Worth.{quanta_of}
use Rattle.reals.specs.Nearest.{magnitude_bits}
use Rattle.reals.proofs.Rounding.{rounded_closest}
use Rattle.reals.proofs.Nearly.{nearly_high, Nearly, nearly, Landed, nearly_landed}

-- ---- the product and the sum of floats that are not negative
mul_value : (x y : Float) (a b : ℕ) → HasValue x false a 1 → HasValue y false b 1 → mul binary64 x y ≡ round binary64 false (a * b) 1
unfolding mul
mul_value nan y a b v w = absurd v
mul_value (inf s) y a b v w = absurd v
mul_value (fin s m e) nan a b v w = absurd w
mul_value (fin s m e) (inf t) a b v w = absurd w
mul_value (fin true m e) (fin t n d) a b v w = absurd (true≢false v.0)
mul_value (fin false m e) (fin true n d) a b v w = absurd (true≢false w.0)
mul_value (fin false m e) (fin false n d) a b v w =
    round_same binary64 false (m * up e * (n * up d)) (down e * down d) (a * b) 1 (mul-pos (down_pos e) (down_pos d)) (zero-lt-suc 0)
    (mul-one _ ∙ rw (← mul-one (m * up e), ← mul-one (n * up d), v.1, w.1) (mul-mul-mul_comm a (down e) b (down d)))

add_value : (x y : Float) (a b : ℕ) → HasValue x false a 1 → HasValue y false b 1 → add binary64 x y ≡ round binary64 false (a + b) 1
unfolding add sum
add_value nan y a b v w = absurd v
add_value (inf s) y a b v w = absurd v
add_value (fin s m e) nan a b v w = absurd w
add_value (fin s m e) (inf t) a b v w = absurd w
add_value (fin true m e) (fin t n d) a b v w = absurd (true≢false v.0)
add_value (fin false m e) (fin true n d) a b v w = absurd (true≢false w.0)
add_value (fin false m e) (fin false n d) a b v w =
    round_same binary64 false (m * up e * down d + n * up d * down e) (down e * down d) (a + b) 1 (mul-pos (down_pos e) (down_pos d)) (zero-lt-suc 0)
    (mul-one _ ∙ rw (← mul-one (m * up e), ← mul-one (n * up d), v.1, w.1)
    (sym (add-mul a b (down e * down d) ∙ simp (mul_assoc, mul_comm))))

-- 2^32 as a double: by the bits that the literal 4294967296.0 has
abbrev high_double : Float
high_double = of_bits binary64 4751297606875873280

high_value : HasValue high_double false (2 ^ 32) 1
unfolding of_bits
high_value = (refl, refl)

-- "each exact as f64": a half, and the high half times 2^32
half_value : (h : ℕ) → h < 2 ^ 32 → HasValue (of_int binary64 (pos h)) false h 1
unfolding of_int
half_value h l = round_whole binary64 false h (omega arith)

product_value : (h : ℕ) → h < 2 ^ 32 → HasValue (round binary64 false (h * 2 ^ 32) 1) false (h * 2 ^ 32) 1
product_value h l =
    round_exact binary64 false (h * 2 ^ 32) 1 h 1106 (zero-lt-suc 0) (lt_of_lt_of_le l (pow_mono {i = 32} {j = 53} (lit≤ tt)))
    (lt_of_lt_of_le (shl_lt 32 1106 l) (pow_mono {i = 1138} {j = 2098} (lit≤ tt))) (mul_assoc h (2 ^ 32) (2 ^ 1074) ∙ sym (mul-one _))

-- "one rounding at the sum"
pub halves : (h l : ℕ) → h < 2 ^ 32 → l < 2 ^ 32
    → add binary64 (mul binary64 (of_int binary64 (pos h)) high_double) (of_int binary64 (pos l)) ≡ round binary64 false (h * 2 ^ 32 + l) 1
halves h l p q =
    ap (λ (x : Float). add binary64 x (of_int binary64 (pos l))) (mul_value (of_int binary64 (pos h)) high_double h (2 ^ 32) (half_value h p) high_value)
    ∙ add_value (round binary64 false (h * 2 ^ 32) 1) (of_int binary64 (pos l)) (h * 2 ^ 32) l (product_value h p) (half_value l q)

-- ---- the bits of a float of so many quanta
size_is : (m j : ℕ) → 2 ^ j ≤ m → m < 2 ^ suc j → size m ≡ suc j
size_is m j l h = le_antisymm (size-le m (suc j) h) (lt_of_not-le (λ (g : size m ≤ j). not-le_of_lt (lt_of_lt_of_le (size-lt m) (pow_mono g)) l))

abbrev pattern : ℕ → ℕ
pattern m = (size m - 53) * 2 ^ 52 + m / 2 ^ (size m - 53)

bits_value : (x : Float) (m : ℕ) → HasValue x false m (2 ^ 1074) → to_bits binary64 x ≡ pattern m
unfolding to_bits
bits_value nan m v = absurd v
bits_value (inf s) m v = absurd v
bits_value (fin true n e) m v = absurd (true≢false v.0)
bits_value (fin false n e) m v =
    let q : n * up e * 2 ^ 1074 / down e ≡ m = ap (λ (z : ℕ). z / down e) v.1 ∙ mul-div_cancel m (down_pos e) in
    ap (λ (z : ℕ). 0 + (size z - 53) * 2 ^ 52 + z / 2 ^ (size z - 53)) q
    ∙ ap (λ (z : ℕ). z + m / 2 ^ (size m - 53)) (zero-add ((size m - 53) * 2 ^ 52))

quantaOf_pattern : (x t : ℕ) → t < 2 ^ 52 → pattern (quanta_of x t) ≡ x * 2 ^ 52 + t
quantaOf_pattern zero t h =
    let l : size t ≤ 52 = size-le t 52 h in
    let e : size t - 53 ≡ 0 = omega arith in
    rw e (ap (λ (z : ℕ). 0 * 2 ^ 52 + z) (div-one t))
quantaOf_pattern (suc x) t h =
    let m = (2 ^ 52 + t) * 2 ^ x in
    let s : suc (52 + x) ≡ 53 + x = omega arith in
    let lo : 2 ^ (52 + x) ≤ m = rw (pow-add 2 52 x) (mul-le-mul_right (2 ^ x) (omega arith)) in
    let z : size m ≡ suc (52 + x) = size_is m (52 + x) lo (rw s (shl_lt {a = 2 ^ 52 + t} 53 x (omega arith))) in
    let e : size m - 53 ≡ x = omega arith in
    rw e (rw (mul-div_cancel (2 ^ 52 + t) (pow_pos x)) (omega arith))

landed_pattern : {a m : ℕ} → Landed a m → pattern m ≡ a
landed_pattern l = ap pattern (sym l.quanta) ∙ quantaOf_pattern l.x l.t l.fraction ∙ sym l.bits

-- ---- a whole number, rounded once
rounded_value : (n k y : ℕ) → Nearly n k y → HasValue (round binary64 false n 1) false (y * 2 ^ k) (2 ^ 1074)
rounded_value n k y r =
    let m = n * 2 ^ 1074 in
    let s : suc (52 + k) ≡ 53 + k = omega arith in
    let z : size m ≡ suc (52 + k) = size_is m (52 + k) (rw (pow-add 2 52 k) r.low) (rw (s, pow-add 2 53 k) r.high) in
    let d : size (m / 1) - 53 ≡ k = rw (div-one m) (omega arith) in
    let o : 1 * 2 ^ k ≡ 2 ^ k = one-mul (2 ^ k) in
    let g : grid binary64 n 1 ≡ y * 2 ^ k =
    ap (λ (j : ℕ). closest m (1 * 2 ^ j) * 2 ^ j) d ∙ ap (λ (w : ℕ). closest m w * 2 ^ k) o
    ∙ ap (λ (q : ℕ). q * 2 ^ k) (sym (rounded_closest m (2 ^ k)) ∙ r.rounded) in
    subst (λ (w : ℕ). HasValue (round binary64 false n 1) false w (2 ^ 1074)) g
    (round_val binary64 n 1
    (rw g (lt_of_le_of_lt (mul-le-mul (nearly_high r) (pow_mono {i = k} {j = 1085} r.most)) (pow-lt {i = 1138} {j = 2098} (lit< tt)))))

zero_bits : to_bits binary64 (round binary64 false 0 1) ≡ magnitude_bits 0
unfolding to_bits round magnitude_bits
zero_bits = refl

pub rounded_bits : (n : ℕ) → n < 2 ^ 64 → to_bits binary64 (round binary64 false n 1) ≡ magnitude_bits n
rounded_bits zero l = zero_bits
rounded_bits (suc n) l =
    let r = nearly (suc n) l (zero-lt-suc n) in
    bits_value _ _ (rounded_value (suc n) _ _ r) ∙ landed_pattern (nearly_landed r)

number_of_value : (x : Float) (s : Bool) (a c : ℕ) → HasValue x s a c → T (not (is_nan x))
unfolding is_nan
number_of_value nan s a c v = absurd v
number_of_value (inf t) s a c v = absurd v
number_of_value (fin t m e) s a c v = tt

zero_number : T (not (is_nan (round binary64 false 0 1)))
unfolding is_nan round
zero_number = tt

pub rounded_number : (n : ℕ) → n < 2 ^ 64 → T (not (is_nan (round binary64 false n 1)))
rounded_number zero l = zero_number
rounded_number (suc n) l = number_of_value _ false _ _ (rounded_value (suc n) _ _ (nearly (suc n) l (zero-lt-suc n)))

-- ---- a u64 by its halves
pub high_lt : (n : ℕ) → n < 2 ^ 64 → n / 2 ^ 32 < 2 ^ 32
high_lt n l = shr_lt 32 32 l

abbrev pub machine_sum : ℕ → Float
machine_sum n = add binary64 (mul binary64 (of_int binary64 (pos (n / 2 ^ 32))) high_double) (of_int binary64 (pos (n % 2 ^ 32)))

sum_is : (n : ℕ) → n < 2 ^ 64 → machine_sum n ≡ round binary64 false n 1
sum_is n l = halves (n / 2 ^ 32) (n % 2 ^ 32) (high_lt n l) (mod-lt n (pow_pos 32)) ∙ ap (λ (m : ℕ). round binary64 false m 1) (split n 32)

pub sum_number : (n : ℕ) → n < 2 ^ 64 → T (not (is_nan (machine_sum n)))
sum_number n l = rw (sum_is n l) (rounded_number n l)

pub sum_bits : (n : ℕ) → n < 2 ^ 64 → to_bits binary64 (machine_sum n) ≡ magnitude_bits n
sum_bits n l = ap (to_bits binary64) (sum_is n l) ∙ rounded_bits n l

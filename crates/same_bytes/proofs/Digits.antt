-- Bytes as a number, and the number as bytes again. Assumes nothing.
use mathlib.Core.Path.{◌≡◌, refl, sym, ap, ◌∙◌}
use mathlib.Core.List.{List, [], ◌∷◌, reverse_aux}
use Prim.Native.Nat.{ℕ, zero, suc, ◌+◌, ◌*◌, ◌/◌, ◌%◌, ◌^◌, ◌<◌}
use native.Mathlib.Omega.{arith}
use lib.ListN.{length}
use lib.Pow as Pow
use lib.Pow.{mod-mod-pow}
use Rattle.bits.specs.declared.Order.{Order}
use Rattle.bits.specs.declared.Order.TheVariants.{LE, BE}
use Rattle.bits.specs.Container.{arranged, from_digits, to_digits, container, contained}
use Rattle.bits.proofs.Digits.{arranged_length, arranged_twice}
use Rattle.bits.proofs.Eight.{Bytes}

bytes_back : (l r : List ℕ) → Bytes l → Bytes r → Bytes (reverse_aux l r)
bytes_back [] r h k = k
bytes_back (b ∷ bs) r h k = bytes_back bs (b ∷ r) h.1 (h.0, k)

bytes_arranged : (o : Order) (l : List ℕ) → Bytes l → Bytes (arranged o l)
bytes_arranged LE l h = h
bytes_arranged BE l h = bytes_back l [] h tt

digits_back : (l : List ℕ) → Bytes l → to_digits (length l) (from_digits l) ≡ l
digits_back [] h = refl
digits_back (b ∷ bs) h =
    let low : (from_digits bs * 256 + b) % 256 ≡ b = omega (arith, h.0) in
    let high : (from_digits bs * 256 + b) / 256 ≡ from_digits bs = omega (arith, h.0) in
    rw (low, high, digits_back bs h.1)

-- higher digits are not looked at
digits_low : (n c : ℕ) → to_digits n (c % 2 ^ (8 * n)) ≡ to_digits n c
digits_low zero c = refl
digits_low (suc n) c =
    let e : 8 * suc n ≡ 8 * n + 8 = omega arith in
    let low : c % 2 ^ (8 * suc n) % 256 ≡ c % 256 = rw e (mod-mod-pow c (8 * n) 8) in
    let high : c % 2 ^ (8 * suc n) / 256 ≡ c / 256 % 2 ^ (8 * n) = rw e (Pow.field c (8 * n) 8) in
    rw (low, high, digits_low n (c / 256))

-- n bytes are those of any number that ends in theirs
pub bytes_same : (o : Order) (n c : ℕ) (l : List ℕ) → Bytes l → length l ≡ n → c % 2 ^ (8 * n) ≡ container o l → contained o n c ≡ l
bytes_same o n c l h e is =
    let long : length (arranged o l) ≡ n = arranged_length o l ∙ e in
    ap (arranged o) (sym (digits_low n c) ∙ ap (to_digits n) is ∙ sym (ap (λ (k : ℕ). to_digits k (from_digits (arranged o l))) long) ∙ digits_back (arranged o l) (bytes_arranged o l h))
    ∙ arranged_twice o l

-- Bytes one by one: read by straight-line code, and written one after the other. Each law is over the order and the size. Assumes nothing.
use mathlib.Core.Path.{◌≡◌, refl, sym, ap, ◌∙◌}
use mathlib.Core.List.{List, [], ◌∷◌, ◌++◌, reverse, reverse-append}
use Prim.Native.Nat.{ℕ, zero, suc, ◌+◌, ◌*◌, ◌^◌, ◌≤◌, ◌<◌}
use native.Mathlib.Nat.{le_of_suc-le-suc, not-suc-le-zero, add_comm}
use native.Mathlib.Omega.{arith}
use lib.ListN.{length, get_or, set, take, drop, length-reverse, length-drop}
use lib.Seq.{paste, paste-zero, paste-suc, length-take-le, take-add, drop-drop, ext_get_or}
use Rattle.bits.specs.declared.Order.{Order}
use Rattle.bits.specs.declared.Order.TheVariants.{LE, BE}
use Rattle.bits.specs.Container.{arranged, from_digits, container, contained}
use Rattle.bits.specs.Index.{index_of, set_all}
use Rattle.bits.proofs.Digits.{digits_append, contained_length, part_length, part_at}

-- ---- reading

-- index k counted from at, as the code writes it
abbrev pub from : ℕ → ℕ → ℕ
from at zero = at
from at (suc k) = at + suc k

from_is : (at k : ℕ) → at + k ≡ from at k
from_is at zero = omega arith
from_is at (suc k) = refl

-- f 0 to f (n - 1)
abbrev pub listed : (ℕ → ℕ) → ℕ → List ℕ
listed f zero = []
listed f (suc n) = f 0 ∷ listed (λ (k : ℕ). f (suc k)) n

listed_length : (f : ℕ → ℕ) (n : ℕ) → length (listed f n) ≡ n
listed_length f zero = refl
listed_length f (suc n) = ap suc (listed_length (λ (k : ℕ). f (suc k)) n)

listed_at : (f : ℕ → ℕ) (n i : ℕ) → i < n → get_or (listed f n) i 0 ≡ f i
listed_at f zero i h = absurd (not-suc-le-zero h)
listed_at f (suc n) zero h = refl
listed_at f (suc n) (suc i) h = listed_at (λ (k : ℕ). f (suc k)) n i (le_of_suc-le-suc h)

-- the bytes of a place by their significance: at a literal size and order, a sum of its bytes
abbrev pub bytes_of : Order → ℕ → List ℕ → ℕ → ℕ → ℕ
bytes_of o n s at k = get_or s (from at (index_of o n k)) 0

pub by_bytes : (o : Order) (n : ℕ) (s : List ℕ) (at : ℕ) → at + n ≤ length s → container o (take n (drop at s)) ≡ from_digits (listed (bytes_of o n s at) n)
by_bytes o n s at h =
    let p = part_length s at n o h in
    let f : ℕ → ℕ = bytes_of o n s at in
    ap from_digits
    (ext_get_or 0 (arranged o (take n (drop at s))) (listed f n) (p ∙ sym (listed_length f n))
    (λ i l. let b : i < n = rw p at l in
    part_at s at n o h i b ∙ ap (λ (k : ℕ). get_or s k 0) (from_is at (index_of o n i)) ∙ sym (listed_at f n i b)))

-- the number of m bytes, a, and that of the n bytes behind them, b, as one
abbrev pub joined : Order → ℕ → ℕ → ℕ → ℕ → ℕ
joined LE m n a b = a + b * 2 ^ (8 * m)
joined BE m n a b = a * 2 ^ (8 * n) + b

pub two_parts : (o : Order) (s : List ℕ) (at m n : ℕ) → at + (m + n) ≤ length s
    → container o (take (m + n) (drop at s)) ≡ joined o m n (container o (take m (drop at s))) (container o (take n (drop (at + m) s)))
two_parts o s at m n h = ap (container o) (take-add m n (drop at s) ∙ ap (λ (l : List ℕ). take m (drop at s) ++ take n l) (drop-drop m at s)) ∙ parts o
  where
    a : List ℕ
    a = take m (drop at s)

    b : List ℕ
    b = take n (drop (at + m) s)

    ea : length a ≡ m
    ea = length-take-le m (drop at s) (simp length-drop (omega arith))

    eb : length b ≡ n
    eb = length-take-le n (drop (at + m) s) (simp length-drop (omega arith))

    parts : (o : Order) → container o (a ++ b) ≡ joined o m n (container o a) (container o b)
    parts LE = digits_append a b ∙ add_comm _ _ ∙ ap (λ (k : ℕ). from_digits a + from_digits b * 2 ^ (8 * k)) ea
    parts BE =
        ap from_digits (reverse-append a b) ∙ digits_append (reverse b) (reverse a)
        ∙ ap (λ (k : ℕ). from_digits (reverse a) * 2 ^ (8 * k) + from_digits (reverse b)) (length-reverse b ∙ eb)

-- ---- writing

-- m elements written from i on, and then n more
pub set_on : (d d₁ d₂ : List ℕ) (at : ℕ) (l : List ℕ) (i m n : ℕ) → d₁ ≡ set_all d at l i m → d₂ ≡ set_all d₁ at l (i + m) n → d₂ ≡ set_all d at l i (m + n)
set_on d d₁ d₂ at l i m n e f = f ∙ ap (λ (x : List ℕ). set_all x at l (i + m) n) e ∙ both d i m
  where
    both : (d : List ℕ) (i m : ℕ) → set_all (set_all d at l i m) at l (i + m) n ≡ set_all d at l i (m + n)
    both d i zero =
        let p : i + 0 ≡ i = omega arith in
        let q : 0 + n ≡ n = omega arith in
        rw (p, q)
    both d i (suc m) =
        let p : i + suc m ≡ suc i + m = omega arith in
        let q : suc m + n ≡ suc (m + n) = omega arith in
        rw (p, q) (both (set d (at + i) (get_or l i 0)) (suc i) m)

set_all_lem : (d : List ℕ) (at : ℕ) (l : List ℕ) (k n : ℕ) → k + n ≤ length l → at + length l ≤ length d → set_all (paste d at l k) at l k n ≡ paste d at l (k + n)
set_all_lem d at l k zero hl hd =
    let e : k ≡ k + 0 = omega arith in
    ap (paste d at l) e
set_all_lem d at l k (suc n) hl hd =
    let e : suc k + n ≡ k + suc n = omega arith in
    ap (λ (x : List ℕ). set_all x at l (suc k) n) (paste-suc d at l k 0 (omega arith) (omega arith))
    ∙ set_all_lem d at l (suc k) n (omega arith) hd ∙ ap (paste d at l) e

pub put_all : (d d₁ : List ℕ) (at : ℕ) (o : Order) (n c : ℕ) → at + n ≤ length d → d₁ ≡ set_all d at (contained o n c) 0 n → d₁ ≡ paste d at (contained o n c) n
put_all d d₁ at o n c h f =
    let e : 0 + n ≡ n = omega arith in
    f ∙ ap (λ (x : List ℕ). set_all x at (contained o n c) 0 n) (paste-zero d at (contained o n c))
    ∙ set_all_lem d at (contained o n c) 0 n (rw (contained_length o n c) (omega arith)) (rw (contained_length o n c) h)
    ∙ ap (paste d at (contained o n c)) e

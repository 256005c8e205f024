-- A part of eight bytes, read with all eight. Assumes nothing.
use mathlib.Core.Path.{◌≡◌, sym, ap, ◌∙◌}
use mathlib.Core.List.{List, [], ◌∷◌, reverse, reverse_aux, reverse-append}
use Prim.Native.Nat.{ℕ, zero, suc, ◌+◌, ◌-◌, ◌*◌, ◌/◌, ◌%◌, ◌^◌, ◌≤◌, ◌<◌}
use native.Mathlib.Omega.{arith}
use lib.ListN.{length, get_or, take, drop, take-append-drop, length-reverse, length-drop}
use lib.Seq.{length-take-le, take-take}
use lib.Arith.{digits_lt}
use lib.Pow as Pow
use lib.Pow.{pow-add, high, low, shr-shr, mod-mod-pow}
use Rattle.bits.specs.declared.Order.{Order}
use Rattle.bits.specs.declared.Order.TheVariants.{LE, BE}
use Rattle.bits.specs.Container.{from_digits, container, field}
use Rattle.bits.proofs.Digits.{digits_append}

-- every element is below 256
abbrev pub Bytes : List ℕ → Type 0
Bytes [] = Unit {0}
Bytes (b ∷ bs) = (b < 256) × Bytes bs

pub bytes_of : (l : List ℕ) → ((i : ℕ) → get_or l i 0 < 256) → Bytes l
bytes_of [] h = tt
bytes_of (b ∷ bs) h = (h 0, bytes_of bs (λ i. h (suc i)))

pub bytes_take : (n : ℕ) (l : List ℕ) → Bytes l → Bytes (take n l)
bytes_take zero l h = tt
bytes_take (suc n) [] h = tt
bytes_take (suc n) (b ∷ bs) h = (h.0, bytes_take n bs h.1)

pub bytes_drop : (n : ℕ) (l : List ℕ) → Bytes l → Bytes (drop n l)
bytes_drop zero l h = h
bytes_drop (suc n) [] h = tt
bytes_drop (suc n) (b ∷ bs) h = bytes_drop n bs h.1

bytes_back : (l r : List ℕ) → Bytes l → Bytes r → Bytes (reverse_aux l r)
bytes_back [] r h k = k
bytes_back (b ∷ bs) r h k = bytes_back bs (b ∷ r) h.1 (h.0, k)

digits_bound : (l : List ℕ) → Bytes l → from_digits l < 2 ^ (8 * length l)
digits_bound [] h = omega arith
digits_bound (b ∷ bs) h =
    let e : 8 * suc (length bs) ≡ 8 * length bs + 8 = omega arith in
    rw (e, pow-add 2 (8 * length bs) 8) (digits_lt (digits_bound bs h.1) h.0)

-- of a list of bytes: a part from the start, lowest first, and highest first
take_low : (l : List ℕ) (n : ℕ) → n ≤ length l → Bytes l → from_digits (take n l) ≡ from_digits l % 2 ^ (8 * n)
take_low l n h hb =
    let e : length (take n l) ≡ n = length-take-le n l h in
    let d : from_digits l ≡ from_digits (drop n l) * 2 ^ (8 * n) + from_digits (take n l) =
    ap from_digits (sym (take-append-drop n l)) ∙ digits_append (take n l) (drop n l) ∙ ap (λ (k : ℕ). from_digits (drop n l) * 2 ^ (8 * k) + from_digits (take n l)) e in
    let b : from_digits (take n l) < 2 ^ (8 * n) = rw e at (digits_bound (take n l) (bytes_take n l hb)) in
    sym (ap (λ (x : ℕ). x % 2 ^ (8 * n)) d ∙ low (from_digits (drop n l)) (8 * n) b)

take_high : (l : List ℕ) (n : ℕ) → Bytes l → from_digits (reverse (take n l)) ≡ from_digits (reverse l) / 2 ^ (8 * (length l - n))
take_high l n hb =
    let r : List ℕ = reverse (drop n l) in
    let e : length r ≡ length l - n = length-reverse (drop n l) ∙ length-drop n l in
    let d : from_digits (reverse l) ≡ from_digits (reverse (take n l)) * 2 ^ (8 * length r) + from_digits r =
    ap (λ (x : List ℕ). from_digits (reverse x)) (sym (take-append-drop n l)) ∙ ap from_digits (reverse-append (take n l) (drop n l)) ∙ digits_append r (reverse (take n l)) in
    let b : from_digits r < 2 ^ (8 * length r) = digits_bound r (bytes_back (drop n l) [] (bytes_drop n l hb) tt) in
    rw (← e) (sym (ap (λ (x : ℕ). x / 2 ^ (8 * length r)) d ∙ high (from_digits (reverse (take n l))) (8 * length r) b))

module _ (s : List ℕ) (at n o p : ℕ) (room : at + 8 ≤ length s) (sized : n ≤ 8) (inside : o + p ≤ 8 * n) (hb : Bytes s) where
  eight : length (take 8 (drop at s)) ≡ 8
  eight = length-take-le 8 (drop at s) (simp length-drop (omega arith))

  part : take n (take 8 (drop at s)) ≡ take n (drop at s)
  part = take-take n 8 (drop at s) sized

  pub le_window : from_digits (take 8 (drop at s)) / 2 ^ o % 2 ^ p ≡ from_digits (take n (drop at s)) / 2 ^ o % 2 ^ p
  le_window =
      let x : ℕ = from_digits (take 8 (drop at s)) in
      let e : 8 * n ≡ (8 * n - o - p + p) + o = omega arith in
      let q : from_digits (take n (drop at s)) ≡ x % 2 ^ (8 * n) = ap from_digits (sym part) ∙ take_low (take 8 (drop at s)) n (rw eight sized) (bytes_take 8 (drop at s) (bytes_drop at s hb)) in
      let f : x % 2 ^ (8 * n) / 2 ^ o ≡ x / 2 ^ o % 2 ^ (8 * n - o - p + p) = ap (λ (k : ℕ). x % 2 ^ k / 2 ^ o) e ∙ Pow.field x (8 * n - o - p + p) o in
      sym (ap (λ (y : ℕ). y / 2 ^ o % 2 ^ p) q ∙ ap (λ (y : ℕ). y % 2 ^ p) f ∙ mod-mod-pow (x / 2 ^ o) (8 * n - o - p) p)

  pub be_window : from_digits (reverse (take 8 (drop at s))) / 2 ^ (64 - 8 * n + o) % 2 ^ p ≡ from_digits (reverse (take n (drop at s))) / 2 ^ o % 2 ^ p
  be_window =
      let y : ℕ = from_digits (reverse (take 8 (drop at s))) in
      let e : 8 * (8 - n) + o ≡ 64 - 8 * n + o = omega arith in
      let q : from_digits (reverse (take n (drop at s))) ≡ y / 2 ^ (8 * (8 - n)) =
      ap (λ (l : List ℕ). from_digits (reverse l)) (sym part) ∙ take_high (take 8 (drop at s)) n (bytes_take 8 (drop at s) (bytes_drop at s hb)) ∙ ap (λ (k : ℕ). y / 2 ^ (8 * (k - n))) eight in
      sym (ap (λ (z : ℕ). z / 2 ^ o % 2 ^ p) q ∙ ap (λ (z : ℕ). z % 2 ^ p) (shr-shr y (8 * (8 - n)) o) ∙ ap (λ (k : ℕ). y / 2 ^ k % 2 ^ p) e)

  -- the field's place in the eight bytes, in each order
  abbrev pub within : Order → ℕ
  within LE = o
  within BE = 8 * (8 - n) + o

  pub windowed : (b : Order) (r : ℕ) → (r ≡ field (within b) p (container b (take 8 (drop at s)))) × (r < 2 ^ p)
      → (r ≡ field o p (container b (take n (drop at s)))) × (r < 2 ^ p)
  windowed LE r h = (h.0 ∙ le_window, h.1)
  windowed BE r h =
      let e : 8 * (8 - n) + o ≡ 64 - 8 * n + o = omega arith in
      (h.0 ∙ ap (λ (k : ℕ). field k p (container BE (take 8 (drop at s)))) e ∙ be_window, h.1)

pub container_bound : (o : Order) (l : List ℕ) (n : ℕ) → length l ≡ n → Bytes l → container o l < 2 ^ (8 * n)
container_bound LE l n e h = rw e at (digits_bound l h)
container_bound BE l n e h = rw (length-reverse l ∙ e) at (digits_bound (reverse l) (bytes_back l [] h tt))

pub place_bound : (o : Order) (s : List ℕ) (at n : ℕ) → at + n ≤ length s → Bytes s → container o (take n (drop at s)) < 2 ^ (8 * n)
place_bound o s at n h hb =
    container_bound o (take n (drop at s)) n (length-take-le n (drop at s) (simp length-drop (omega arith))) (bytes_take n (drop at s) (bytes_drop at s hb))

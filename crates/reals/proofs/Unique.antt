-- "The nearest double, ties to even" is one double: whatever `IsNearest` says of z is `nearest z`. So a reader may believe `IsNearest` alone. Assumes nothing.
use mathlib.Core.Path.{◌≡◌, refl, sym, ap, ◌∙◌, subst}
use mathlib.Core.Logic.{◌⊎◌, inl, inr, ⊎_elim}
use mathlib.Core.Bool.{Bool, true, false}
use Prim.Native.Nat.{ℕ, zero, suc, ◌+◌, ◌-◌, ◌*◌, ◌/◌, ◌%◌, ◌^◌, ◌≤◌, ◌<◌}
use native.Mathlib.Nat.{zero-lt-suc, zero-mul, le_refl, le_trans, le_antisymm, lt_irrefl, mul-le-mul_right, mul-lt-mul_of_pos_right, suc-mul, div-add-mod'}
use native.Mathlib.Nat.{mod-lt, le-div_iff_mul-le, div-lt_iff_lt-mul, eq_of_mul-eq-mul_right, mul-le-mul}
use native.Mathlib.Omega.{arith}
use lib.IntN.{ℤ, pos, negsuc}
use lib.Pow.{pow_pos}
use Rattle.reals.specs.Worth.{quanta_per_one, quanta_of, Worth, worth}
use Rattle.reals.specs.Worth.Worth.{finite}
use Rattle.reals.specs.Nearest.{nearest}
use Rattle.reals.specs.Compare.{below0, magnitude}
use Rattle.reals.specs.Nearness.{distance, IsNearest}
use Rattle.reals.proofs.Rounding.{gap, over_or_within, Rounds, rounds_near, rounds_other, own_down, own_up, lower, higher}
use Rattle.reals.proofs.Fields.{assembled, Apart, apart_of}
use Rattle.reals.proofs.Fields.Apart.{fin}
use Rattle.reals.proofs.Nearly.{Nearly, nearly, nearly_landed, zero_landed, landed_worth, one_power}
use Rattle.reals.proofs.Nearness.{beside_any, own, nearest_is, nearest_lt}

-- ---- one exponent and one fraction for so many quanta
small_large : (t x u : ℕ) → t < 2 ^ 52 → t ≡ (2 ^ 52 + u) * 2 ^ x → ⊥
small_large t x u h e =
    let p : 1 ≤ 2 ^ x = pow_pos x in
    let l : (2 ^ 52 + u) * 1 ≤ (2 ^ 52 + u) * 2 ^ x = mul-le-mul {n₁ = 2 ^ 52 + u} {m₁ = 1} (le_refl (2 ^ 52 + u)) p in
    omega arith

same_power : (g f x y : ℕ) → 2 ^ 52 ≤ g → g < 2 ^ 53 → 2 ^ 52 ≤ f → f < 2 ^ 53 → g * 2 ^ x ≡ f * 2 ^ y → (x ≡ y) × (g ≡ f)
same_power g f x y a b c d e =
    let s : x ≡ y = one_power g x y a b (rw e (mul-le-mul_right (2 ^ y) c)) (rw e (mul-lt-mul_of_pos_right d (pow_pos y))) in
    (s, eq_of_mul-eq-mul_right (2 ^ y) (pow_pos y) g f (ap (λ (k : ℕ). g * 2 ^ k) (sym s) ∙ e))

one_form : (x t y u : ℕ) → t < 2 ^ 52 → u < 2 ^ 52 → quanta_of x t ≡ quanta_of y u → (x ≡ y) × (t ≡ u)
one_form zero t zero u h l e = (refl, e)
one_form zero t (suc y) u h l e = absurd (small_large t y u h e)
one_form (suc x) t zero u h l e = absurd (small_large u x t l (sym e))
one_form (suc x) t (suc y) u h l e =
    let s = same_power (2 ^ 52 + t) (2 ^ 52 + u) x y (omega arith) (omega arith) (omega arith) (omega arith) e in
    (ap suc s.0, omega (arith, s.1))

-- two finite patterns of one worth are one pattern
patterns : {b c : ℕ} {s r : Bool} {m n : ℕ} → Apart b (finite s m) → Apart c (finite r n) → r ≡ s → n ≡ m → b ≡ c
patterns {s = s} {r = r} (fin {x = x} {t = t} p q i) (fin {x = y} {t = u} o v j) g k =
    let d = one_form x t y u q v (sym k) in
    i ∙ ap (λ (z : ℕ). assembled s z t) d.0 ∙ ap (λ (z : ℕ). assembled s y z) d.1 ∙ ap (λ (z : Bool). assembled z y u) (sym g) ∙ sym j

finite_parts : (b : ℕ) (s : Bool) (m : ℕ) → b < 2 ^ 64 → worth b ≡ finite s m → Apart b (finite s m)
finite_parts b s m l e = subst (λ (w : Worth). Apart b w) e (apart_of b l)

one_pattern : (b c : ℕ) (s : Bool) (m n : ℕ) → b < 2 ^ 64 → c < 2 ^ 64 → worth b ≡ finite s m → worth c ≡ finite s n → n ≡ m → b ≡ c
one_pattern b c s m n h l e f g = patterns (finite_parts b s m h e) (finite_parts c s n l f) refl g

-- ---- at a tie the other multiple is odd, and beside a
sub_zero : (x y r : ℕ) → x - y + r ≡ r → y ≤ x → x ≡ y
sub_zero x y r e h = omega arith

half_left : (x d r : ℕ) → x + (d - r) ≡ r → r * 2 ≡ d → x ≡ 0
half_left x d r e h = omega arith

up_half : (d r : ℕ) → r * 2 ≡ d → d - r ≡ r
up_half d r h = omega arith

tie_gap : (a d q r : ℕ) → q * d + r ≡ a → r < d → r * 2 ≡ d → gap ((q + q % 2) * d) a ≡ r
tie_gap a d q r s m h =
    ⊎_elim (λ (l : q % 2 < 1). rw (even q l) (own_down a d q r s)) (λ (l : 1 ≤ q % 2). rw (odd q l) (own_up a d q r s m ∙ up_half d r h))
    (over_or_within (q % 2) 1)
  where
    even : (q : ℕ) → q % 2 < 1 → q + q % 2 ≡ q
    even q l = omega arith

    odd : (q : ℕ) → 1 ≤ q % 2 → q + q % 2 ≡ suc q
    odd q l =
        let u : q % 2 < 2 = mod-lt q (zero-lt-suc 1) in
        omega arith

-- the other multiple is q or q + 1
beside_tie : (a d q r j : ℕ) → 0 < d → q * d + r ≡ a → r < d → r * 2 ≡ d → gap (j * d) a ≡ r → (j ≡ q) ⊎ (j ≡ suc q)
beside_tie a d q r j p s m h e = ⊎_elim (λ l. inr (above l)) (λ l. inl (below l)) (over_or_within q j)
  where
    above : q < j → j ≡ suc q
    above l =
        let z : j * d - (q * d + d) ≡ 0 = half_left (j * d - (q * d + d)) d r (sym (higher a d q r j s m l) ∙ e) h in
        let u : suc q * d ≡ q * d + d = suc-mul q d in
        let w : suc q * d ≤ j * d = mul-le-mul_right d l in
        let v : j * d ≡ suc q * d = omega arith in
        eq_of_mul-eq-mul_right d p j (suc q) v

    below : j ≤ q → j ≡ q
    below l = eq_of_mul-eq-mul_right d p j q (sym (sub_zero (q * d) (j * d) r (sym (lower a d q r j s m l) ∙ e) (mul-le-mul_right d l)))

odd_of : (q j : ℕ) → (j ≡ q) ⊎ (j ≡ suc q) → (j ≡ q + q % 2 → ⊥) → (j % 2 ≡ 1) × (q ≤ j) × (j ≤ suc q)
odd_of q j (inl e) n =
    let l : 1 ≤ q % 2 = ⊎_elim (λ (h : q % 2 < 1). absurd (n (omega arith))) (λ h. h) (over_or_within (q % 2) 1) in
    let u : q % 2 < 2 = mod-lt q (zero-lt-suc 1) in
    (omega arith, omega arith, omega arith)
odd_of q j (inr e) n =
    let l : q % 2 < 1 = ⊎_elim (λ h. h) (λ (h : 1 ≤ q % 2). absurd (n (odd h))) (over_or_within (q % 2) 1) in
    (omega arith, omega arith, omega arith)
  where
    odd : 1 ≤ q % 2 → j ≡ q + q % 2
    odd h =
        let u : q % 2 < 2 = mod-lt q (zero-lt-suc 1) in
        omega arith

other_odd : (a d y j : ℕ) → 0 < d → Rounds a d y → gap (j * d) a ≡ gap (y * d) a → (j ≡ y → ⊥) → (j % 2 ≡ 1) × (a / d ≤ j) × (j ≤ suc (a / d))
other_odd a d y j p r e n =
    let o = rounds_other a d y j p r e n in
    let s : a / d * d + a % d ≡ a = div-add-mod' a d in
    let m : a % d < d = mod-lt a p in
    let g : gap (j * d) a ≡ a % d = e ∙ ap (λ (x : ℕ). gap (x * d) a) o.1 ∙ tie_gap a d (a / d) (a % d) s m o.0 in
    odd_of (a / d) j (beside_tie a d (a / d) (a % d) j p s m o.0 g) (λ (i : j ≡ a / d + a / d % 2). n (i ∙ sym o.1))

-- ---- the theorem
odd_bits : (s : Bool) (k t : ℕ) → t % 2 ≡ 1 → assembled s k t % 2 ≡ 0 → ⊥
odd_bits false k t h e = omega arith
odd_bits true k t h e = omega arith

-- bits of j × 2^k quanta, for an odd j from 2^52 to 2^53, are odd
odd_pattern : {b : ℕ} {s : Bool} {m : ℕ} (k j : ℕ) → Apart b (finite s m) → m ≡ j * 2 ^ k → 2 ^ 52 ≤ j → j ≤ 2 ^ 53 → j % 2 ≡ 1 → b % 2 ≡ 0 → ⊥
odd_pattern {s = s} k j (fin {x = x} {t = t} p q i) e l h o b =
    let f : 2 ^ 52 + (j - 2 ^ 52) ≡ j = omega arith in
    let d = one_form x t (suc k) (j - 2 ^ 52) q (omega arith) (e ∙ sym (ap (λ (g : ℕ). g * 2 ^ k) f)) in
    odd_bits s x t (rw d.1 (omega arith)) (rw i at b)

module _ (z : ℤ) (b : ℕ) (l : b < 2 ^ 64) (i : IsNearest z b) (k y : ℕ) (r : Nearly (magnitude z) k y) (small : magnitude z < 2 ^ 64) where
  abbrev n : ℕ
  n = magnitude z * quanta_per_one

  own_worth : worth (nearest z) ≡ finite (below0 z) (y * 2 ^ k)
  own_worth = ap worth (nearest_is z) ∙ landed_worth (nearly_landed r) (below0 z)

  bound : nearest z < 2 ^ 64
  bound = nearest_lt z small

  equal : gap i.quanta n ≡ gap (y * 2 ^ k) n
  equal =
      sym (own (below0 z) i.quanta n)
      ∙ le_antisymm (i.none_nearer (nearest z) (below0 z) (y * 2 ^ k) bound own_worth) (c' b (below0 z) i.quanta l i.is)
      ∙ own (below0 z) (y * 2 ^ k) n
    where
      c' : (c : ℕ) (s : Bool) (m : ℕ) → c < 2 ^ 64 → worth c ≡ finite s m → distance (below0 z) (y * 2 ^ k) z ≤ distance s m z
      c' c s m l e =
          let o = beside_any z k y r c s m l e in
          rw (own (below0 z) (y * 2 ^ k) n) (le_trans (rounds_near n (2 ^ k) y o.j (pow_pos k) r.rounds) o.near)

  tied : (i.quanta ≡ y * 2 ^ k → ⊥) → ⊥
  tied differ =
      let o = beside_any z k y r b (below0 z) i.quanta l i.is in
      let d : distance (below0 z) i.quanta z ≡ gap (y * 2 ^ k) n = own (below0 z) i.quanta n ∙ equal in
      let g : gap (o.j * 2 ^ k) n ≡ gap (y * 2 ^ k) n = le_antisymm (rw d at o.near) (rounds_near n (2 ^ k) y o.j (pow_pos k) r.rounds) in
      let w : i.quanta ≡ o.j * 2 ^ k = o.same (g ∙ sym d) in
      let q = other_odd n (2 ^ k) y o.j (pow_pos k) r.rounds g (λ (e : o.j ≡ y). differ (w ∙ ap (λ (v : ℕ). v * 2 ^ k) e)) in
      let lo : 2 ^ 52 ≤ n / 2 ^ k = (le-div_iff_mul-le (pow_pos k)).1 r.low in
      let hi : n / 2 ^ k < 2 ^ 53 = (div-lt_iff_lt-mul (pow_pos k)).1 r.high in
      let ev : b % 2 ≡ 0 =
      i.even_at_a_tie (nearest z) (below0 z) (y * 2 ^ k) bound own_worth
      (own (below0 z) (y * 2 ^ k) n ∙ sym equal ∙ sym (own (below0 z) i.quanta n)) (λ e. differ (sym e)) in
      odd_pattern k o.j (finite_parts b (below0 z) i.quanta l i.is) w (le_trans lo q.1) (le_trans q.2 hi) q.0 ev

  some_unique : b ≡ nearest z
  some_unique =
      ⊎_elim (λ (h : i.quanta < y * 2 ^ k). absurd (tied (λ e. lt_irrefl (y * 2 ^ k) (subst (λ (x : ℕ). x < y * 2 ^ k) e h))))
      (λ (h : y * 2 ^ k ≤ i.quanta).
      ⊎_elim (λ (o : y * 2 ^ k < i.quanta). absurd (tied (λ e. lt_irrefl (y * 2 ^ k) (subst (λ (x : ℕ). y * 2 ^ k < x) e o))))
      (λ (o : i.quanta ≤ y * 2 ^ k). one_pattern b (nearest z) (below0 z) i.quanta (y * 2 ^ k) l bound i.is own_worth (le_antisymm h o))
      (over_or_within (y * 2 ^ k) i.quanta))
      (over_or_within i.quanta (y * 2 ^ k))

zero_unique : (b : ℕ) → b < 2 ^ 64 → IsNearest (pos 0) b → b ≡ nearest (pos 0)
zero_unique b l i =
    let w : worth (nearest (pos 0)) ≡ finite false 0 = ap worth (nearest_is (pos 0)) ∙ landed_worth zero_landed false in
    let h = nearest_lt (pos 0) (pow_pos 64) in
    one_pattern b (nearest (pos 0)) false i.quanta 0 l h i.is w
    (zero_gap i.quanta (0 * quanta_per_one) (zero-mul quanta_per_one) (i.none_nearer (nearest (pos 0)) false 0 h w))
  where
    zero_gap : (m u : ℕ) → u ≡ 0 → (m - u) + (u - m) ≤ (0 - u) + (u - 0) → 0 ≡ m
    zero_gap m u z e = omega arith

-- the nearest double is one
pub unique : (z : ℤ) (b : ℕ) → magnitude z < 2 ^ 64 → b < 2 ^ 64 → IsNearest z b → b ≡ nearest z
unique (pos zero) b s l i = zero_unique b l i
unique (pos (suc n)) b s l i = some_unique (pos (suc n)) b l i _ _ (nearly (suc n) s (zero-lt-suc n)) s
unique (negsuc n) b s l i = some_unique (negsuc n) b l i _ _ (nearly (suc n) s (zero-lt-suc n)) s

-- Reading back what was written gives the number, where it fitted. Laws of the definitions alone. Assumes nothing.
use mathlib.Core.Path.{◌≡◌, sym, ap, ◌∙◌}
use mathlib.Core.Logic.{◌⊎◌, inl, inr, ⊎_elim}
use mathlib.Core.Bool.{Bool, true, false}
use mathlib.Core.List.{List, [], ◌∷◌, ◌++◌, append_assoc}
use Prim.Native.Nat.{ℕ, zero, suc, ◌+◌, ◌-◌, ◌*◌, ◌/◌, ◌%◌, ◌^◌, ◌≤◌, ◌<◌}
use native.Mathlib.Nat.{le_of_eq, lt_of_not-le, mod-lt, add_comm}
use native.Mathlib.Decide.{dec_le}
use native.Mathlib.Omega.{arith}
use lib.IntN.{ℤ, pos, negsuc}
use lib.ListN.{length, take, drop}
use lib.Seq.{paste, take-nil, take-take, drop-drop, drop_at, take_at, take_all, length-take-le, length-paste, drop-paste}
use lib.Pow as Pow
use lib.Pow.{pow_pos, ones_lt, mod-mod-pow, low, high}
use Rattle.layout.specs.declared.Layout.{Layout}
use Rattle.number.specs.declared.Fitted.{Fitted}
use Rattle.layout.specs.declared.Pad.{Pad}
use Rattle.layout.specs.declared.Pad.TheVariants.{Zero, One, Keep}
use Rattle.layout.specs.Layout.{Valid}
use Rattle.bits.specs.Container.{container, contained, field}
use Rattle.number.specs.Place.{padded, filled, place, raw_at, stored}
use Rattle.number.specs.Number.{valued, number_at, number_given, fitted_to, fitted}
use Rattle.bits.proofs.Digits.{read_written, contained_length}
use Rattle.number.proofs.Fields.{cat_lt}
use Rattle.number.proofs.Range.{twice_half, valued_low, valued_high, unsigned_above, unsigned_inside, signed_above, signed_inside, signed_below, signed_negative}

padded_lt : (d : Pad) (w g : ℕ) → padded d w (g % 2 ^ w) < 2 ^ w
padded_lt Zero w g = pow_pos w
padded_lt One w g = ones_lt w
padded_lt Keep w g = mod-lt g (pow_pos w)

-- a field, whichever of its two ends is cut first
field_low : (o p c : ℕ) → field o p c ≡ c % 2 ^ (o + p) / 2 ^ o
field_low o p c = sym (Pow.field c p o) ∙ ap (λ (k : ℕ). c % 2 ^ k / 2 ^ o) (add_comm p o)

pub field_filled : (l : Layout) (g r : ℕ) → r < 2 ^ l.precision → field l.offset.0 l.precision (filled l g r) ≡ r
field_filled l g r h =
    field_low l.offset.0 l.precision (filled l g r)
    ∙ ap (λ (x : ℕ). x / 2 ^ l.offset.0)
    (low _ (l.offset.0 + l.precision)
    (rw (add_comm l.offset.0 l.precision) (cat_lt l.precision l.offset.0 h (padded_lt l.lsb l.offset.0 g))))
    ∙ high r l.offset.0 (padded_lt l.lsb l.offset.0 g)

pub field_mod : (o p m c : ℕ) → o + p ≤ m → field o p (c % 2 ^ m) ≡ field o p c
field_mod o p m c h =
    let e : m ≡ m - (o + p) + (o + p) = omega arith in
    field_low o p (c % 2 ^ m)
    ∙ ap (λ (x : ℕ). x / 2 ^ o) (ap (λ (k : ℕ). c % 2 ^ k % 2 ^ (o + p)) e ∙ mod-mod-pow c (m - (o + p)) (o + p))
    ∙ sym (field_low o p c)

pub taken_back : (s : List ℕ) (i : ℕ) (bs : List ℕ) (n : ℕ) → length bs ≡ n → i ≤ length s → take n (drop i (paste s i bs n)) ≡ bs
taken_back s i bs n e h =
    ap (λ (x : List ℕ). take n (drop i x)) (append_assoc (take i s) (take n bs) (drop (i + n) s))
    ∙ ap (take n) (drop_at (take i s) (take n bs ++ drop (i + n) s) i (length-take-le i s h))
    ∙ ap (λ (x : List ℕ). take n (x ++ drop (i + n) s)) (take_all n bs (le_of_eq e))
    ∙ take_at bs (drop (i + n) s) n e

pub raw_back : (l : Layout) (i r : ℕ) (s : List ℕ) → Valid l → i + l.size.0 ≤ length s → r < 2 ^ l.precision → raw_at l i (stored l i r s) ≡ r
raw_back l i r s v h hr =
    let c : ℕ = filled l (container l.order (place l i s)) r in
    ap (λ (x : List ℕ). field l.offset.0 l.precision (container l.order x))
    (taken_back s i (contained l.order l.size.0 c) l.size.0 (contained_length l.order l.size.0 c) (omega arith))
    ∙ ap (field l.offset.0 l.precision) (read_written l.order l.size.0 c)
    ∙ field_mod l.offset.0 l.precision (8 * l.size.0) c v.inside
    ∙ field_filled l (container l.order (place l i s)) r hr

over_or_inside : (m n : ℕ) → (m < n) ⊎ (n ≤ m)
over_or_inside m n = elim (dec_le n m) [ yes h ↦ inr h | no f ↦ inl (lt_of_not-le f) ]

-- where z is in range its bits stand for z
pub fitted_back : (s : Bool) (p : ℕ) (z : ℤ) → 1 ≤ p → (fitted_to s p z).kind ≡ 0 → valued s p (fitted_to s p z).raw ≡ z
fitted_back false p (pos n) h e =
    ⊎_elim (λ t. let no : ◌≡◌ {A = ℕ} 1 0 = rw (unsigned_above p n t) at e in absurd (omega arith)) (λ t. rw (unsigned_inside p n t))
    (over_or_inside (2 ^ p - 1) n)
fitted_back false p (negsuc n) h e = absurd (omega (arith, e))
fitted_back true p (pos n) h e =
    ⊎_elim (λ t. let no : ◌≡◌ {A = ℕ} 1 0 = rw (signed_above p n t) at e in absurd (omega arith))
    (λ t. rw (signed_inside p n t) (valued_low p n (omega (arith, pow_pos (p - 1)))))
    (over_or_inside (2 ^ (p - 1) - 1) n)
fitted_back true p (negsuc n) h e =
    ⊎_elim (λ t. let no : ◌≡◌ {A = ℕ} 2 0 = rw (signed_below p n t) at e in absurd (omega arith))
    (λ t. let w : 2 ^ p ≡ 2 ^ (p - 1) + 2 ^ (p - 1) = twice_half p h in
    let u : 0 < 2 ^ (p - 1) = pow_pos (p - 1) in
    rw (signed_negative p n t) (valued_high p (2 ^ p - suc n) (omega arith) ∙ ap negsuc (omega arith)))
    (over_or_inside (2 ^ (p - 1) - 1) n)

-- whatever is fitted has p bits
pub fitted_lt : (s : Bool) (p : ℕ) (z : ℤ) → 1 ≤ p → (fitted_to s p z).raw < 2 ^ p
fitted_lt false p (pos n) h =
    let u : 0 < 2 ^ p = pow_pos p in
    ⊎_elim (λ t. rw (unsigned_above p n t) (omega arith)) (λ t. rw (unsigned_inside p n t) (omega arith)) (over_or_inside (2 ^ p - 1) n)
fitted_lt false p (negsuc n) h = pow_pos p
fitted_lt true p (pos n) h =
    let w : 2 ^ p ≡ 2 ^ (p - 1) + 2 ^ (p - 1) = twice_half p h in
    let u : 0 < 2 ^ (p - 1) = pow_pos (p - 1) in
    ⊎_elim (λ t. rw (signed_above p n t) (omega arith)) (λ t. rw (signed_inside p n t) (omega arith)) (over_or_inside (2 ^ (p - 1) - 1) n)
fitted_lt true p (negsuc n) h =
    let u : 0 < 2 ^ p = pow_pos p in
    ⊎_elim (λ t. rw (signed_below p n t) (omega arith)) (λ t. rw (signed_negative p n t) (omega arith)) (over_or_inside (2 ^ (p - 1) - 1) n)

-- p bits are those of the number that they stand for, and it fits
pub bits_back : (s : Bool) (p r : ℕ) → 1 ≤ p → r < 2 ^ p → fitted_to s p (valued s p r) ≡ record { raw = r; kind = 0; given = number_given (valued s p r) }
bits_back false p r h l = unsigned_inside p r (omega arith)
bits_back true p r h l =
    let w : 2 ^ p ≡ 2 ^ (p - 1) + 2 ^ (p - 1) = twice_half p h in
    ⊎_elim (λ t. rw (valued_low p r t) (signed_inside p r (omega arith)))
    (λ t. let e : 2 ^ p - suc (2 ^ p - suc r) ≡ r = omega arith in
    let n : 2 ^ p - suc r ≤ 2 ^ (p - 1) - 1 = omega arith in
    rw (valued_high p r t, signed_negative p (2 ^ p - suc r) n, e))
    (over_or_inside r (2 ^ (p - 1)))

pub fitted_raw : (l : Layout) (z : ℤ) (f : Fitted) → Valid l → f ≡ fitted l z → (f ≡ fitted l z) × (f.raw < 2 ^ l.precision)
fitted_raw l z f v e = (e, rw e (fitted_lt l.signed l.precision z v.some))

pub read_back : (l : Layout) (i : ℕ) (s : List ℕ) (z : ℤ) → Valid l → i + l.size.0 ≤ length s → (fitted l z).kind ≡ 0
    → number_at l i (stored l i (fitted l z).raw s) ≡ z
read_back l i s z v h e =
    ap (valued l.signed l.precision) (raw_back l i (fitted l z).raw s v h (fitted_lt l.signed l.precision z v.some))
    ∙ fitted_back l.signed l.precision z v.some e

-- a number that was read fits its own layout: its bits come back, and nothing is raised
pub read_fits : (l : Layout) (i : ℕ) (s : List ℕ) → Valid l → fitted l (number_at l i s) ≡ record { raw = raw_at l i s; kind = 0; given = number_given (number_at l i s) }
read_fits l i s v = bits_back l.signed l.precision (raw_at l i s) v.some (mod-lt _ (pow_pos l.precision))

-- what a writer of several leaves needs: the length stays, and so do the bytes before and behind
pub stored_length : (l : Layout) (i r : ℕ) (s : List ℕ) → i + l.size.0 ≤ length s → length (stored l i r s) ≡ length s
stored_length l i r s h = length-paste s i _ l.size.0 h (le_of_eq (sym (contained_length l.order l.size.0 _)))

pub stored_before : (l : Layout) (i r : ℕ) (s : List ℕ) → i ≤ length s → take i (stored l i r s) ≡ take i s
stored_before l i r s h = ap (take i) (append_assoc (take i s) _ (drop (i + l.size.0) s)) ∙ take_at (take i s) _ i (length-take-le i s h)

pub stored_behind : (l : Layout) (i r : ℕ) (s : List ℕ) → i ≤ length s → drop (i + l.size.0) (stored l i r s) ≡ drop (i + l.size.0) s
stored_behind l i r s h = drop-paste s i _ l.size.0 h (le_of_eq (sym (contained_length l.order l.size.0 _)))

-- a part, with either end cut first
part_swap : (j n : ℕ) (s : List ℕ) → take n (drop j s) ≡ drop j (take (j + n) s)
part_swap zero n s =
    let e : zero + n ≡ n = omega arith in
    rw e
part_swap (suc j) n [] = take-nil n ∙ sym (ap (drop (suc j)) (take-nil (suc j + n)))
part_swap (suc j) n (x ∷ s) =
    let e : suc j + n ≡ suc (j + n) = omega arith in
    part_swap j n s ∙ rw e

-- the bytes of another place, which is apart from the one that is written, stay
pub part_apart : (l : Layout) (i r : ℕ) (s : List ℕ) (j n : ℕ) → i + l.size.0 ≤ length s → (j + n ≤ i) ⊎ (i + l.size.0 ≤ j)
    → take n (drop j (stored l i r s)) ≡ take n (drop j s)
part_apart l i r s j n h (inl before) =
    part_swap j n (stored l i r s)
    ∙ ap (drop j) (sym (take-take (j + n) i (stored l i r s) before) ∙ ap (take (j + n)) (stored_before l i r s (omega arith)) ∙ take-take (j + n) i s before)
    ∙ sym (part_swap j n s)
part_apart l i r s j n h (inr behind) =
    let k : ℕ = j - (i + l.size.0) in
    let e : i + l.size.0 + k ≡ j = omega arith in
    ap (take n)
    (sym (drop-drop k (i + l.size.0) (stored l i r s) ∙ ap (λ (x : ℕ). drop x (stored l i r s)) e)
    ∙ ap (drop k) (stored_behind l i r s (omega arith)) ∙ drop-drop k (i + l.size.0) s ∙ ap (λ (x : ℕ). drop x s) e)

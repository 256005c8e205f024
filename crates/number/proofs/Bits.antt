-- Which bits of a record can the number of one leaf turn on? Exactly the significant ones, offset to offset + precision − 1 of
-- the container. Equal there, equal numbers (`same_bits`); equal numbers, equal there (`same_number`). Assumes nothing.
use mathlib.Core.Path.{◌≡◌, sym, ap, ap₂, ◌∙◌}
use mathlib.Core.List.{List}
use Prim.Native.Nat.{ℕ, zero, suc, ◌+◌, ◌-◌, ◌*◌, ◌/◌, ◌%◌, ◌^◌, ◌≤◌, ◌<◌}
use native.Mathlib.Nat.{mod-lt, mod-one}
use native.Mathlib.Omega.{arith}
use lib.Pow.{pow_pos, shr-shr, mod-pow-add}
use Rattle.bits.specs.Container.{container, field, bit}
use Rattle.layout.specs.declared.Layout.{Layout}
use Rattle.layout.specs.Layout.{Valid}
use Rattle.number.specs.declared.Fitted.{Fitted}
use Rattle.number.specs.Place.{place, raw_at}
use Rattle.number.specs.Number.{valued, number_at, fitted_to}
use Rattle.number.proofs.RoundTrip.{field_mod, bits_back}

-- ---- a field and its bits

-- one bit more, on top
field_suc : (o p c : ℕ) → field o (suc p) c ≡ bit (o + p) c * 2 ^ p + field o p c
field_suc o p c =
    let e : suc p ≡ 1 + p = omega arith in
    ap (λ (k : ℕ). c / 2 ^ o % 2 ^ k) e ∙ mod-pow-add (c / 2 ^ o) 1 p ∙ ap (λ (x : ℕ). x % 2 * 2 ^ p + field o p c) (shr-shr c o p)

same_field : (o p c d : ℕ) → ((k : ℕ) → o ≤ k → k < o + p → bit k c ≡ bit k d) → field o p c ≡ field o p d
same_field o zero c d same = mod-one (c / 2 ^ o) ∙ sym (mod-one (d / 2 ^ o))
same_field o (suc p) c d same =
    field_suc o p c
    ∙ ap₂ (λ (x y : ℕ). x * 2 ^ p + y) (same (o + p) (omega arith) (omega arith)) (same_field o p c d (λ k h l. same k h (omega arith)))
    ∙ sym (field_suc o p d)

bit_of_field : (o p c k : ℕ) → o ≤ k → k < o + p → bit k c ≡ bit (k - o) (field o p c)
bit_of_field o p c k h l =
    let e : k ≡ o + (k - o) = omega arith in
    ap (λ (j : ℕ). bit j c) e ∙ ap (λ (x : ℕ). x % 2) (sym (shr-shr c o (k - o))) ∙ sym (field_mod (k - o) 1 p (c / 2 ^ o) (omega arith))

-- ---- the two laws

pub same_bits : (l : Layout) (i : ℕ) (s t : List ℕ)
    → ((k : ℕ) → l.offset.0 ≤ k → k < l.offset.0 + l.precision → bit k (container l.order (place l i s)) ≡ bit k (container l.order (place l i t)))
    → number_at l i s ≡ number_at l i t
same_bits l i s t same =
    ap (valued l.signed l.precision)
    (same_field l.offset.0 l.precision (container l.order (place l i s)) (container l.order (place l i t)) same)

pub same_number : (l : Layout) (i : ℕ) (s t : List ℕ) → Valid l → number_at l i s ≡ number_at l i t
    → (k : ℕ) → l.offset.0 ≤ k → k < l.offset.0 + l.precision → bit k (container l.order (place l i s)) ≡ bit k (container l.order (place l i t))
same_number l i s t v e k h m =
    let o : ℕ = l.offset.0 in
    let p : ℕ = l.precision in
    bit_of_field o p (container l.order (place l i s)) k h m
    ∙ ap (bit (k - o)) (sym (raw s) ∙ ap (λ (f : Fitted). f.raw) (ap (fitted_to l.signed p) e) ∙ raw t)
    ∙ sym (bit_of_field o p (container l.order (place l i t)) k h m)
  where
    raw : (u : List ℕ) → (fitted_to l.signed l.precision (number_at l i u)).raw ≡ raw_at l i u
    raw u = ap (λ (f : Fitted). f.raw) (bits_back l.signed l.precision (raw_at l i u) v.some (mod-lt _ (pow_pos l.precision)))

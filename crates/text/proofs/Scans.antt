-- What each reader of a field has still to see, by what it has tested on the way. Assumes nothing.
use borrow.Author.Rules.{rules}
use borrow.Author.Tests.{eq-eqb, ne_eqb}
use mathlib.Core.Path.{◌≡◌, refl, sym, ap, ◌∙◌}
use mathlib.Core.Logic.{◌⊎◌}
use mathlib.Core.Bool.{Bool, true, false, ◌&&◌}
use mathlib.Core.List.{List, [], ◌∷◌}
use Prim.Native.Nat.{ℕ, ◌+◌, ◌-◌, ◌*◌, ◌^◌, ◌<◌, ◌≤◌}
use native.Mathlib.Omega.{arith}
use mir.Val.{Fits}
use mir.Syntax.{w64}
use Rattle.std.specs.Bool.{then_some}
use lib.Dec.{eqb}
use lib.ListN.{length, get_or, take, drop, get_or-eq_default}
use Rattle.text.specs.Field.{when}
use Rattle.text.specs.Place.{ends_field, field_at, field_end, byte_at, same_bytes, as_name}
use lib.Pointwise.{pointwise}
use Rattle.std.proofs.Common.{Bor}
use Rattle.std.specs.Prelude.{Option, Some, None}
use Rattle.std.specs.Option.{UnwrapsOrElse, MatchOption, IsSome}
use Rattle.std.specs.List.{slice_range}
use Rattle.text.proofs.Places.{field_past, field_stop, field_more, field_inside, field_length, field_bytes}

-- ---- one byte

pub no_byte : (s : List ℕ) (at b : ℕ) → length s ≤ at → 0 < b → false ≡ byte_at s at b
no_byte s at b h p = simp (get_or-eq_default s 0 h, ne_eqb 0 b (λ q. omega arith))

module _ (b : ℕ) where
  pub ends_tab : b ≡ 9 → true ≡ ends_field b
  ends_tab h = simp (eq-eqb _ _ h)

  pub ends_other : ((b ≡ 9) → ⊥) → eqb b 10 ≡ ends_field b
  ends_other h = simp (ne_eqb _ _ h)

pub ruleset byte_laws = (rules, no_byte, ends_tab, ends_other)

-- ---- the end of a field

module _ (s : List ℕ) (i f : ℕ) (inv : field_end s i ≡ f) where
  pub end_past : length s ≤ i → i ≡ f
  end_past h = omega (arith, ap length (field_past s i h))

  module _ (h : i < length s) (t : Bool) (e : t ≡ ends_field (get_or s i 0)) where
    pub end_here : t ≡ true → i ≡ f
    end_here p = omega (arith, ap length (field_stop s i h (sym e ∙ p)))

    pub end_more : t ≡ false → field_end s (i + 1) ≡ f
    end_more p = omega (arith, ap length (field_more s i h (sym e ∙ p)))

pub ruleset end_laws = (rules, end_past, end_here, end_more)

-- ---- a place inside a field

empty : (xs : List ℕ) → length xs ≡ 0 → xs ≡ []
empty [] h = refl
empty (x ∷ xs) h = absurd (omega arith)

module _ (s : List ℕ) (i : ℕ) where
  pub in_text : (e : ℕ) → field_end s i ≡ e → i < e → i < length s
  in_text e h l = (field_inside s i (omega arith)).0

  pub end_next : (e : ℕ) → field_end s i ≡ e → i < e → field_end s (i + 1) ≡ e
  end_next e h l = omega (arith, ap length (field_inside s i (omega arith)).1)

  pub at_end : (e : ℕ) → field_end s i ≡ e → e ≤ i → field_at s i ≡ []
  at_end e h l = empty (field_at s i) (omega arith)

  pub in_field : (e : ℕ) → field_end s i ≡ e → i < e → field_at s i ≡ get_or s i 0 ∷ field_at s (i + 1)
  in_field e h l = (field_inside s i (omega arith)).1

-- ---- the bytes of a field

-- the part of the text from a place up to its field's end, or nothing where the place lies behind the text
module _ (s : List ℕ) (at e : ℕ) (r : Bor (List ℕ)) (ends : e ≡ field_end s at) where
  pub part_is : (o : Option (Bor (List ℕ)))
      → MatchOption o ((e < at) ⊎ (length s < e)) (λ x. (at ≤ e) × (e ≤ length s) × (x.now ≡ slice_range s at e) × (length x.now + at ≡ e))
      × ((at ≤ e) × (e ≤ length s) → IsSome o)
      → UnwrapsOrElse o (λ x. x.now ≡ []) r → r.now ≡ field_at s at
  part_is None p q = q ∙ sym (field_past s at (none p.0)) where
    none : (e < at) ⊎ (length s < e) → length s ≤ at
    none h = omega (arith, h, field_length s at)
  part_is (Some x) p q =
      let l : length (field_at s at) ≡ e - at = omega (arith, ends) in
      ap (λ (b : Bor (List ℕ)). b.now) q ∙ p.0.2 ∙ ap (λ (n : ℕ). take n (drop at s)) (sym l) ∙ sym (field_bytes s at)

  pub end_fits : length s * 1 < 2 ^ 63 → at < 2 ^ 64 → Fits w64 (field_end s at)
  end_fits h g = record { fits = omega (arith, field_length s at) }

-- ---- a word

pub pointwise_same : (xs ys : List ℕ) → pointwise eqb xs ys ≡ same_bytes xs ys
unfolding same_bytes
pointwise_same [] [] = refl
pointwise_same [] (y ∷ ys) = refl
pointwise_same (x ∷ xs) [] = refl
pointwise_same (x ∷ xs) (y ∷ ys) = ap (λ (t : Bool). eqb x y && t) (pointwise_same xs ys)

-- ---- a name

pub asked : (f : List ℕ) (e : ℕ) (t : Bool) → then_some t e ≡ as_name (when t f) e
asked f e true = refl
asked f e false = refl

-- Dimensions of two arrays, compared one after the other. Assumes nothing.
use mathlib.Core.Path.{◌≡◌, refl, sym, ◌∙◌}
use mathlib.Core.Bool.{Bool, true, false, cond}
use mathlib.Core.List.{List, [], ◌∷◌}
use Prim.Native.Nat.{ℕ, suc, ◌+◌, ◌≤◌, ◌<◌}
use native.Mathlib.Numerals.{add-one}
use native.Mathlib.Omega.{arith}
use borrow.Author.Tests.{eq-eqb, ne_eqb, eqb-true}
use lib.Dec.{eqb}
use lib.ListN.{get_or, length, drop, drop_of_length-le}
use lib.Seq.{drop-cons}
use Rattle.datatype.specs.Datatype.{same}
use Rattle.table.specs.Table.{type_word, up_to_zero, dimensions_at}
use Rattle.table.specs.Words.{Reads}

-- from dimension q on, they are the same
unfoldable pub same_from : List ℕ → List ℕ → ℕ → Bool
same_from a b q = same (up_to_zero (drop q a)) (up_to_zero (drop q b))

module _ (a b : List ℕ) (q : ℕ) (in-a : q < length a) (in_b : q < length b) where
  pub dimensions_end : get_or a q 0 ≡ get_or b q 0 → get_or a q 0 ≡ 0 → same_from a b q ≡ true
  unfolding same_from same
  dimensions_end e z = rw (drop-cons a q 0 in-a, drop-cons b q 0 in_b, eq-eqb (get_or a q 0) 0 z, eq-eqb (get_or b q 0) 0 (sym e ∙ z))

  pub dimensions_go_on : get_or a q 0 ≡ get_or b q 0 → (get_or a q 0 ≡ 0 → ⊥) → same_from a b q ≡ same_from a b (q + 1)
  unfolding same_from same
  dimensions_go_on e some =
      rw (
        add-one q,
        drop-cons a q 0 in-a,
        drop-cons b q 0 in_b,
        ne_eqb (get_or a q 0) 0 some,
        ne_eqb (get_or b q 0) 0 (λ z. some (e ∙ z)),
        eq-eqb (get_or a q 0) (get_or b q 0) e,
      )

  pub dimensions_differ : (get_or a q 0 ≡ get_or b q 0 → ⊥) → same_from a b q ≡ false
  unfolding same_from same
  dimensions_differ ne = rw (drop-cons a q 0 in-a, drop-cons b q 0 in_b) (go (eqb (get_or a q 0) 0) (eqb (get_or b q 0) 0) refl refl)
    where
      go : (s t : Bool) → eqb (get_or a q 0) 0 ≡ s → eqb (get_or b q 0) 0 ≡ t
          → same (cond s [] (get_or a q 0 ∷ up_to_zero (drop (suc q) a))) (cond t [] (get_or b q 0 ∷ up_to_zero (drop (suc q) b))) ≡ false
      go true true p r = absurd (ne (eqb-true _ _ p ∙ sym (eqb-true _ _ r)))
      go true false p r = refl
      go false true p r = refl
      go false false p r = rw (ne_eqb (get_or a q 0) (get_or b q 0) ne)

pub dimensions_none : (a b : List ℕ) (q : ℕ) → length a ≤ q → length b ≤ q → same_from a b q ≡ true
unfolding same_from same
dimensions_none a b q h k = rw (drop_of_length-le a h, drop_of_length-le b k)

-- ---- in the shape of the code's needs

pub dimensions_read : (w : List ℕ) (i : ℕ) {a b c d : ℕ} → Reads (type_word w i 11) a → Reads (type_word w i 12) b → Reads (type_word w i 13) c → Reads (type_word w i 14) d
    → up_to_zero (a ∷ b ∷ c ∷ d ∷ []) ≡ dimensions_at w i
dimensions_read w i ha hb hc hd = rw (ha.is, hb.is, hc.is, hd.is)

module _ (a b : List ℕ) (four : length a ≡ 4) (also : length b ≡ 4) where
  pub equal_start : same_from a b 0 ≡ same (up_to_zero a) (up_to_zero b)
  unfolding same_from
  equal_start = refl

  module _ (q : ℕ) {s : Bool} (inv : same_from a b q ≡ s) where
    pub equal_none : 4 ≤ q → true ≡ s
    equal_none h = sym (dimensions_none a b q (omega arith) (omega arith)) ∙ inv

    module _ (h : q < 4) where
      pub equal_differ : (get_or a q 0 ≡ get_or b q 0 → ⊥) → false ≡ s
      equal_differ ne = sym (dimensions_differ a b q (omega arith) (omega arith) ne) ∙ inv

      module _ (e : get_or a q 0 ≡ get_or b q 0) where
        pub equal_end : get_or a q 0 ≡ 0 → true ≡ s
        equal_end z = sym (dimensions_end a b q (omega arith) (omega arith) e z) ∙ inv

        pub equal_go_on : (get_or a q 0 ≡ 0 → ⊥) → same_from a b (q + 1) ≡ s
        equal_go_on some = sym (dimensions_go_on a b q (omega arith) (omega arith) e some) ∙ inv

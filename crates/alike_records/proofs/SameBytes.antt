-- The first bytes of two lists: whether one was found that differs. Assumes nothing.
use mathlib.Core.Path.{◌≡◌, refl, sym, ap, ap₂, ◌∙◌}
use mathlib.Core.Bool.{Bool, true, false, cond, false≢true}
use mathlib.Core.List.{List, [], ◌∷◌, ◌++◌}
use Prim.Native.Nat.{ℕ, suc, ◌+◌, ◌≤◌, ◌<◌}
use native.Mathlib.Nat.{le_refl}
use native.Mathlib.Numerals.{add-one}
use native.Mathlib.Omega.{arith}
use borrow.Author.Tests.{eqb-true, eq-eqb, ne_eqb}
use lib.Dec.{eqb}
use lib.ListN.{length, take, get_or}
use lib.Seq.{take-suc, get_or-take, take-take}
use Rattle.datatype.specs.Datatype.{same}
use Rattle.datatype.proofs.Tests.{same→eq, same_refl}

-- ---- one byte

pub found_none : (before x y : ℕ) → x ≡ y → before ≡ cond (eqb x y) before 1
found_none before x y e = rw (eq-eqb x y e) refl

pub found_one : (before x y : ℕ) → (x ≡ y → ⊥) → ◌≡◌ {A = ℕ} 1 (cond (eqb x y) before 1)
found_one before x y e = rw (ne_eqb x y e) refl

-- ---- all of them

-- k is 0 exactly where the first j bytes are the same
pub record Found (a b : List ℕ) (j k : ℕ) : Type 0 where
  pub none : k ≡ 0 → take j a ≡ take j b
  pub only : take j a ≡ take j b → k ≡ 0

module _ (a b : List ℕ) where
  pub found_start : Found a b 0 0
  found_start = record { none = λ e. refl; only = λ e. refl }

  module _ (j : ℕ) (h : j < length a) (g : j < length b) where
    more : take j a ≡ take j b → get_or a j 0 ≡ get_or b j 0 → take (j + 1) a ≡ take (j + 1) b
    more e f = rw add-one (take-suc a j 0 h ∙ ap₂ (λ (l : List ℕ) (x : ℕ). l ++ (x ∷ [])) e f ∙ sym (take-suc b j 0 g))

    before : take (j + 1) a ≡ take (j + 1) b → take j a ≡ take j b
    before e = sym (take-take j (j + 1) a (omega arith)) ∙ ap (take j) e ∙ take-take j (j + 1) b (omega arith)

    last : take (j + 1) a ≡ take (j + 1) b → get_or a j 0 ≡ get_or b j 0
    last e =
        sym (get_or-take (j + 1) a j 0 (omega arith)) ∙ ap (λ (l : List ℕ). get_or l j 0) e ∙ get_or-take (j + 1) b j 0 (omega arith)

    pub found_turn : (k : ℕ) {r : ℕ} → Found a b j k → r ≡ cond (eqb (get_or a j 0) (get_or b j 0)) k 1 → Found a b (j + 1) r
    found_turn k {r} now is = go (eqb (get_or a j 0) (get_or b j 0)) refl
      where
        go : (t : Bool) → eqb (get_or a j 0) (get_or b j 0) ≡ t → Found a b (j + 1) r
        go true e =
            let same : r ≡ k = is ∙ rw e refl in
            record { none = λ q. more (now.none (sym same ∙ q)) (eqb-true (get_or a j 0) (get_or b j 0) e); only = λ q. same ∙ now.only (before q) }
        go false e =
            let one : r ≡ 1 = is ∙ rw e refl in
            record {
              none = λ q. absurd (omega arith);
              only = λ q. absurd (false≢true (sym e ∙ eq-eqb (get_or a j 0) (get_or b j 0) (last q)));
            }

  found_end : (n j k : ℕ) → j ≡ n → Found a b j k → eqb k 0 ≡ same (take n a) (take n b)
  found_end n j k e now = go (eqb k 0) refl
    where
      go : (t : Bool) → eqb k 0 ≡ t → t ≡ same (take n a) (take n b)
      go true q =
          let eq : take n a ≡ take n b = rw e at (now.none (eqb-true k 0 q)) in
          rw eq (sym (same_refl (take n b)))
      go false q = differ (same (take n a) (take n b)) refl
        where
          differ : (t : Bool) → same (take n a) (take n b) ≡ t → false ≡ t
          differ false r = refl
          differ true r = absurd (false≢true (sym q ∙ eq-eqb k 0 (now.only (rw e (same→eq (take n a) (take n b) r)))))

-- of the first n bytes, in slices that have just these
pub found_whole_lem : (a b : List ℕ) (n j k : ℕ) → j ≡ n → Found (take n a) (take n b) j k → eqb k 0 ≡ same (take n a) (take n b)
found_whole_lem a b n j k e now =
    found_end (take n a) (take n b) n j k e now ∙ ap₂ same (take-take n n a (le_refl n)) (take-take n n b (le_refl n))

-- Dimensions up to the first 0, and their product. Assumes nothing.
use mathlib.Core.Path.{◌≡◌, refl, sym, ap, ◌∙◌}
use mathlib.Core.Bool.{Bool, true, false, cond}
use mathlib.Core.List.{List, [], ◌∷◌}
use Prim.Native.Nat.{ℕ, suc, ◌+◌, ◌*◌, ◌<◌, ◌≤◌}
use native.Mathlib.Nat.{mul_assoc, mul-one, mul-le-mul_left, mul-pos}
use native.Mathlib.Numerals.{add-one}
use native.Mathlib.Omega.{arith}
use borrow.Author.Tests.{eq-eqb, ne_eqb, eqb-false, le-leb, lt-leb}
use lib.Dec.{eqb, leb}
use lib.ListN.{get_or, length, drop, drop_of_length-le}
use lib.Seq.{drop-cons}
use Rattle.datatype.specs.Datatype.{elements}
use Rattle.table.specs.Table.{up_to_zero}
use Rattle.std.specs.Prelude.{Some, None}
use Rattle.sheet.specs.Sheet.{each_some}
use Rattle.sheet_steps.specs.Steps.{total_of}

pub few_dimensions : (ds : List ℕ) → length (up_to_zero ds) ≤ length ds
few_dimensions [] = omega arith
few_dimensions (d ∷ ds) = go (few_dimensions ds) (eqb d 0)
  where
    go : length (up_to_zero ds) ≤ length ds → (b : Bool) → length (cond b [] (d ∷ up_to_zero ds)) ≤ suc (length ds)
    go ih true = omega arith
    go ih false = omega arith

pub each_dimension : (ds : List ℕ) → each_some (up_to_zero ds) ≡ true
each_dimension [] = refl
each_dimension (d ∷ ds) = go (each_dimension ds) (eqb d 0) refl
  where
    go : each_some (up_to_zero ds) ≡ true → (b : Bool) → eqb d 0 ≡ b → each_some (cond b [] (d ∷ up_to_zero ds)) ≡ true
    go ih true e = refl
    go ih false e =
        let some : d ≡ 0 → ⊥ = eqb-false _ _ e in
        rw (le-leb 1 d (omega arith), ih) refl

pub some_dimension : (ds : List ℕ) → 1 ≤ length ds → (get_or ds 0 0 ≡ 0 → ⊥) → 1 ≤ length (up_to_zero ds)
some_dimension [] h some = h
some_dimension (d ∷ ds) h some = rw (ne_eqb d 0 some) (omega arith)

pub no_dimension : (ds : List ℕ) → get_or ds 0 0 ≡ 0 → up_to_zero ds ≡ []
no_dimension [] e = refl
no_dimension (d ∷ ds) e = rw (eq-eqb d 0 e)

elements_some : (ds : List ℕ) → 1 ≤ elements (up_to_zero ds)
elements_some [] = omega arith
elements_some (d ∷ ds) = go (elements_some ds) (eqb d 0) refl
  where
    go : 1 ≤ elements (up_to_zero ds) → (b : Bool) → eqb d 0 ≡ b → 1 ≤ elements (cond b [] (d ∷ up_to_zero ds))
    go ih true e = omega arith
    go ih false e =
        let some : d ≡ 0 → ⊥ = eqb-false _ _ e in
        mul-pos (omega arith) ih

-- ---- the product of what is left, from dimension q on

abbrev pub left : List ℕ → ℕ → ℕ
left ds q = elements (up_to_zero (drop q ds))

pub left_none : (ds : List ℕ) (q : ℕ) → length ds ≤ q → left ds q ≡ 1
left_none ds q h = rw (drop_of_length-le ds h)

pub left_zero : (ds : List ℕ) (q : ℕ) → q < length ds → get_or ds q 0 ≡ 0 → left ds q ≡ 1
left_zero ds q h e = rw (drop-cons ds q 0 h, eq-eqb (get_or ds q 0) 0 e)

left_more : (ds : List ℕ) (q : ℕ) → q < length ds → (get_or ds q 0 ≡ 0 → ⊥) → left ds q ≡ get_or ds q 0 * left ds (suc q)
left_more ds q h ne = rw (drop-cons ds q 0 h, ne_eqb (get_or ds q 0) 0 ne)

-- one dimension more is multiplied
pub left_step : (ds : List ℕ) (p q : ℕ) {total : ℕ} → q < length ds → (get_or ds q 0 ≡ 0 → ⊥) → p * left ds q ≡ total → p * get_or ds q 0 * left ds (q + 1) ≡ total
left_step ds p q h ne e =
    rw (add-one q) (mul_assoc p (get_or ds q 0) (left ds (suc q)) ∙ ap (λ (k : ℕ). p * k) (sym (left_more ds q h ne)) ∙ e)

-- ---- the answer

module _ (ds : List ℕ) (z : ℕ) where
  pub total_ends : (p q : ℕ) → p ≤ 4096 → left ds q ≡ 1 → p * left ds q ≡ elements (up_to_zero ds) * z → Some p ≡ total_of ds z
  unfolding total_of
  total_ends p q h one e =
      let all : p ≡ elements (up_to_zero ds) * z = sym (mul-one p) ∙ ap (λ (k : ℕ). p * k) (sym one) ∙ e in
      rw (← all, le-leb p 4096 h)

  pub total_many : (p q : ℕ) → 4096 < p → p * left ds q ≡ elements (up_to_zero ds) * z → None ≡ total_of ds z
  unfolding total_of
  total_many p q h e =
      let some : p * 1 ≤ p * left ds q = mul-le-mul_left p (elements_some (drop q ds)) in
      rw (← e, lt-leb (p * left ds q) 4096 (omega (arith, mul-one p)))

  pub total_fits : {p : ℕ} → Some p ≡ total_of ds z → (leb (elements (up_to_zero ds) * z) 4096 ≡ true) × (p ≡ elements (up_to_zero ds) * z)
  unfolding total_of
  total_fits {p} e = go (leb (elements (up_to_zero ds) * z) 4096) refl e
    where
      go : (b : Bool) → leb (elements (up_to_zero ds) * z) 4096 ≡ b → Some p ≡ cond b (Some (elements (up_to_zero ds) * z)) None → (leb (elements (up_to_zero ds) * z) 4096 ≡ true) × (p ≡ elements (up_to_zero ds) * z)
      go true t e = (t, cc)
      go false t e = let x : ◌≡◌ {A = ℕ} 0 1 = cc in absurd (omega arith)

  pub total_large : None ≡ total_of ds z → leb (elements (up_to_zero ds) * z) 4096 ≡ false
  unfolding total_of
  total_large e = go (leb (elements (up_to_zero ds) * z) 4096) refl e
    where
      go : (b : Bool) → leb (elements (up_to_zero ds) * z) 4096 ≡ b → None ≡ cond b (Some (elements (up_to_zero ds) * z)) None → leb (elements (up_to_zero ds) * z) 4096 ≡ false
      go true t e = let x : ◌≡◌ {A = ℕ} 0 1 = cc in absurd (omega arith)
      go false t e = t

-- How a setter's call ends: a size that fits a word, and words that change only where it returns 0. Assumes nothing.
use mathlib.Core.Path.{◌≡◌, refl, ap, ◌∙◌}
use mathlib.Core.Bool.{Bool, true, false, not, ◌&&◌, and-eq-true_iff}
use mathlib.Core.Logic.{◌⊎◌, inl, inr, ⊎_elim}
use mathlib.Core.List.{List, [], ◌∷◌}
use Prim.Native.Nat.{ℕ, zero, suc, ◌≤◌, ◌<◌, ◌^◌}
use native.Mathlib.Omega.{arith}
use lib.Dec.{leb}
use borrow.Author.Rules.{rules}
use borrow.Author.Tests.{leb-true, not-true, not-false}
use Rattle.answer.specs.declared.Answer.{Answer}
use Rattle.answer.specs.declared.Answer.TheVariants.{Done, Range}
use Rattle.answer.specs.Answer.{number_of}
use Rattle.layout.specs.declared.Layout.{Layout}
use Rattle.layout.specs.declared.Edited.{Edited}
use Rattle.layout.specs.Layout.{valid}
use Rattle.layout.specs.Setters.{edited, set_size, set_field, set_order, set_pads, set_sign}
use Rattle.layout.specs.Setters.{Edit, edit}
use Rattle.layout.specs.Setters.Edit.{size, field, order, pads, sign}
use Rattle.layout.proofs.Valid.{facts}
use Rattle.layout.proofs.Keeps.{edit_keeps}
use Rattle.layout_words.specs.Codes.{class_code, order_code, pad_code, sign_code, layout_words, class_of, order_of, pad_of, sign_of, is_coded, layout_of, outcome, setter_call}

-- a setter is done, from a valid layout; or it refuses, and gives the layout back
abbrev Ends : Layout → Edited → Type 0
Ends l r = ((r.answer ≡ Done 0) × (valid l ≡ true)) ⊎ (r ≡ record { answer = Range; layout = l })

edited_ends : (l m : Layout) (allowed : Bool) → Ends l (edited l allowed m)
edited_ends l m allowed = go (valid l) refl allowed
  where
    go : (t : Bool) → valid l ≡ t → (u : Bool) → Ends l (edited l u m)
    go true v true = inl (rw v, v)
    go true v false = inr (rw v)
    go false v u = inr (rw v)

ends : (e : Edit) (l : Layout) → Ends l (edit e l)
unfolding set_size set_field set_order set_pads set_sign
ends (size s) l = edited_ends l _ _
ends (field o p) l = edited_ends l _ _
ends (order o) l = edited_ends l _ true
ends (pads lsb msb) l = edited_ends l _ true
ends (sign signed) l = edited_ends l _ _

pub size_fits : {r : Edited} (l : Layout) (e : Edit) → r ≡ edit e l → l.size.0 < 2 ^ 32 → r.layout.size.0 < 2 ^ 32
size_fits {r} l e h fits = rw h (⊎_elim done refused (ends e l))
  where
    done : ((edit e l).answer ≡ Done 0) × (valid l ≡ true) → (edit e l).layout.size.0 < 2 ^ 32
    done d =
        let k : (edit e l).layout.size.0 ≤ 8 = (edit_keeps e l (facts l d.1)).sized in
        omega arith

    refused : edit e l ≡ record { answer = Range; layout = l } → (edit e l).layout.size.0 < 2 ^ 32
    refused g = rw g fits

-- ---- the two ends of `put`

pub uncoded : (t : Bool) (e : Edited) (w : List ℕ) → not t ≡ true → record { number = 9; words = w } ≡ outcome t e w
unfolding outcome
uncoded t e w h = rw (not-true t h)

pub coded : (t : Bool) {n : ℕ} {v : List ℕ} (e : Edited) (w : List ℕ) → not t ≡ false → n ≡ number_of e.answer → v ≡ layout_words e.layout → record { number = n; words = v } ≡ outcome t e w
unfolding outcome
coded t e w h p q = rw (not-false t h, p, q)

pub ruleset put_ends = (rules, uncoded, coded)

-- ---- words that are codes come back

-- a function f of a number up to 1 or 2, which gives the number back
two : (f : ℕ → ℕ) → f 0 ≡ 0 → f 1 ≡ 1 → (n : ℕ) → leb n 1 ≡ true → f n ≡ n
two f p q zero h = p
two f p q (suc zero) h = q
two f p q (suc (suc n)) h =
    let k : suc (suc n) ≤ 1 = leb-true _ _ h in
    absurd (omega arith)

three : (f : ℕ → ℕ) → f 0 ≡ 0 → f 1 ≡ 1 → f 2 ≡ 2 → (n : ℕ) → leb n 2 ≡ true → f n ≡ n
three f p q r zero h = p
three f p q r (suc zero) h = q
three f p q r (suc (suc zero)) h = r
three f p q r (suc (suc (suc n))) h =
    let k : suc (suc (suc n)) ≤ 2 = leb-true _ _ h in
    absurd (omega arith)

module _ (class bytes end low bits lsb msb sign : ℕ) where
  abbrev words : List ℕ
  words = class ∷ bytes ∷ end ∷ low ∷ bits ∷ lsb ∷ msb ∷ sign ∷ []

  words_back : is_coded words ≡ true → layout_words (layout_of words) ≡ words
  unfolding is_coded layout_of
  words_back h =
      let all = (and-eq-true_iff (leb class 1 && leb end 1 && (leb lsb 2 && leb msb 2)) (leb sign 1)).0 h in
      let front = (and-eq-true_iff (leb class 1 && leb end 1) (leb lsb 2 && leb msb 2)).0 all.0 in
      let named = (and-eq-true_iff (leb class 1) (leb end 1)).0 front.0 in
      let pads = (and-eq-true_iff (leb lsb 2) (leb msb 2)).0 front.1 in
      let a : class_code (class_of class) ≡ class = two (λ n. class_code (class_of n)) refl refl class named.0 in
      let b : order_code (order_of end) ≡ end = two (λ n. order_code (order_of n)) refl refl end named.1 in
      let c : pad_code (pad_of lsb) ≡ lsb = three (λ n. pad_code (pad_of n)) refl refl refl lsb pads.0 in
      let d : pad_code (pad_of msb) ≡ msb = three (λ n. pad_code (pad_of n)) refl refl refl msb pads.1 in
      let e : sign_code (sign_of sign) ≡ sign = two (λ n. sign_code (sign_of n)) refl refl sign all.1 in
      cc

  -- "Changed only where 0 is returned."
  pub stays : (code : Bool) (e : Edit) → ((setter_call code e words).number ≡ 0) ⊎ ((setter_call code e words).words ≡ words)
  unfolding outcome
  stays code e = go (code && is_coded words) refl
    where
      go : (t : Bool) → (code && is_coded words) ≡ t → ((setter_call code e words).number ≡ 0) ⊎ ((setter_call code e words).words ≡ words)
      go false h = inr (rw h)
      go true h =
          let l = layout_of words in
          rw h
          (⊎_elim
          (λ d. inl (ap (λ (a : Answer). number_of a) d.0))
          (λ g. inr (ap (λ (r : Edited). layout_words r.layout) g ∙ words_back ((and-eq-true_iff code (is_coded words)).0 h).1))
          (ends e l))

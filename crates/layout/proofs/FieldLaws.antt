-- The laws of the setter of the field. Assumes nothing.
use mathlib.Core.Path.{◌≡◌, refl, ap}
use mathlib.Core.Bool.{Bool, true, false, ◌&&◌, and-eq-true_iff}
use mathlib.Core.Logic.{◌⊎◌, inl, inr, ⊎_elim}
use Prim.Native.Nat.{ℕ, ◌+◌, ◌≤◌, max}
use native.Mathlib.Omega.{arith}
use Rattle.answer.specs.declared.Answer.TheVariants.{Done, Range}
use Rattle.layout.specs.declared.Layout.{Layout}
use Rattle.layout.specs.declared.Edited.{Edited}
use Rattle.layout.specs.Layout.{valid, Valid}
use Rattle.layout.specs.Setters.{resized, bytes_for, field_allowed, set_field}
use Rattle.layout.specs.FieldLaws.{IsDone, Takes, FieldLaws, after_both, TwoFields, FromSizeOne}
use Rattle.layout.proofs.Valid.{facts, tested}
use Rattle.layout.proofs.Fields.{bytes_least, field_size, allowed_takes, takes_allowed, taken_valid}

-- l with the field (o, p)
abbrev with_field : Layout → ℕ → ℕ → Layout
with_field l o p = resized l (max l.size.0 (bytes_for (o + p))) o p

abbrev refusal : Layout → Edited
refusal l = record { answer = Range; layout = l }

set : (l : Layout) (o p : ℕ) → Takes l o p → set_field l o p ≡ record { answer = Done 0; layout = with_field l o p }
unfolding set_field
set l o p t = rw (tested l t.given, takes_allowed l o p t, field_size l o p)

-- a field is taken, or refused
end : (l : Layout) (o p : ℕ) → Takes l o p ⊎ (set_field l o p ≡ refusal l)
unfolding set_field
end l o p = go (valid l && field_allowed l o p) refl
  where
    go : (t : Bool) → (valid l && field_allowed l o p) ≡ t → Takes l o p ⊎ (set_field l o p ≡ refusal l)
    go true e =
        let b = (and-eq-true_iff (valid l) (field_allowed l o p)).0 e in
        inl (allowed_takes l o p (facts l b.0) b.1)
    go false e = inr (rw e)

done_takes : (l : Layout) (o p : ℕ) → IsDone (set_field l o p) → Takes l o p
done_takes l o p d = ⊎_elim (λ t. t) not_done (end l o p)
  where
    not_done : set_field l o p ≡ refusal l → Takes l o p
    not_done e =
        let r : Range ≡ Done 0 = rw e at d in
        let z : ◌≡◌ {A = ℕ} 0 1 = cc in
        absurd (omega arith)

-- the layout with one field takes any other that the layout takes
takes_again : (l : Layout) (o₁ p₁ o₂ p₂ : ℕ) → Takes l o₁ p₁ → Takes l o₂ p₂ → Takes (with_field l o₁ p₁) o₂ p₂
takes_again l o₁ p₁ o₂ p₂ t u =
    record { given = rw (field_size l o₁ p₁) at (taken_valid l o₁ p₁ t); some = u.some; most = u.most; room = u.room }

-- and none beside these
takes_before : (l : Layout) (o₁ p₁ o₂ p₂ : ℕ) → Takes l o₁ p₁ → Takes (with_field l o₁ p₁) o₂ p₂ → Takes l o₂ p₂
takes_before l o₁ p₁ o₂ p₂ t u = record { given = t.given; some = u.some; most = u.most; room = u.room }

-- both set, one after the other
set_both : (l : Layout) (o₁ p₁ o₂ p₂ : ℕ) → Takes l o₁ p₁ → Takes l o₂ p₂
    → after_both l o₁ p₁ o₂ p₂ ≡ record { answer = Done 0; layout = with_field (with_field l o₁ p₁) o₂ p₂ }
set_both l o₁ p₁ o₂ p₂ t u = rw (set l o₁ p₁ t) (set (with_field l o₁ p₁) o₂ p₂ (takes_again l o₁ p₁ o₂ p₂ t u))

again : (l : Layout) (o p : ℕ) → Takes l o p → after_both l o p o p ≡ set_field l o p
again l o p t =
    let e : max (max l.size.0 (bytes_for (o + p))) (bytes_for (o + p)) ≡ max l.size.0 (bytes_for (o + p)) = omega arith in
    rw (set_both l o p o p t t, set l o p t, e)

-- what one valid layout takes, every other one takes
takes_alike : (l k : Layout) (o p : ℕ) → Valid k → Takes l o p → Takes k o p
takes_alike l k o p v t = record { given = v; some = t.some; most = t.most; room = t.room }

alike : (l k : Layout) (o p : ℕ) → Valid l → Valid k → (set_field l o p).answer ≡ (set_field k o p).answer
alike l k o p v w = ⊎_elim both (λ e. ⊎_elim (λ u. both (takes_alike k l o p v u)) (neither e) (end k o p)) (end l o p)
  where
    neither : set_field l o p ≡ refusal l → set_field k o p ≡ refusal k → (set_field l o p).answer ≡ (set_field k o p).answer
    neither e f = rw (e, f)

    both : Takes l o p → (set_field l o p).answer ≡ (set_field k o p).answer
    both t = rw (set l o p t, set k o p (takes_alike l k o p w t))

pub field_laws : (l : Layout) (o p : ℕ) → FieldLaws l o p
field_laws l o p =
    record {
      bytes = bytes_least (o + p);
      done = λ t. ap (λ (r : Edited). r.answer) (set l o p t);
      takes = done_takes l o p;
      refused = λ n. ⊎_elim (λ t. absurd (n t)) (λ e. e) (end l o p);
      alike = λ k. alike l k o p;
      exact = λ d. rw (set l o p (done_takes l o p d)) (record { offset = refl; precision = refl; size = refl; others = refl });
      twice = ⊎_elim (again l o p) (λ e. ap (λ (r : Edited). set_field r.layout o p) e) (end l o p);
    }

pub two_fields : (l : Layout) (o₁ p₁ o₂ p₂ : ℕ) → TwoFields l o₁ p₁ o₂ p₂
two_fields l o₁ p₁ o₂ p₂ d₁ d₂ =
    let t = done_takes l o₁ p₁ d₁ in
    let u = takes_before l o₁ p₁ o₂ p₂ t (done_takes (with_field l o₁ p₁) o₂ p₂ (rw (set l o₁ p₁ t) at d₂)) in
    let both = set_both l o₁ p₁ o₂ p₂ t u in
    let alone = set l o₂ p₂ u in
    record {
      last = ap (λ (r : Edited). r.layout) both;
      alone = ap (λ (r : Edited). r.answer) alone;
      in_size = rw (both, alone);
      only_larger = λ h.
          let k : bytes_for (o₁ + p₁) ≤ max l.size.0 (bytes_for (o₂ + p₂)) = rw alone at h in
          let e : max (max l.size.0 (bytes_for (o₁ + p₁))) (bytes_for (o₂ + p₂)) ≡ max l.size.0 (bytes_for (o₂ + p₂)) = omega arith in
          rw (both, alone, e);
    }

pub from_size_one : (l : Layout) → FromSizeOne l
from_size_one l v s =
    let t : Takes l 0 40 = record { given = v; some = omega arith; most = omega arith; room = omega arith } in
    let u : Takes l 0 8 = record { given = v; some = omega arith; most = omega arith; room = omega arith } in
    record { both = rw (set_both l 0 40 0 8 t u, s); alone = rw (set l 0 8 u, s) }

-- The cases of `noting`, and what kind 0 says of it. Assumes nothing.
use mathlib.Core.Path.{◌≡◌, refl, sym, ap}
use mathlib.Core.Bool.{Bool, true, false, cond, true≢false, false≢true}
use Prim.Native.Nat.{ℕ}
use native.Mathlib.Omega.{arith}
use lib.Dec.{eqb}
use borrow.Author.Tests.{eqb-true, eqb-false, eq-eqb, ne_eqb}
use Rattle.answer.specs.declared.Given.{Given}
use Rattle.number.specs.declared.Fitted.{Fitted}
use Rattle.reals.specs.Convert.{noting}

pub noting_lost : (g : Given) (l : Bool) (f : Fitted) → f.kind ≡ 0 → l ≡ true → record { raw = f.raw; kind = 5; given = g } ≡ noting g l f
noting_lost g true f e t = simp (eq-eqb f.kind 0 e)
noting_lost g false f e t = absurd (false≢true t)

pub noting_kept : (g : Given) (l : Bool) (f : Fitted) → f.kind ≡ 0 → l ≡ false → record { raw = f.raw; kind = f.kind; given = g } ≡ noting g l f
noting_kept g false f e t = simp (eq-eqb f.kind 0 e) (ap (λ (k : ℕ). record { raw = f.raw; kind = k; given = g }) e)
noting_kept g true f e t = absurd (true≢false t)

pub noting_raised : (g : Given) (l : Bool) (f : Fitted) → (f.kind ≡ 0 → ⊥) → record { raw = f.raw; kind = f.kind; given = g } ≡ noting g l f
noting_raised g l f e = simp (ne_eqb f.kind 0 e)

-- where nothing is lost, nothing is noted
pub noting_nothing : (g : Given) (f : Fitted) → noting g false f ≡ record { raw = f.raw; kind = f.kind; given = g }
noting_nothing g f = go (eqb f.kind 0) refl
  where
    go : (t : Bool) → eqb f.kind 0 ≡ t → noting g false f ≡ record { raw = f.raw; kind = f.kind; given = g }
    go true e = sym (noting_kept g false f (eqb-true _ _ e) refl)
    go false e = sym (noting_raised g false f (eqb-false _ _ e))

-- kind 0 after it: in range, and nothing was lost
pub noting_zero : (g : Given) (l : Bool) (f : Fitted) → (noting g l f).kind ≡ 0 → (f.kind ≡ 0) × (l ≡ false)
noting_zero g l f e = go (eqb f.kind 0) refl l e
  where
    go : (t : Bool) → eqb f.kind 0 ≡ t → (l : Bool) → ◌≡◌ {A = ℕ} (cond t (cond l 5 0) f.kind) 0 → (f.kind ≡ 0) × (l ≡ false)
    go true h false e = (eqb-true _ _ h, refl)
    go true h true e = absurd (omega (arith, e))
    go false h l e = absurd (eqb-false _ _ h e)

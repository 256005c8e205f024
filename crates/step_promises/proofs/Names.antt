-- The names' condition, tested. Assumes nothing.
use mathlib.Core.Path.{◌≡◌, refl, sym, subst}
use mathlib.Core.Logic.{⊎_elim, ◌↔◌}
use mathlib.Core.Bool.{Bool, true, false, ◌&&◌, false≢true}
use mathlib.Core.List.{List}
use Prim.Native.Nat.{ℕ}
use Rattle.datatype.specs.Datatype.{Datatype, Members}
use Rattle.datatype.specs.Datatype.Datatype.{leaf, compound, array}
use Rattle.datatype.specs.Datatype.Members.{empty, member}
use Rattle.datatype.specs.Paths.{Lookup, on_found, member_named, members_of, base_of}
use Rattle.datatype.specs.Paths.Lookup.{missing, found}
use Rattle.datatype.proofs.Tests.{and_true}
use Rattle.datatype.proofs.Ways.{not_found, found_cases, same_type}
use Rattle.step_promises.specs.TwoSteps.{Shared, Level, SameNames}
use Rattle.step_promises.specs.TwoSteps.Level.{here, inside, element}

-- each member of C is in both A and B, and the same holds inside it, or is in neither
unfoldable mutual
  pub same_names : Datatype → Datatype → Datatype → Bool
  same_names A B (leaf z) = true
  same_names A B (compound w ns) = same_in (members_of A) (members_of B) ns
  same_names A B (array w ds C) = same_names (base_of A) (base_of B) C

  pub same_in : Members → Members → Members → Bool
  same_in ls ms empty = true
  same_in ls ms (member x o C word ns) =
      on_found (λ i A. on_found (λ j B. same_names A B C) false (member_named x ms)) (on_found (λ j B. false) true (member_named x ms)) (member_named x ls)
      && same_in ls ms ns

-- what is tested of a member
abbrev Tested : Lookup → Lookup → Datatype → Bool
Tested l m C = on_found (λ i A. on_found (λ j B. same_names A B C) false m) (on_found (λ j B. false) true m) l

tested : (ls ms ns : Members) → same_in ls ms ns ≡ true → (x : List ℕ) (k : ℕ) (C : Datatype) → member_named x ns ≡ found k C
    → Tested (member_named x ls) (member_named x ms) C ≡ true
unfolding member_named same_names
tested ls ms empty e x k C n = not_found n
tested ls ms (member y o D word ns) e x k C n =
    let t : (Tested (member_named y ls) (member_named y ms) D ≡ true) × (same_in ls ms ns ≡ true) =
    and_true (Tested (member_named y ls) (member_named y ms) D) (same_in ls ms ns) e in
    ⊎_elim
    (λ (f : (x ≡ y) × (found o D ≡ found k C)).
    subst (λ (T : Datatype). Tested (member_named x ls) (member_named x ms) T ≡ true) (same_type f.1)
    (subst (λ (z : List ℕ). Tested (member_named z ls) (member_named z ms) D ≡ true) (sym f.0) t.0))
    (λ (f : member_named x ns ≡ found k C). tested ls ms ns t.1 x k C f) (found_cases x y o k D C word ns n)

in_first_lem : (l m : Lookup) (C : Datatype) → Tested l m C ≡ true → (j : ℕ) (B : Datatype) → m ≡ found j B → (i : ℕ) × (A : Datatype) × (l ≡ found i A)
in_first_lem missing missing C e j B f = not_found f
in_first_lem missing (found j B) C e j' B' f = absurd (false≢true e)
in_first_lem (found i A) m C e j B f = (i, A, refl)

in_second_lem : (l m : Lookup) (C : Datatype) → Tested l m C ≡ true → (i : ℕ) (A : Datatype) → l ≡ found i A → (j : ℕ) × (B : Datatype) × (m ≡ found j B)
in_second_lem missing m C e i A f = not_found f
in_second_lem (found i A) missing C e i' A' f = absurd (false≢true e)
in_second_lem (found i A) (found j B) C e i' A' f = (j, B, refl)

at_level : {A B C : Datatype} {ls ms ns : Members} → Level A B C ls ms ns → same_names A B C ≡ true → (x : List ℕ) → Shared x ns ms ↔ Shared x ns ls
unfolding same_names
at_level (here {ls = ls} {ms = ms} {ns = ns}) e x = (
  λ (s : Shared x ns ms).
      (s.0, in_first_lem (member_named x ls) (member_named x ms) s.0.1 (tested ls ms ns e x s.0.0 s.0.1 s.0.2) s.1.0 s.1.1 s.1.2),
  λ (s : Shared x ns ls).
      (s.0, in_second_lem (member_named x ls) (member_named x ms) s.0.1 (tested ls ms ns e x s.0.0 s.0.1 s.0.2) s.1.0 s.1.1 s.1.2),
)
at_level (inside {k = k} {ls = ls} {ms = ms} {ns = ns} {C = C} y a b c l) e x = at_level l (rw (a, b) at (tested ls ms ns e y k C c)) x
at_level (element l) e x = at_level l e x

-- Where the test says so, the condition holds.
pub same_names_lem : (A B C : Datatype) → same_names A B C ≡ true → SameNames A B C
same_names_lem A B C e = record { at = λ ls ms ns l x. at_level l e x }

-- Datatypes without a real: no field of theirs on the way is one. Assumes nothing.
use mathlib.Core.Path.{◌≡◌, subst}
use mathlib.Core.Logic.{⊎_elim}
use mathlib.Core.List.{List}
use Prim.Native.Nat.{ℕ}
use native.Mathlib.Omega.{arith}
use Rattle.layout.specs.declared.Layout.{Layout}
use Rattle.datatype.specs.Datatype.{Symbol, Leaf, Datatype, Members}
use Rattle.datatype.specs.Datatype.Leaf.{atomic, enumeration}
use Rattle.datatype.specs.Datatype.Datatype.{leaf, compound, array}
use Rattle.datatype.specs.Datatype.Members.{empty, member}
use Rattle.datatype.specs.Paths.{member_named}
use Rattle.datatype.specs.Paths.Lookup.{found}
use Rattle.datatype.specs.WellFormed.{WellFormed}
use Rattle.datatype.proofs.Ways.{Way, not_found, found_cases, same_type, match_way}
use Rattle.datatype.proofs.Ways.Way.{here, inside, element}
use Rattle.step_promises.specs.TwoSteps.{IsReal, NoReals}

abbrev mutual
  pub WithoutReal : Datatype → Type 0
  WithoutReal (leaf x) = ¬ (IsReal x)
  WithoutReal (compound z ms) = EachWithoutReal ms
  WithoutReal (array z ds T) = WithoutReal T

  pub EachWithoutReal : Members → Type 0
  EachWithoutReal empty = Unit {0}
  EachWithoutReal (member x o T word ms) = WithoutReal T × EachWithoutReal ms

found_without : (ms : Members) (n : List ℕ) (o : ℕ) (T : Datatype) → EachWithoutReal ms → member_named n ms ≡ found o T → WithoutReal T
unfolding member_named
found_without empty n o T h e = not_found e
found_without (member x q X word ms) n o T h e =
    ⊎_elim (λ (f : (n ≡ x) × (found q X ≡ found o T)). subst WithoutReal (same_type f.1) h.0)
    (λ (f : member_named n ms ≡ found o T). found_without ms n o T h.1 f) (found_cases n x q o X T word ms e)

way_without : {S D : Datatype} {a b : ℕ} {x y : Leaf} → Way S D a b x y → WithoutReal S → ¬ (IsReal x)
way_without here h = h
way_without (inside {p = p} {ss = ss} {S = S} n i j t) h = way_without t (found_without ss n p S h i)
way_without (element k e l t) h = way_without t h

-- where neither A nor B has a real, none is on the way
pub no_reals : (A B C : Datatype) → WellFormed C → WithoutReal A → WithoutReal B → NoReals A B C
no_reals A B C h a b =
    record { of_A = λ c i x z m. way_without (match_way C A h m) a; of_B = λ c i y z m. way_without (match_way C B h m) b }

-- an int is none, and an enum is none
pub int_no_real : (l : Layout) → ¬ (IsReal (atomic l))
int_no_real l (k, e) = let z : ◌≡◌ {A = ℕ} 0 1 = cc in absurd (omega arith)

pub enum_no_real : (l : Layout) (ss : List Symbol) → ¬ (IsReal (enumeration l ss))
enum_no_real l ss (k, e) = let z : ◌≡◌ {A = ℕ} 0 1 = cc in absurd (omega arith)

-- Matches go on: what C has from B, and B from A, C has from A, and what C has from A it has by way of B. Assumes nothing.
use mathlib.Core.Path.{◌≡◌, sym, ◌∙◌, subst, subst₂}
use mathlib.Core.Bool.{true}
use mathlib.Core.List.{List}
use Prim.Native.Nat.{ℕ, ◌<◌}
use Rattle.datatype.specs.Datatype.{Leaf, Datatype, Members, elements}
use Rattle.datatype.specs.Paths.{has_path}
use Rattle.datatype.specs.HasPath.{HasPath}
use Rattle.datatype.specs.HasPath.HasPath.{same_class, enums, int_to_real_lem, real_to_int_lem, reals, arrays, compounds}
use Rattle.datatype.specs.Matches.{match_at}
use Rattle.datatype.specs.Matches.Match.{matched}
use Rattle.datatype.specs.WellFormed.{WellFormed}
use Rattle.datatype.proofs.HasPath.{has_path_lem}
use Rattle.datatype.proofs.Ways.{Way, flip, match_way, way_match}
use Rattle.datatype.proofs.Ways.Way.{here, inside, element}
use Rattle.step_promises.specs.TwoSteps as steps
use Rattle.step_promises.specs.TwoSteps.{HasMember, Level, SameNames}

-- ---- ways

-- at every level, the member names that D shares with S it shares with T
abbrev Reaches : Datatype → Datatype → Datatype → Type 0
Reaches T S D = (ls ms ns : Members) → Level T S D ls ms ns → (x : List ℕ) → HasMember x ns → HasMember x ms → HasMember x ls

-- what T has on a way that S and D have
record OnWay (T S D : Datatype) (a b : ℕ) (x y : Leaf) : Type 0 where
  at : ℕ
  leaf : Leaf
  to_first : Way T S at a leaf x
  to_last : Way T D at b leaf y

on_way : {S D T : Datatype} {a b : ℕ} {x y : Leaf} → Way S D a b x y → HasPath T D → Reaches T S D → OnWay T S D a b x y
on_way here (same_class {l} e) names = record { at = 0; leaf = _; to_first = here; to_last = here }
on_way here enums names = record { at = 0; leaf = _; to_first = here; to_last = here }
on_way here (int_to_real_lem e) names = record { at = 0; leaf = _; to_first = here; to_last = here }
on_way here (real_to_int_lem e) names = record { at = 0; leaf = _; to_first = here; to_last = here }
on_way here reals names = record { at = 0; leaf = _; to_first = here; to_last = here }
on_way (inside {p = p} {o = o} {S = S} {T = D} n i j t) (compounds h) names =
    let m = names _ _ _ steps.Level.here n (o, D, j) (p, S, i) in
    let w = on_way t (h n m.0 o m.1 D j m.2) (λ ls ms ns l. names ls ms ns (steps.Level.inside n m.2 i j l)) in
    record { at = _; leaf = w.leaf; to_first = inside n m.2 i w.to_first; to_last = inside n m.2 j w.to_last }
on_way (element {es = es} {ds = ds} k e l t) (arrays f h) names =
    let w = on_way t h (λ ls ms ns v. names ls ms ns (steps.Level.element v)) in
    record {
      at = _;
      leaf = w.leaf;
      to_first = element k (f ∙ sym e) (subst (λ (v : List ℕ). k < elements v) (sym e) l) w.to_first;
      to_last = element k f l w.to_last;
    }

-- ---- levels and names, the other way round

turned : {A B C : Datatype} {ls ms ns : Members} → Level A B C ls ms ns → Level B A C ms ls ns
turned steps.Level.here = steps.Level.here
turned (steps.Level.inside x i j k l) = steps.Level.inside x j i k (turned l)
turned (steps.Level.element l) = steps.Level.element (turned l)

from_B : (A B C : Datatype) → SameNames A B C → Reaches A B C
from_B A B C names ls ms ns l x n m = ((names.at ls ms ns l x).0 (n, m)).1

from_A : (A B C : Datatype) → SameNames A B C → Reaches B A C
from_A A B C names ms ls ns l x n m = ((names.at ls ms ns (turned l) x).1 (n, m)).1

-- ---- the laws

same_at : {a b : ℕ} {x y u v : Leaf} → matched a x y ≡ matched b u v → a ≡ b
same_at e = cc

same_leaf : {a b : ℕ} {x y u v : Leaf} → matched a x y ≡ matched b u v → x ≡ u
same_leaf e = cc

-- a field of C that has one from B, that one from A, and A's to C
pub record Composed (A B C : Datatype) (a b c : ℕ) (x y z : Leaf) : Type 0 where
  pub first : match_at A B b ≡ matched a x y
  pub second : match_at B C c ≡ matched b y z
  pub whole : match_at A C c ≡ matched a x z

module _ (A B C : Datatype) (f : WellFormed A) (g : WellFormed B) (h : WellFormed C) (names : SameNames A B C) where
  -- what C has from B, it has from A
  pub by_second : has_path A C ≡ true → (c b : ℕ) (y z : Leaf) → match_at B C c ≡ matched b y z → (a : ℕ) × (x : Leaf) × Composed A B C a b c x y z
  by_second path c b y z e =
      let w = on_way (match_way C B h e) ((has_path_lem A C h).0 path) (from_B A B C names) in
      (w.at, w.leaf, record { first = way_match w.to_first f g; second = e; whole = way_match w.to_last f h })

  -- what C has from A, it has by way of B
  pub by_whole : has_path B C ≡ true → (c a : ℕ) (x z : Leaf) → match_at A C c ≡ matched a x z → (b : ℕ) × (y : Leaf) × Composed A B C a b c x y z
  by_whole path c a x z e =
      let w = on_way (match_way C A h e) ((has_path_lem B C h).0 path) (from_A A B C names) in
      (w.at, w.leaf, record { first = way_match (flip w.to_first) f g; second = way_match w.to_last g h; whole = e })

  -- Matches compose.
  pub composed : has_path A C ≡ true → (a b c : ℕ) (x y z : Leaf) → match_at B C c ≡ matched b y z → match_at A B b ≡ matched a x y → match_at A C c ≡ matched a x z
  composed path a b c x y z second first =
      let w = by_second path c b y z second in
      let e : matched w.0 w.1 y ≡ matched a x y = sym w.2.first ∙ first in
      subst₂ (λ (i : ℕ) (u : Leaf). match_at A C c ≡ matched i u z) (same_at e) (same_leaf e) w.2.whole

-- What the route of an entry tells of its leaf: what the ways of converting it ask for, and what they give. Assumes nothing.
use mathlib.Core.Path.{◌≡◌, refl, sym, ap, subst, ◌∙◌}
use mathlib.Core.Bool.{true, false}
use mathlib.Core.List.{List}
use Prim.Native.Nat.{ℕ, ◌+◌, ◌-◌, ◌≤◌, ◌<◌}
use native.Mathlib.Nat.{mod-lt}
use native.Mathlib.Omega.{arith}
use lib.ListN.{get_or, length}
use lib.Pow.{pow_pos}
use Rattle.layout.specs.declared.Layout.{Layout}
use Rattle.layout.specs.Layout.{Valid}
use Rattle.number.specs.declared.Fitted.{Fitted}
use Rattle.number.specs.Number.{number_at, fitted}
use Rattle.number.specs.Place.{raw_at, stored}
use Rattle.table.specs.Table.{class_word, layout_at}
use Rattle.table.specs.Words.{Reads}
use Rattle.entry_code.specs.Code.{route_in}
use Rattle.easy.specs.Words.{EasyAt}
use Rattle.easy.proofs.Easy.{number}
use Rattle.plans.specs.PlanWords.{is_real, one_real, words_place, Pair, pair_becomes, RealAt}
use Rattle.plans.specs.PlanEntries.{EntryReady}
use Rattle.plans.specs.declared.PlanEntry.{PlanEntry}
use Rattle.plans.specs.LeafSteps.{EnumReady, EnumHere, real_becomes, RealReady}
use Rattle.plans.proofs.LeafSteps.{number_becomes, real_becomes_lem, number_stored, real_stored, real_ready, pair_valid}

-- what the leaf of a pair became: the kind, and the bytes that were dst
abbrev Became : ℕ → ℕ → List ℕ → List ℕ → List ℕ → ℕ → ℕ → ℕ → List ℕ → List ℕ → List ℕ → ℕ → Type 0
Became s d ws wd words k a b src dst out kind =
    (p : Pair s d ws wd words k) → (kind ≡ (pair_becomes p a src).kind) × (out ≡ stored (layout_at wd d) b (pair_becomes p a src).raw dst)

-- entry i, which is e; its words begin at word k, the first of them is w, and o is its route
module _ {n m : ℕ} {e : PlanEntry} {i : ℕ} {ws wd words : List ℕ} (h : EntryReady n m e i ws wd words)
    {k w o : ℕ} (here : k ≡ words_place i) (first : Reads (get_or words k 0) w) (ro : (o ≡ route_in w) × (o < 8)) where
  pub route_is : route_in (get_or words (words_place i) 0) ≡ o
  route_is = rw (← here, ← first.is) (sym ro.0)

  not_enum : o < 4 → class_word wd e.destination ≡ 2 → ⊥
  not_enum low = h.pair.entry.plain (rw route_is low)

  alike : o < 3 → one_real ws e.source wd e.destination ≡ false
  alike low = h.pair.entry.alike (rw route_is low)

  mixed : o ≡ 3 → one_real ws e.source wd e.destination ≡ true
  mixed is = h.pair.entry.mixed (route_is ∙ is)

  easy_here : (o ≡ 0 → ⊥) → o < 3 → EasyAt (layout_at ws e.source) (layout_at wd e.destination) words (words_place i)
  easy_here some low = h.pair.entry.easy (rw route_is (omega arith)) (rw route_is low)

  -- an easy pair
  pub easy_at : (o ≡ 0 → ⊥) → o < 3 → EasyAt (layout_at ws e.source) (layout_at wd e.destination) words k
  easy_at some low = rw here (easy_here some low)

  pub words_room : k + 4 ≤ length words
  words_room = rw here h.room

  module _ (some : o ≡ 0 → ⊥) (low : o < 3) (src : List ℕ) where
    pub easy_kind : (p : Pair e.source e.destination ws wd words (words_place i)) → 0 ≡ (pair_becomes p e.from src).kind
    easy_kind p =
        let l : Layout = layout_at ws e.source in
        let at = easy_here some low in
        ap (λ (f : Fitted). f.kind) (number l (layout_at wd e.destination) at.is at.valid (raw_at l e.from src) (mod-lt _ (pow_pos l.precision))).0
        ∙ (number_becomes p (not_enum (omega arith)) (alike low) e.from src).1

    pub easy_became : (dst out : List ℕ)
        → out ≡ stored (layout_at wd e.destination) e.to (fitted (layout_at wd e.destination) (number_at (layout_at ws e.source) e.from src)).raw dst
        → Became e.source e.destination ws wd words (words_place i) e.from e.to src dst out 0
    easy_became dst out g p =
        (easy_kind p, g ∙ ap (λ (raw : ℕ). stored (layout_at wd e.destination) e.to raw dst) (number_becomes p (not_enum (omega arith)) (alike low) e.from src).0)

  -- any other number
  pub number_kind_is : o < 3 → (src : List ℕ) {kind : ℕ} → kind ≡ (fitted (layout_at wd e.destination) (number_at (layout_at ws e.source) e.from src)).kind
      → (p : Pair e.source e.destination ws wd words (words_place i)) → kind ≡ (pair_becomes p e.from src).kind
  number_kind_is low src g p = g ∙ (number_becomes p (not_enum (omega arith)) (alike low) e.from src).1

  pub number_became : o < 3 → (src dst out : List ℕ) {kind : ℕ}
      → (kind ≡ (fitted (layout_at wd e.destination) (number_at (layout_at ws e.source) e.from src)).kind)
      × (out ≡ stored (layout_at wd e.destination) e.to (fitted (layout_at wd e.destination) (number_at (layout_at ws e.source) e.from src)).raw dst)
      → Became e.source e.destination ws wd words (words_place i) e.from e.to src dst out kind
  number_became low src dst out {kind} g = number_stored src dst out e.from e.to e.source e.destination kind ws wd words (words_place i) (not_enum (omega arith)) (alike low) g

  -- between a real and another leaf
  pub real_asked : o ≡ 3 → RealReady n e.from e.source e.destination ws wd
  real_asked is = real_ready n e.from e.source e.destination ws wd words (words_place i) h.pair (mixed is) h.read

  pub real_kind_is : o ≡ 3 → (src : List ℕ) {kind : ℕ} → kind ≡ (real_becomes ws e.source wd e.destination e.from src).kind
      → (p : Pair e.source e.destination ws wd words (words_place i)) → kind ≡ (pair_becomes p e.from src).kind
  real_kind_is is src g p = g ∙ ap (λ (f : Fitted). f.kind) (real_becomes_lem p (not_enum (omega arith)) (mixed is) e.from src)

  pub real_became : o ≡ 3 → (src dst out : List ℕ) {kind : ℕ}
      → (kind ≡ (real_becomes ws e.source wd e.destination e.from src).kind)
      × (out ≡ stored (layout_at wd e.destination) e.to (real_becomes ws e.source wd e.destination e.from src).raw dst)
      → Became e.source e.destination ws wd words (words_place i) e.from e.to src dst out kind
  real_became is src dst out {kind} g =
      real_stored src dst out e.from e.to e.source e.destination kind ws wd words (words_place i) (not_enum (omega arith)) (mixed is) g

  -- an enum
  pub enum_ready : 4 ≤ o → EnumReady n e.from e.source e.destination ws wd words k
  enum_ready high = rw here (record { pair = h.pair; read = h.read; room = h.room; enum = rw route_is high })

  pub enum_here : 4 ≤ o → o < 6 → e.from + 8 ≤ n → EnumHere n m e.to e.from e.source e.destination ws wd words k
  enum_here high fast room = rw here (record { pair = h.pair; read = room; write = h.write; room = h.room; enum = rw route_is high; fast = rw route_is fast })

  pub enum_kind_is : (src : List ℕ) {kind : ℕ} → ((p : Pair e.source e.destination ws wd words k) → kind ≡ (pair_becomes p e.from src).kind)
      → (p : Pair e.source e.destination ws wd words (words_place i)) → kind ≡ (pair_becomes p e.from src).kind
  enum_kind_is src {kind} g = subst (λ (x : ℕ). (p : Pair e.source e.destination ws wd words x) → kind ≡ (pair_becomes p e.from src).kind) here g

  pub enum_became : (src dst out : List ℕ) {kind : ℕ} → Became e.source e.destination ws wd words k e.from e.to src dst out kind
      → Became e.source e.destination ws wd words (words_place i) e.from e.to src dst out kind
  enum_became src dst out {kind} g = subst (λ (x : ℕ). Became e.source e.destination ws wd words x e.from e.to src dst out kind) here g

-- the same by the route alone
module _ {n m : ℕ} {e : PlanEntry} {i : ℕ} {ws wd words : List ℕ} (h : EntryReady n m e i ws wd words) (is : route_in (get_or words (words_place i) 0) ≡ 3) where
  pub real_here : RealReady n e.from e.source e.destination ws wd
  real_here = real_ready n e.from e.source e.destination ws wd words (words_place i) h.pair (h.pair.entry.mixed is) h.read

  -- its words begin at word k
  module _ {k : ℕ} (here : k ≡ words_place i) where
    pub real_room : k + 4 ≤ length words
    real_room = rw here h.room

    -- the second of them is y
    pub real_at : {y : ℕ} → Reads (get_or words (k + 1) 0) y → (y ≡ 0 → ⊥) → RealAt (layout_at ws e.source) (layout_at wd e.destination) (is_real ws e.source) words k
    real_at {y} second some =
        let more : 1 ≤ get_or words (k + 1) 0 = rw (← second.is) (omega arith) in
        rw here (h.pair.entry.real is (rw here at more))

-- the layouts of an entry are valid
pub both_valid : {n m : ℕ} {e : PlanEntry} {i : ℕ} {ws wd words : List ℕ} → EntryReady n m e i ws wd words
    → Valid (layout_at ws e.source) × Valid (layout_at wd e.destination)
both_valid h = pair_valid h.pair

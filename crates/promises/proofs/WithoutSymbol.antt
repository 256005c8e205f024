-- Where a destination enum has every symbol of its source, kind 3 is raised by the numbers without a symbol alone. Assumes nothing.
use mathlib.Core.Path.{◌≡◌, refl, sym, ap, ◌∙◌, subst}
use mathlib.Core.Logic.{◌↔◌}
use mathlib.Core.Bool.{Bool, true, false, cond, false≢true}
use mathlib.Core.List.{List, [], ◌∷◌, Memᴰ}
use mathlib.Core.Option.{Option, none, some}
use Prim.Native.Nat.{ℕ}
use native.Mathlib.Omega.{arith}
use lib.IntN.{ℤ}
use Rattle.layout.specs.declared.Layout.{Layout}
use Rattle.datatype.specs.Datatype.{Symbol, Leaf, same}
use Rattle.datatype.specs.Datatype.Leaf.{atomic, enumeration, real}
use Rattle.datatype.specs.Symbols.{on_some, same_number, symbol_of, number_of}
use Rattle.datatype.specs.Paths.{leaf_path}
use Rattle.datatype.specs.SymbolSets.{Named}
use Rattle.datatype.specs.WellFormed.{WellFormedLeaf}
use Rattle.datatype.proofs.Tests.{nothing, same_refl}
use Rattle.records.specs.Leaf.{given_of, translated_to, untranslated, converted}
use Rattle.records.proofs.OneLeaf.{listed_in_range}

-- the symbol of a number stands in its enum
symbol_named : (z : ℤ) (ss : List Symbol) (x : List ℕ) → symbol_of z ss ≡ some x → Named x ss
unfolding symbol_of
symbol_named z [] x e = nothing e
symbol_named z (s ∷ ss) x e = go (same_number z s.number) e (symbol_named z ss x)
  where
    go : (t : Bool) → cond t (some s.name) (symbol_of z ss) ≡ some x → (symbol_of z ss ≡ some x → Named x ss) → Named x (s ∷ ss)
    go true f next = let i : s.name ≡ x = cc in (s, Memᴰ.head refl, i)
    go false f next = let n = next f in (n.0, Memᴰ.tail n.1, n.2)

-- and a symbol that stands there has a number
named_number : (x : List ℕ) (ts : List Symbol) (s : Symbol) → Memᴰ s ts → s.name ≡ x → (w : ℤ) × (number_of x ts ≡ some w)
unfolding number_of
named_number x (t ∷ ts) s (Memᴰ.head p) e = (t.number, rw (← e, p, same_refl t.name))
named_number x (t ∷ ts) s (Memᴰ.tail m) e = go (same x t.name) (named_number x ts s m e)
  where
    go : (b : Bool) → (w : ℤ) × (number_of x ts ≡ some w) → (w : ℤ) × (cond b (some t.number) (number_of x ts) ≡ some w)
    go true n = (t.number, refl)
    go false n = n
named_number x [] s x3 e = elim x3 [ ]

module _ (l k : Layout) (ss ts : List Symbol) (z : ℤ) (f : WellFormedLeaf (enumeration k ts)) (keeps : (x : List ℕ) → Named x ss → Named x ts) where
  -- the kind, by the destination's number and by the source's symbol
  abbrev by_number : Option ℤ → ℕ
  by_number o = (on_some (translated_to k (given_of (enumeration l ss) z)) (untranslated k (given_of (enumeration l ss) z)) o).kind

  abbrev by_symbol : Option (List ℕ) → ℕ
  by_symbol o = by_number (on_some (λ x. number_of x ts) none o)

  quiet : (x : List ℕ) → symbol_of z ss ≡ some x → by_symbol (some x) ≡ 0
  quiet x e =
      let n : Named x ts = keeps x (symbol_named z ss x e) in
      let w : (w : ℤ) × (number_of x ts ≡ some w) = named_number x ts n.0 n.1 n.2 in
      ap by_number w.1 ∙ listed_in_range k ts x w.0 f.symbols w.1

  enum_kind_3 : (converted (enumeration l ss) (enumeration k ts) z).kind ≡ 3 ↔ symbol_of z ss ≡ none
  enum_kind_3 = (λ e. at (symbol_of z ss) refl e, λ e. ap by_symbol e)
    where
      at : (o : Option (List ℕ)) → symbol_of z ss ≡ o → by_symbol o ≡ 3 → o ≡ none
      at none q e = refl
      at (some x) q e = absurd (omega (arith, sym (quiet x q) ∙ e))

-- of two leaves between which a path runs, where the first is an enum
pub kind_3_of : (x y : Leaf) (z : ℤ) (l : Layout) (ss : List Symbol) → x ≡ enumeration l ss → leaf_path x y ≡ true → WellFormedLeaf y
    → ((k : Layout) (ts : List Symbol) → y ≡ enumeration k ts → (n : List ℕ) → Named n ss → Named n ts) → (converted x y z).kind ≡ 3 ↔ symbol_of z ss ≡ none
kind_3_of x (atomic k) z l ss e p f keeps = absurd (false≢true (subst (λ (u : Leaf). leaf_path u (atomic k) ≡ true) e p))
kind_3_of x (enumeration k ts) z l ss e p f keeps =
    subst (λ (u : Leaf). (converted u (enumeration k ts) z).kind ≡ 3 ↔ symbol_of z ss ≡ none) (sym e) (enum_kind_3 l k ss ts z f (keeps k ts refl))
kind_3_of x (real k) z l ss e p f keeps = absurd (false≢true (subst (λ (u : Leaf). leaf_path u (real k) ≡ true) e p))

-- A log and what a conversion made of it without an exception have no difference. Assumes nothing.
use mathlib.Core.Path.{◌≡◌, refl, sym}
use mathlib.Core.Logic.{inl}
use mathlib.Core.Bool.{true}
use mathlib.Core.List.{List, []}
use mathlib.Core.Option.{Option, none, some}
use Prim.Native.Nat.{ℕ}
use lib.IntN.{ℤ}
use Rattle.reals.specs.Worth.{worth}
use Rattle.layout.specs.declared.Layout.{Layout}
use Rattle.datatype.specs.Datatype.{Symbol, Leaf}
use Rattle.datatype.specs.Datatype.Leaf.{atomic, enumeration, real}
use Rattle.datatype.specs.Symbols.{on_some, symbol_of, number_of}
use Rattle.datatype.specs.WellFormed.{Symbols, WellFormedLeaf}
use Rattle.datatype.proofs.Tests.{nothing}
use Rattle.records.specs.Leaf.{translated, real_bits, converted}
use Rattle.records.specs.Arrival.{stands_for, Arrives}
use Rattle.records.proofs.OneLeaf.{number_symbol, InRange, arrives}
use Rattle.differences.specs.Same.{same_in}
use Rattle.differences.specs.IsSame.{OneSymbol, IsSame}
use Rattle.differences.proofs.IsSame.{worth_same, is_same}

-- a number that was translated has the symbol of the one that it came from
symbol_same : (l : Layout) (ss ts : List Symbol) (z w : ℤ) → Symbols l ts → translated ss ts z ≡ some w → OneSymbol ss ts z w
symbol_same l ss ts z w g e = go (symbol_of z ss) refl e
  where
    go : (o : Option (List ℕ)) → symbol_of z ss ≡ o → on_some (λ x. number_of x ts) none o ≡ some w → OneSymbol ss ts z w
    go none q h = nothing h
    go (some x) q h = (x, q, number_symbol l ts w x g h)

-- a number that was read has no symbol where there are none
no_symbol : {A : Type 0} (ts : List Symbol) (z w : ℤ) → translated [] ts z ≡ some w → A
unfolding symbol_of
no_symbol ts z w e = nothing e

arrived : (x y : Leaf) (z w : ℤ) → WellFormedLeaf y → Arrives x y z w → IsSame x y z w
arrived (atomic k) (atomic l) z w g h = sym h
arrived (atomic k) (enumeration l ts) z w g h = no_symbol ts z w h
arrived (atomic k) (real l) z w g h = (worth_same (worth (real_bits w)) z).0 h
arrived (enumeration k ss) (atomic l) z w g h = sym h
arrived (enumeration k ss) (enumeration l ts) z w g h = inl (symbol_same l ss ts z w g.symbols h)
arrived (enumeration k ss) (real l) z w g h = (worth_same (worth (real_bits w)) z).0 h
arrived (real k) (atomic l) z w g h = (worth_same (worth (real_bits z)) w).0 h
arrived (real k) (enumeration l ts) z w g h = no_symbol ts z w h
arrived (real k) (real l) z w g h = sym h

pub arrived_same : (x y : Leaf) (z w : ℤ) → WellFormedLeaf y → Arrives x y z w → same_in x y z w ≡ true
arrived_same x y z w g h = (is_same x y z w).1 (arrived x y z w g h)

-- what a number became without an exception is the same as the number
pub converted_same : (x y : Leaf) (z : ℤ) → WellFormedLeaf x → WellFormedLeaf y → InRange x z → (converted x y z).kind ≡ 0
    → same_in x y z (stands_for y (converted x y z).raw) ≡ true
converted_same x y z f g h e = arrived_same x y z (stands_for y (converted x y z).raw) g (arrives x y z f g h e)

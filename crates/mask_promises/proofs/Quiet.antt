-- Significant bits whose number raises nothing: 0 of an int, a bits or a real, and of an enum the number of one of its symbols. Assumes nothing.
use mathlib.Core.Path.{◌≡◌, refl, ap, ◌∙◌}
use mathlib.Core.Bool.{Bool, true, false, cond, false≢true}
use mathlib.Core.List.{List, [], ◌∷◌, Memᴰ}
use mathlib.Core.Option.{Option, none, some}
use Prim.Native.Nat.{ℕ, ◌-◌, ◌^◌, ◌<◌}
use native.Mathlib.Omega.{arith}
use lib.IntN.{ℤ, pos}
use lib.Pow.{pow_pos}
use Rattle.layout.specs.declared.Layout.{Layout}
use Rattle.number.specs.declared.Fitted.{Fitted}
use Rattle.number.specs.Number.{valued, number_given, fitted_to, fitted}
use Rattle.number.proofs.Range.{valued_low, unsigned_inside, signed_inside}
use Rattle.number.proofs.RoundTrip.{fitted_back, fitted_lt}
use Rattle.reals.specs.Worth.{worth}
use Rattle.reals.specs.Nearest.{magnitude_bits}
use Rattle.reals.specs.Convert.{int_to_real, real_to_int, real_to_int_of}
use Rattle.datatype.specs.Datatype.{Symbol, Leaf, layout_of, same}
use Rattle.datatype.specs.Datatype.Leaf.{atomic, enumeration, real}
use Rattle.datatype.specs.Symbols.{on_some, symbol_of, number_of}
use Rattle.datatype.specs.Paths.{leaf_path}
use Rattle.datatype.specs.SymbolSets.{Named}
use Rattle.datatype.specs.WellFormed.{WellFormedLeaf, Enumeration}
use Rattle.datatype.proofs.Tests.{same_refl, sameNumber_refl}
use Rattle.records.specs.Leaf.{translated, translated_to, untranslated, converted}
use Rattle.records.specs.Arrival.{stands_for}
use Rattle.records.proofs.OneLeaf.{listed_in_range}
use Rattle.mask_promises.specs.Bits.{NoValue}

-- significant bits of the leaf x whose number raises nothing in the leaf y
pub record Quiet (x y : Leaf) : Type 0 where
  pub bits : ℕ
  pub fits : bits < 2 ^ (layout_of x).precision
  pub quiet : (converted x y (stands_for x bits)).kind ≡ 0

-- ---- 0

zero_valued : (s : Bool) (p : ℕ) → valued s p 0 ≡ pos 0
zero_valued false p = refl
zero_valued true p = valued_low p 0 (pow_pos (p - 1))

-- 0 fits every range
zero_fits : (s : Bool) (p : ℕ) → (fitted_to s p (pos 0)).kind ≡ 0
zero_fits false p = ap (λ (f : Fitted). f.kind) (unsigned_inside p 0 (omega arith))
zero_fits true p = ap (λ (f : Fitted). f.kind) (signed_inside p 0 (omega arith))

-- and is +0 as a real
zero_to_real : (int_to_real (pos 0)).kind ≡ 0
unfolding int_to_real magnitude_bits worth
zero_to_real = refl

real_to_zero : (l : Layout) → (real_to_int l 0).kind ≡ 0
unfolding real_to_int_of worth
real_to_zero l = rw (zero_fits l.signed l.precision)

zero_quiet : (x y : Leaf) → (converted x y (pos 0)).kind ≡ 0 → Quiet x y
zero_quiet x y e =
    record {
      bits = 0;
      fits = pow_pos (layout_of x).precision;
      quiet = ap (λ (z : ℤ). (converted x y z).kind) (zero_valued (layout_of x).signed (layout_of x).precision) ∙ e;
    }

-- ---- a symbol

-- a name that stands in an enum has a number there
named_number : (x : List ℕ) (ts : List Symbol) → Named x ts → (w : ℤ) × (number_of x ts ≡ some w)
unfolding number_of
named_number x ts (s, m, e) = go ts m
  where
    go : (us : List Symbol) → Memᴰ s us → (w : ℤ) × (number_of x us ≡ some w)
    go (u ∷ us) (Memᴰ.head p) = (u.number, rw (← e, p, same_refl u.name))
    go (u ∷ us) (Memᴰ.tail k) = at (same x u.name) (go us k)
      where
        at : (t : Bool) → ((w : ℤ) × (number_of x us ≡ some w)) → (w : ℤ) × (cond t (some u.number) (number_of x us) ≡ some w)
        at true later = (u.number, refl)
        at false later = later
    go [] x3 = elim x3 [ ]

first_symbol : (s : Symbol) (ss : List Symbol) → symbol_of s.number (s ∷ ss) ≡ some s.name
unfolding symbol_of
first_symbol s ss = rw (sameNumber_refl s.number)

-- the number of the newest symbol
symbol_quiet : (l k : Layout) (s : Symbol) (ss ts : List Symbol) → Enumeration l (s ∷ ss) → Enumeration k ts → Named s.name ts
    → Quiet (enumeration l (s ∷ ss)) (enumeration k ts)
symbol_quiet l k s ss ts f g stands =
    let w = named_number s.name ts stands in
    let e : stands_for (enumeration l (s ∷ ss)) (fitted l s.number).raw ≡ s.number = fitted_back l.signed l.precision s.number f.base.some f.symbols.0.in_range in
    let t : translated (s ∷ ss) ts s.number ≡ some w.0 = ap (on_some (λ x. number_of x ts) none) (first_symbol s ss) ∙ w.1 in
    record {
      bits = (fitted l s.number).raw;
      fits = fitted_lt l.signed l.precision s.number f.base.some;
      quiet =
          ap (λ (z : ℤ). (converted (enumeration l (s ∷ ss)) (enumeration k ts) z).kind) e
          ∙ ap (λ (o : Option ℤ). (on_some (translated_to k (number_given s.number)) (untranslated k (number_given s.number)) o).kind) t
          ∙ listed_in_range k ts s.name w.0 g.symbols w.1;
    }

-- ---- of every leaf that has a path

-- between enums, every symbol of the first stands in the second
abbrev pub Stands : Leaf → Leaf → Type 0
Stands x y = (l k : Layout) (ss ts : List Symbol) → x ≡ enumeration l ss → y ≡ enumeration k ts → (n : List ℕ) → Named n ss → Named n ts

pub quiet_bits : (x y : Leaf) → WellFormedLeaf x → WellFormedLeaf y → leaf_path x y ≡ true → Stands x y → ¬ (NoValue x) → Quiet x y
quiet_bits (atomic l) (atomic k) f g e stands value = zero_quiet (atomic l) (atomic k) (zero_fits k.signed k.precision)
quiet_bits (atomic l) (enumeration k ts) f g e stands value = absurd (false≢true e)
quiet_bits (atomic l) (real k) f g e stands value = zero_quiet (atomic l) (real k) zero_to_real
quiet_bits (enumeration l ss) (atomic k) f g e stands value = absurd (false≢true e)
quiet_bits (enumeration l []) (enumeration k ts) f g e stands value = absurd (value (l, refl))
quiet_bits (enumeration l (s ∷ ss)) (enumeration k ts) f g e stands value =
    symbol_quiet l k s ss ts f g (stands l k (s ∷ ss) ts refl refl s.name (s, Memᴰ.head refl, refl))
quiet_bits (enumeration l ss) (real k) f g e stands value = absurd (false≢true e)
quiet_bits (real l) (atomic k) f g e stands value = zero_quiet (real l) (atomic k) (real_to_zero k)
quiet_bits (real l) (enumeration k ts) f g e stands value = absurd (false≢true e)
quiet_bits (real l) (real k) f g e stands value = zero_quiet (real l) (real k) refl

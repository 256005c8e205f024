-- A destination keeps the symbols of a source exactly where no matched pair of enums loses one, and equal symbol sets are kept both ways. Assumes nothing.
use mathlib.Core.Path.{◌≡◌, refl, sym, ◌∙◌}
use mathlib.Core.Logic.{◌⊎◌, inl, inr, ⊎_elim, ◌↔◌}
use mathlib.Core.Bool.{Bool, true, false, cond, ◌&&◌, ◌||◌, false≢true}
use mathlib.Core.List.{List, [], ◌∷◌, Memᴰ}
use Prim.Native.Nat.{ℕ, ◌≤◌}
use Rattle.layout.specs.declared.Layout.{Layout}
use Rattle.datatype.specs.declared.Word.{Word}
use Rattle.datatype.specs.Datatype.{Symbol, Leaf, Datatype, Members, elements, same}
use Rattle.datatype.specs.Datatype.Leaf.{atomic, enumeration, real}
use Rattle.datatype.specs.Datatype.Datatype.{leaf, compound, array}
use Rattle.datatype.specs.Datatype.Members.{empty, member}
use Rattle.datatype.specs.Paths.{Lookup, on_found, member_named}
use Rattle.datatype.specs.Paths.Lookup.{missing, found}
use Rattle.datatype.specs.Matches.{match_at}
use Rattle.datatype.specs.Matches.Match.{matched}
use Rattle.datatype.specs.WellFormed.{WellFormed, WellFormedIn}
use Rattle.datatype.specs.SymbolSets.{has_symbol, all_stand_in, leaf_keeps, keeps_symbols, keeps_in, Named, LostSymbol, EqualSymbols}
use Rattle.datatype.proofs.Tests.{and_true, and_false, same→eq, same_refl}
use Rattle.datatype.proofs.Ways.{Way, not_found, found_first, found_cases, same_type, later, match_way, way_match}
use Rattle.datatype.proofs.Ways.Way.{here, inside, element}
use Rattle.datatype.proofs.Matches.{elements_some, match_back}

-- ---- symbols by name

symbol_named : (x : List ℕ) (ts : List Symbol) → has_symbol x ts ≡ true → Named x ts
unfolding has_symbol
symbol_named x [] e = absurd (false≢true e)
symbol_named x (t ∷ ts) e = go (same x t.name) refl e (symbol_named x ts)
  where
    go : (b : Bool) → same x t.name ≡ b → b || has_symbol x ts ≡ true → (has_symbol x ts ≡ true → Named x ts) → Named x (t ∷ ts)
    go true p q next = (t, Memᴰ.head refl, sym (same→eq x t.name p))
    go false p q next = let s = next q in (s.0, Memᴰ.tail s.1, s.2)

or_true : (b : Bool) → b || true ≡ true
or_true true = refl
or_true false = refl

named_symbol : (x : List ℕ) (ts : List Symbol) (s : Symbol) → Memᴰ s ts → s.name ≡ x → has_symbol x ts ≡ true
unfolding has_symbol
named_symbol x (t ∷ ts) s (Memᴰ.head p) e = rw (← e, p, same_refl t.name)
named_symbol x (t ∷ ts) s (Memᴰ.tail m) e = rw (named_symbol x ts s m e) (or_true (same x t.name))
named_symbol x [] s x3 e = elim x3 [ ]

stands : (ss ts : List Symbol) → all_stand_in ss ts ≡ true → (x : List ℕ) → Named x ss → Named x ts
unfolding all_stand_in
stands ss ts e x (s, m, n) = go ss e m
  where
    go : (us : List Symbol) → all_stand_in us ts ≡ true → Memᴰ s us → Named x ts
    go (u ∷ us) f (Memᴰ.head p) = symbol_named x ts (rw (← n, p) (and_true (has_symbol u.name ts) (all_stand_in us ts) f).0)
    go (u ∷ us) f (Memᴰ.tail k) = go us (and_true (has_symbol u.name ts) (all_stand_in us ts) f).1 k
    go [] f x4 = elim x4 [ ]

-- a symbol of ss whose name ts lacks
abbrev Lost : List Symbol → List Symbol → Type 0
Lost ss ts = (x : List ℕ) × Named x ss × ¬ (Named x ts)

lost : (ss ts : List Symbol) → all_stand_in ss ts ≡ false → Lost ss ts
unfolding all_stand_in
lost [] ts e = absurd (false≢true (sym e))
lost (s ∷ ss) ts e =
    ⊎_elim
    (λ (f : has_symbol s.name ts ≡ false).
    (s.name, (s, Memᴰ.head refl, refl), λ (n : Named s.name ts). false≢true (sym f ∙ named_symbol s.name ts n.0 n.1 n.2)))
    (λ (f : all_stand_in ss ts ≡ false). let l = lost ss ts f in (l.0, (l.1.0, Memᴰ.tail l.1.1, l.1.2), l.2))
    (and_false (has_symbol s.name ts) (all_stand_in ss ts) e)

-- ---- every matched pair is looked at

found_keeps : (ss ms : Members) → keeps_in ss ms ≡ true → (n : List ℕ) {p o : ℕ} {S T : Datatype} → member_named n ss ≡ found p S → member_named n ms ≡ found o T
    → keeps_symbols S T ≡ true
unfolding member_named keeps_symbols
found_keeps ss empty e n i j = not_found j
found_keeps ss (member x q X word ms) e n {p} {o} {S} {T} i j =
    go (found_keeps ss ms (and_true (on_found (λ r U. keeps_symbols U X) true (member_named x ss)) (keeps_in ss ms) e).1 n i) (found_cases n x q o X T word ms j)
  where
    go : (member_named n ms ≡ found o T → keeps_symbols S T ≡ true) → ((n ≡ x) × (found q X ≡ found o T)) ⊎ (member_named n ms ≡ found o T) → keeps_symbols S T ≡ true
    go next (inl f) =
        let first : on_found (λ r U. keeps_symbols U X) true (member_named x ss) ≡ true = (and_true (on_found (λ r U. keeps_symbols U X) true (member_named x ss)) (keeps_in ss ms) e).0 in
        rw (← same_type f.1) (rw (← f.0, i) at first)
    go next (inr f) = next f

way_keeps : {S D : Datatype} {a b : ℕ} {x y : Leaf} → Way S D a b x y → keeps_symbols S D ≡ true → leaf_keeps x y ≡ true
unfolding keeps_symbols
way_keeps here e = e
way_keeps (inside {ss = ss} {ms = ms} n i j t) e = way_keeps t (found_keeps ss ms e n i j)
way_keeps (element {es = es} {ds = ds} {S = S} {T = T} k q h t) e = way_keeps t (rw (q, same_refl ds) at e)

-- ---- and no other

-- a source without members has none of these names
pub none_found : (ms : Members) → keeps_in empty ms ≡ true
unfolding member_named keeps_symbols
none_found empty = refl
none_found (member x o T word ms) = none_found ms

-- a pair of enums on the same way, of which the second lacks a symbol of the first
data LostOn (S D : Datatype) : Type 0 where
  lost_on : {a b : ℕ} {l k : Layout} {ss ts : List Symbol} → Way S D a b (enumeration l ss) (enumeration k ts) → all_stand_in ss ts ≡ false → LostOn S D

leaf_lost : (x y : Leaf) → leaf_keeps x y ≡ false → LostOn (leaf x) (leaf y)
leaf_lost (atomic l) y e = absurd (false≢true (sym e))
leaf_lost (enumeration l ss) (atomic k) e = absurd (false≢true (sym e))
leaf_lost (enumeration l ss) (enumeration k ts) e = lost_on here e
leaf_lost (enumeration l ss) (real k) e = absurd (false≢true (sym e))
leaf_lost (real l) y e = absurd (false≢true (sym e))

-- the first element of an array
array_lost : (z w : ℕ) (es ds : List ℕ) (S T : Datatype) → 1 ≤ elements ds → (keeps_symbols S T ≡ false → LostOn S T)
    → cond (same es ds) (keeps_symbols S T) true ≡ false → LostOn (array z es S) (array w ds T)
array_lost z w es ds S T some base e = go (same es ds) refl e
  where
    first : es ≡ ds → LostOn S T → LostOn (array z es S) (array w ds T)
    first p (lost_on t f) = lost_on (element 0 p some t) f

    go : (b : Bool) → same es ds ≡ b → cond b (keeps_symbols S T) true ≡ false → LostOn (array z es S) (array w ds T)
    go true p f = first (same→eq es ds p) (base f)
    go false p f = absurd (false≢true (sym f))

-- the member x, if the source has it
member_lost : (x : List ℕ) (o : ℕ) (T : Datatype) {word : Word} (ms ss : Members) (z w : ℕ) → ((S : Datatype) → keeps_symbols S T ≡ false → LostOn S T)
    → on_found (λ p S. keeps_symbols S T) true (member_named x ss) ≡ false → LostOn (compound z ss) (compound w (member x o T word ms))
member_lost x o T {word} ms ss z w down e = go (member_named x ss) refl e
  where
    at : {p : ℕ} {S : Datatype} → member_named x ss ≡ found p S → LostOn S T → LostOn (compound z ss) (compound w (member x o T word ms))
    at r (lost_on t f) = lost_on (inside x r (found_first x o T word ms) t) f

    go : (h : Lookup) → member_named x ss ≡ h → on_found (λ p S. keeps_symbols S T) true h ≡ false → LostOn (compound z ss) (compound w (member x o T word ms))
    go missing r f = absurd (false≢true (sym f))
    go (found p S) r f = at r (down S f)

later_lost : (x : List ℕ) (o : ℕ) (T : Datatype) {word : Word} {ms ss : Members} {z w : ℕ} → member_named x ms ≡ missing → LostOn (compound z ss) (compound w ms)
    → LostOn (compound z ss) (compound w (member x o T word ms))
later_lost x o T once (lost_on t f) = lost_on (later x o T once t) f

mutual
  unfolding keeps_symbols

  lost_way : (D S : Datatype) → WellFormed D → keeps_symbols S D ≡ false → LostOn S D
  lost_way (leaf y) (leaf x) g e = leaf_lost x y e
  lost_way (leaf y) (compound z ss) g e = absurd (false≢true (sym e))
  lost_way (leaf y) (array z es S) g e = absurd (false≢true (sym e))
  lost_way (compound w ms) (leaf x) g e = absurd (false≢true (sym e ∙ none_found ms))
  lost_way (compound w ms) (compound z ss) g e = lost_in ms ss z w g.1 e
  lost_way (compound w ms) (array z es S) g e = absurd (false≢true (sym e ∙ none_found ms))
  lost_way (array w ds T) (leaf x) g e = absurd (false≢true (sym e))
  lost_way (array w ds T) (compound z ss) g e = absurd (false≢true (sym e))
  lost_way (array w ds T) (array z es S) g e = array_lost z w es ds S T (elements_some ds g.0.each) (λ f. lost_way T S g.1 f) e

  lost_in : (ms ss : Members) (z w : ℕ) → WellFormedIn w ms → keeps_in ss ms ≡ false → LostOn (compound z ss) (compound w ms)
  lost_in empty ss z w g e = absurd (false≢true (sym e))
  lost_in (member x o T word ms) ss z w g e =
      ⊎_elim (λ (f : on_found (λ p S. keeps_symbols S T) true (member_named x ss) ≡ false). member_lost x o T ms ss z w (λ S h. lost_way T S g.1 h) f)
      (λ (f : keeps_in ss ms ≡ false). later_lost x o T g.0.name_once (lost_in ms ss z w g.2 f))
      (and_false (on_found (λ p S. keeps_symbols S T) true (member_named x ss)) (keeps_in ss ms) e)

-- ---- the laws

module _ (S D : Datatype) (f : WellFormed S) (g : WellFormed D) where
  -- "every source symbol must stand in the destination": on each matched pair of enums
  pub each_stands : keeps_symbols S D ≡ true → (b a : ℕ) (l k : Layout) (ss ts : List Symbol) → match_at S D b ≡ matched a (enumeration l ss) (enumeration k ts)
      → (x : List ℕ) → Named x ss → Named x ts
  each_stands e b a l k ss ts m = stands ss ts (way_keeps (match_way D S g m) e)

  loses : keeps_symbols S D ≡ false → LostSymbol S D
  loses e = at (lost_way D S g e)
    where
      at : LostOn S D → LostSymbol S D
      at (lost_on {a} {b} {l} {k} {ss} {ts} t h) =
          let x = lost ss ts h in
          record {
            to = b;
            from = a;
            source_layout = l;
            source_symbols = ss;
            destination_layout = k;
            destination_symbols = ts;
            match = way_match t f g;
            name = x.0;
            in_source = x.1;
            not_in_destination = x.2;
          }

  not_kept : LostSymbol S D → keeps_symbols S D ≡ false
  not_kept x = go (keeps_symbols S D) refl
    where
      go : (t : Bool) → keeps_symbols S D ≡ t → t ≡ false
      go true e =
          absurd
          (x.not_in_destination
          (each_stands e x.to x.from x.source_layout x.destination_layout x.source_symbols x.destination_symbols x.match x.name x.in_source))
      go false e = refl

  -- SYMBOLS is given exactly where a matched pair of enums loses a symbol
  pub lost_symbol : keeps_symbols S D ≡ false ↔ LostSymbol S D
  lost_symbol = (loses, not_kept)

-- Equal symbol sets are kept on the way back.
pub equal_back : (S D : Datatype) → WellFormed S → WellFormed D → EqualSymbols S D → keeps_symbols D S ≡ true
equal_back S D f g equal = go (keeps_symbols D S) refl
  where
    go : (t : Bool) → keeps_symbols D S ≡ t → t ≡ true
    go true e = refl
    go false e =
        let x : LostSymbol D S = (lost_symbol D S g f).0 e in
        absurd
        (x.not_in_destination
        ((equal x.from x.to x.destination_layout x.source_layout x.destination_symbols x.source_symbols
        (match_back D S g f x.to x.from (enumeration x.source_layout x.source_symbols) (enumeration x.destination_layout x.destination_symbols) x.match)
        x.name).1 x.in_source))

-- Where the destination keeps the source's symbols, the sets are equal, or the destination has a symbol that the source lacks.
pub equal_or_lost : (S D : Datatype) → WellFormed S → WellFormed D → keeps_symbols S D ≡ true → EqualSymbols S D ⊎ LostSymbol D S
equal_or_lost S D f g there = go (keeps_symbols D S) refl
  where
    go : (t : Bool) → keeps_symbols D S ≡ t → EqualSymbols S D ⊎ LostSymbol D S
    go true e =
        inl
        (λ b a l k ss ts m x. (
          each_stands S D f g there b a l k ss ts m x,
          each_stands D S g f e a b k l ts ss (match_back S D f g b a (enumeration l ss) (enumeration k ts) m) x,
        ))
    go false e = inr ((lost_symbol D S g f).0 e)

-- Every datatype that a sheet gives keeps document 01's "Rules". Assumes nothing.
use mathlib.Core.Path.{◌≡◌, refl, subst}
use mathlib.Core.Logic.{◌⊎◌, inl, inr}
use mathlib.Core.Bool.{Bool, true, false, cond, not, ◌&&◌, ◌||◌, false≢true}
use mathlib.Core.List.{List, [], ◌∷◌}
use mathlib.Core.Option.{Option, none, some}
use Prim.Native.Nat.{ℕ, suc, ◌+◌, ◌*◌, ◌≤◌}
use native.Mathlib.Omega.{arith}
use lib.ListN.{length}
use lib.Dec.{leb, ltb, eqb}
use lib.IntN.{ℤ}
use borrow.Author.Tests.{leb-true, eqb-true}
use Rattle.layout.specs.declared.Class.{Class}
use Rattle.layout.specs.declared.Class.TheVariants.{Int, Bits}
use Rattle.layout.specs.declared.Layout.{Layout}
use Rattle.layout.proofs.Valid.{facts}
use Rattle.layout.specs.Layout.{may_sign, valid, Valid}
use Rattle.layout.specs.Setters.{is_int}
use Rattle.number.specs.Number.{fitted}
use Rattle.datatype.specs.Datatype.{binary64, Datatype, Members, size, elements}
use Rattle.datatype.specs.Datatype.Leaf.{atomic, enumeration, real}
use Rattle.datatype.specs.Datatype.Datatype.{leaf, compound, array}
use Rattle.datatype.specs.Datatype.Members.{empty, member}
use Rattle.datatype.specs.declared.Word.{Word}
use Rattle.datatype.specs.Symbols.{on_some, symbol_of, number_of}
use Rattle.datatype.specs.Paths.{Lookup, member_named, on_found}
use Rattle.datatype.specs.Paths.Lookup.{missing, found}
use Rattle.datatype.specs.WellFormed.{Apart, EachSome, WellFormed}
use Rattle.datatype.proofs.Tests.{nothing, and_true}
use Rattle.text.specs.Text.{newline, split}
use Rattle.text.specs.Field.{when, ◌>>=◌}
use Rattle.line.specs.Line.{Line, line_of}
use Rattle.line.specs.Line.Line.{atomic_line, enum_line, value_line, compound_line, member_line, array_line, real_line}
use Rattle.sheet.specs.Sheet.{SoFar, type_numbered, add_type, add_row, enum_of, is_none, may_list, with_value, is_apart, may_place, with_member, each_some, array_of, on_newest, older, judged_after, judge, Outcome, is_nil, lines_from, outcome_of, newest, typed, sheet_of}
use Rattle.sheet.specs.Sheet.Outcome.{accepted, faulty}
use Rattle.sheet.specs.Sheet.Sheet.{of_type}

-- ---- what is shown

abbrev pub EachWellFormed : List Datatype → Type 0
EachWellFormed [] = Unit {0}
EachWellFormed (T ∷ ts) = WellFormed T × EachWellFormed ts

-- ---- steps that give something

inside : {A : Type 0} {a b : A} → some a ≡ some b → a ≡ b
inside e = cc

-- a step after another that gave something
pub then_gave : {A B : Type 0} {b : B} (o : Option A) (next : A → Option B) → (o >>= next) ≡ some b → (a : A) × (o ≡ some a) × (next a ≡ some b)
then_gave none next e = nothing e
then_gave (some a) next e = (a, refl, e)

-- a test that gave something
pub when_gave : {A : Type 0} {b : A} (t : Bool) (a : A) → when t a ≡ some b → (t ≡ true) × (a ≡ b)
when_gave true a e = (refl, inside e)
when_gave false a e = nothing e

none_there : {A : Type 0} (o : Option A) → is_none o ≡ true → o ≡ none
none_there none e = refl
none_there (some a) e = absurd (false≢true e)

-- ---- one type after another

-- a type that is named by its number is one of the types before
numbered : (k : ℕ) (ts : List Datatype) {T : Datatype} → EachWellFormed ts → type_numbered k ts ≡ some T → WellFormed T
unfolding type_numbered
numbered k [] w e = nothing e
numbered k (U ∷ ts) {T} w e = go (eqb k (length ts)) e (numbered k ts w.1)
  where
    go : (t : Bool) → cond t (some U) (type_numbered k ts) ≡ some T → (type_numbered k ts ≡ some T → WellFormed T) → WellFormed T
    go true g next = subst WellFormed (inside g) w.0
    go false g next = next g

all_older : (ts : List Datatype) → EachWellFormed ts → EachWellFormed (older ts)
all_older [] w = tt
all_older (T ∷ ts) w = w.1

-- ---- the changes that a line makes, each to a well formed type

an_int : (c : Class) → is_int c ≡ true → c ≡ Int
an_int Int e = refl
an_int Bits e = absurd (false≢true e)

enum_formed : (T : Datatype) {U : Datatype} → WellFormed T → enum_of T ≡ some U → WellFormed U
enum_formed (leaf (atomic l)) w e =
    let g = when_gave (is_int l.class) (leaf (enumeration l [])) e in
    subst WellFormed g.1 (record { base = w; int = an_int l.class g.0; symbols = tt })
enum_formed (leaf (enumeration l ss)) w e = nothing e
enum_formed (leaf (real l)) w e = nothing e
enum_formed (compound z ms) w e = nothing e
enum_formed (array z ds T) w e = nothing e

value_formed : (x : List ℕ) (z : ℤ) (T : Datatype) {U : Datatype} → WellFormed T → with_value x z T ≡ some U → WellFormed U
value_formed x z (leaf (atomic l)) w e = nothing e
value_formed x z (leaf (enumeration l ss)) w e =
    let g = when_gave (may_list l ss x z) (leaf (enumeration l (record { name = x; number = z } ∷ ss))) e in
    let range = and_true (is_none (number_of x ss) && is_none (symbol_of z ss)) (eqb (fitted l z).kind 0) g.0 in
    let once = and_true (is_none (number_of x ss)) (is_none (symbol_of z ss)) range.0 in
    subst WellFormed g.1
    (record {
      base = w.base;
      int = w.int;
      symbols = (
        record {
          name_once = none_there (number_of x ss) once.0;
          number_once = none_there (symbol_of z ss) once.1;
          in_range = eqb-true (fitted l z).kind 0 range.1;
        },
        w.symbols,
      );
    })
value_formed x z (leaf (real l)) w e = nothing e
value_formed x z (compound s ms) w e = nothing e
value_formed x z (array s ds T) w e = nothing e

apart : (offset w : ℕ) (ms : Members) → is_apart offset w ms ≡ true → Apart offset w ms
unfolding is_apart
apart offset w empty e = tt
apart offset w (member y p U word ms) e =
    let h = and_true (leb (offset + w) p || leb (p + size U) offset) (is_apart offset w ms) e in
    (go (leb (offset + w) p) refl h.0, apart offset w ms h.1)
  where
    go : (t : Bool) → leb (offset + w) p ≡ t → t || leb (p + size U) offset ≡ true → (offset + w ≤ p) ⊎ (p + size U ≤ offset)
    go true q h = inl (leb-true (offset + w) p q)
    go false q h = inr (leb-true (p + size U) offset h)

missing_there : (m : Lookup) → on_found (λ o T. false) true m ≡ true → m ≡ missing
missing_there missing e = refl
missing_there (found o T) e = absurd (false≢true e)

member_formed : (x : List ℕ) (offset : ℕ) (M : Datatype) (word : Word) (T : Datatype) {U : Datatype} → WellFormed M → WellFormed T → with_member x offset M word T ≡ some U → WellFormed U
member_formed x offset M word (leaf y) f w e = nothing e
member_formed x offset M word (compound z ms) f w e =
    let g = when_gave (may_place z ms x offset (size M)) (compound z (member x offset M word ms)) e in
    let free = and_true (on_found (λ o T. false) true (member_named x ms) && leb (offset + size M) z) (is_apart offset (size M) ms) g.0 in
    let within = and_true (on_found (λ o T. false) true (member_named x ms)) (leb (offset + size M) z) free.0 in
    subst WellFormed g.1 (
      w.0,
      (
        record {
          inside = leb-true (offset + size M) z within.1;
          apart = apart offset (size M) ms free.1;
          name_once = missing_there (member_named x ms) within.0;
        },
        f,
        w.1,
      ),
    )
member_formed x offset M word (array z ds T) f w e = nothing e

each_some_lem : (ds : List ℕ) → each_some ds ≡ true → EachSome ds
each_some_lem [] e = tt
each_some_lem (d ∷ ds) e =
    let h = and_true (leb 1 d) (each_some ds) e in
    (leb-true 1 d h.0, each_some_lem ds h.1)

array_formed : (ds : List ℕ) (T : Datatype) {U : Datatype} → WellFormed T → array_of ds T ≡ some U → WellFormed U
array_formed ds T w e =
    let n : ℕ = length ds in
    let z : ℕ = elements ds * size T in
    let g = when_gave (leb 1 n && leb n 4 && each_some ds && leb z 4096) (array z ds T) e in
    let most = and_true (leb 1 n && leb n 4 && each_some ds) (leb z 4096) g.0 in
    let each = and_true (leb 1 n && leb n 4) (each_some ds) most.0 in
    let rank = and_true (leb 1 n) (leb n 4) each.0 in
    subst WellFormed g.1 (
      record {
        some = leb-true 1 n rank.0;
        rank = leb-true n 4 rank.1;
        each = each_some_lem ds each.1;
        product = refl;
        most = leb-true z 4096 most.1;
      },
      w,
    )

-- ---- lines

added : (s : SoFar) (T : Datatype) {t : SoFar} → EachWellFormed s.types → WellFormed T → add_type s T ≡ some t → EachWellFormed t.types
added s T w f e =
    subst (λ (t : SoFar). EachWellFormed t.types) (when_gave (ltb (length s.types) 64) (record { types = T ∷ s.types; rows = s.rows }) e).1 (f, w)

newest_changed : (change : Datatype → Option Datatype) (s : SoFar) (ts : List Datatype) {t : SoFar}
    → ((T U : Datatype) → WellFormed T → change T ≡ some U → WellFormed U)
    → EachWellFormed ts → on_newest change s ts ≡ some t → EachWellFormed t.types
newest_changed change s [] keeps w e = nothing e
newest_changed change s (T ∷ ts) keeps w e =
    let c = then_gave (change T) (add_row s ts) e in
    subst (λ (t : SoFar). EachWellFormed t.types) (when_gave (ltb s.rows 256) (record { types = c.0 ∷ ts; rows = s.rows + 1 }) c.2).1
    (keeps T c.0 w.0 c.1, w.1)

-- "A line is judged by itself and the lines before it": an accepted line keeps the rules
pub line_keeps : (s : SoFar) (line : Line) {t : SoFar} → EachWellFormed s.types → judged_after s line ≡ some t → EachWellFormed t.types
line_keeps s (atomic_line l) w e =
    let c = then_gave (when (valid l) (leaf (atomic l))) (add_type s) e in
    let g = when_gave (valid l) (leaf (atomic l)) c.1 in
    added s c.0 w (subst WellFormed g.1 (facts l g.0)) c.2
line_keeps s (enum_line k) w e =
    let c = then_gave (type_numbered k s.types >>= enum_of) (add_type s) e in
    let d = then_gave (type_numbered k s.types) enum_of c.1 in
    added s c.0 w (enum_formed d.0 (numbered k s.types w d.1) d.2) c.2
line_keeps s (value_line x z) w e = newest_changed (with_value x z) s s.types (λ T U f h. value_formed x z T f h) w e
line_keeps s (compound_line z) w e =
    let c = then_gave (when (leb 1 z && leb z 4096) (compound z empty)) (add_type s) e in
    let g = when_gave (leb 1 z && leb z 4096) (compound z empty) c.1 in
    let h = and_true (leb 1 z) (leb z 4096) g.0 in
    added s c.0 w (subst WellFormed g.1 (record { some = leb-true 1 z h.0; most = leb-true z 4096 h.1 }, tt)) c.2
line_keeps s (member_line x offset k word) w e =
    let c = then_gave (type_numbered k (older s.types)) (λ T. on_newest (with_member x offset T word) s s.types) e in
    newest_changed (with_member x offset c.0 word) s s.types
    (λ T U f h. member_formed x offset c.0 word T (numbered k (older s.types) (all_older s.types w) c.1) f h) w c.2
line_keeps s (array_line k ds) w e =
    let c = then_gave (type_numbered k s.types >>= array_of ds) (add_type s) e in
    let d = then_gave (type_numbered k s.types) (array_of ds) c.1 in
    added s c.0 w (array_formed ds d.0 (numbered k s.types w d.1) d.2) c.2
line_keeps s (real_line z o) w e =
    let c = then_gave (when (eqb z 8) (leaf (real (binary64 o)))) (add_type s) e in
    let g = when_gave (eqb z 8) (leaf (real (binary64 o))) c.1 in
    added s c.0 w (subst WellFormed g.1 refl) c.2

pub judge_keeps : (s : SoFar) (text : List ℕ) {t : SoFar} → EachWellFormed s.types → judge s text ≡ some t → EachWellFormed t.types
unfolding judge
judge_keeps s text w e =
    let c = then_gave (line_of text) (judged_after s) e in
    line_keeps s c.0 w c.2

-- ---- whole sheets

not_accepted : {A : Type 0} {k : ℕ} {t : SoFar} → faulty k ≡ accepted t → A
not_accepted e = let z : ◌≡◌ {A = ℕ} 0 1 = cc in absurd (omega arith)

lines_keep : (k : ℕ) (s : SoFar) (pieces : List (List ℕ)) {t : SoFar} → EachWellFormed s.types → lines_from k s pieces ≡ accepted t
    → EachWellFormed t.types
unfolding lines_from
lines_keep k s [] w e = not_accepted e
lines_keep k s (piece ∷ []) {t} w e = go (is_nil piece && not (is_nil s.types)) e
  where
    go : (b : Bool) → cond b (accepted s) (faulty k) ≡ accepted t → EachWellFormed t.types
    go true g =
        let q : s ≡ t = cc in
        subst (λ (u : SoFar). EachWellFormed u.types) q w
    go false g = not_accepted g
lines_keep k s (piece ∷ next ∷ more) {t} w e = go _ (judge s piece) refl e (λ u. lines_keep (suc k) u (next ∷ more))
  where
    go : (at : ℕ) (o : Option SoFar) → judge s piece ≡ o → on_some (λ u. lines_from (suc k) u (next ∷ more)) (faulty at) o ≡ accepted t
        → ((u : SoFar) → EachWellFormed u.types → lines_from (suc k) u (next ∷ more) ≡ accepted t → EachWellFormed t.types)
        → EachWellFormed t.types
    go at none q g later = not_accepted g
    go at (some u) q g later = later u (judge_keeps s piece w q) g

-- every type of an accepted sheet is well formed
pub outcome_well_formed : (text : List ℕ) (s : SoFar) → outcome_of text ≡ accepted s → EachWellFormed s.types
unfolding outcome_of
outcome_well_formed text s e = go _ (leb (length text) 16384) e
  where
    go : (at : ℕ) (b : Bool) → cond b (lines_from 1 (record { types = []; rows = 0 }) (split newline text)) (faulty at) ≡ accepted s → EachWellFormed s.types
    go at true g = lines_keep 1 (record { types = []; rows = 0 }) (split newline text) tt g
    go at false g = not_accepted g

-- the type of a sheet is well formed
pub read_well_formed : (text : List ℕ) (T : Datatype) → sheet_of text ≡ of_type T → WellFormed T
unfolding sheet_of
read_well_formed text T e = go (outcome_of text) refl e
  where
    at : (ts : List Datatype) → EachWellFormed ts → newest ts ≡ of_type T → WellFormed T
    at [] w g = let z : ◌≡◌ {A = ℕ} 0 1 = cc in absurd (omega arith)
    at (U ∷ ts) w g =
        let q : U ≡ T = cc in
        subst WellFormed q w.0

    go : (o : Outcome) → outcome_of text ≡ o → typed o ≡ of_type T → WellFormed T
    go (accepted s) q g = at s.types (outcome_well_formed text s q) g
    go (faulty k) q g = let z : ◌≡◌ {A = ℕ} 0 1 = cc in absurd (omega arith)

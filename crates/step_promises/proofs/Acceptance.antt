-- Where A to B and B to C are accepted, so is A to C. Assumes nothing.
use mathlib.Core.Path.{◌≡◌, refl, sym, ap, ◌∙◌}
use mathlib.Core.Bool.{Bool, true, false, false≢true}
use mathlib.Core.List.{List}
use Prim.Native.Nat.{ℕ}
use lib.Dec.{leb}
use lib.ListN.{length}
use borrow.Author.Tests.{le-leb}
use Rattle.layout.specs.declared.Layout.{Layout}
use Rattle.datatype.specs.Datatype.{Symbol, Leaf, Datatype}
use Rattle.datatype.specs.Datatype.Leaf.{atomic, enumeration, real}
use Rattle.datatype.specs.Paths.{leaf_path, has_path}
use Rattle.datatype.specs.HasPath.{HasPath}
use Rattle.datatype.specs.HasPath.HasPath.{same_class, enums, int_to_real_lem, real_to_int_lem, reals, arrays, compounds}
use Rattle.datatype.specs.Matches.Match.{matched}
use Rattle.datatype.specs.SymbolSets.{keeps_symbols, Named, LostSymbol}
use Rattle.datatype.specs.WellFormed.{WellFormed}
use Rattle.datatype.proofs.HasPath.{has_path_lem}
use Rattle.datatype.proofs.Matches.{match_path}
use Rattle.datatype.proofs.SymbolSets.{each_stands, lost_symbol}
use Rattle.sheet.proofs.ReadWellFormed.{read_well_formed}
use Rattle.runs.proofs.Checks.{passed_tells, tells_passed}
use Rattle.promises.proofs.Promises.{passed_not_before, passes}
use Rattle.step_promises.specs.TwoSteps.{SameNames, AcceptedToo}
use Rattle.step_promises.specs.TwoSteps.Level.{here, inside, element}
use Rattle.step_promises.proofs.Composition.{by_whole}

-- ---- paths go on

path_on : {B C A : Datatype} → HasPath B C → HasPath A B → SameNames A B C → HasPath A C
path_on (same_class e) (same_class f) names = same_class (f ∙ e)
path_on (same_class e) (real_to_int_lem f) names = real_to_int_lem (sym e ∙ f)
path_on enums enums names = enums
path_on (int_to_real_lem e) (same_class f) names = int_to_real_lem (f ∙ e)
path_on (int_to_real_lem e) (real_to_int_lem f) names = reals
path_on (real_to_int_lem e) (int_to_real_lem f) names = same_class (f ∙ sym e)
path_on (real_to_int_lem e) reals names = real_to_int_lem e
path_on reals (int_to_real_lem f) names = int_to_real_lem f
path_on reals reals names = reals
path_on (arrays e h) (arrays f g) names = arrays (f ∙ e) (path_on h g (record { at = λ ls ms ns l. names.at ls ms ns (element l) }))
path_on (compounds {ss = ms} {ms = ns} h) (compounds {ss = ls} g) names =
    compounds
    (λ x i k A C c a.
    let b = ((names.at ls ms ns here x).1 ((k, C, c), (i, A, a))).1 in
    path_on (h x b.0 k b.1 C c b.2) (g x i b.0 A b.1 b.2 a) (record { at = λ ls' ms' ns' l. names.at ls' ms' ns' (inside x a b.2 c l) }))

-- ---- and so do symbols

-- only an enum has a path from an enum
enum_from : (l : Layout) (ss : List Symbol) (y : Leaf) → leaf_path (enumeration l ss) y ≡ true → (k : Layout) × (ts : List Symbol) × (y ≡ enumeration k ts)
enum_from l ss (atomic k) e = absurd (false≢true e)
enum_from l ss (enumeration k ts) e = (k, ts, refl)
enum_from l ss (real k) e = absurd (false≢true e)

module _ (A B C : Datatype) (f : WellFormed A) (g : WellFormed B) (h : WellFormed C) (names : SameNames A B C)
    (first : has_path A B ≡ true) (second : has_path B C ≡ true) (kept-B : keeps_symbols A B ≡ true) (kept-C : keeps_symbols B C ≡ true) where
  not_lost : ¬ (LostSymbol A C)
  not_lost x =
      let m = by_whole A B C f g h names second x.to x.from _ _ x.match in
      let y = enum_from x.source_layout x.source_symbols m.1 (match_path A B f g first m.0 x.from _ m.1 m.2.first) in
      let in-B : Named x.name y.1 =
      each_stands A B f g kept-B m.0 x.from x.source_layout y.0 x.source_symbols y.1
      (m.2.first ∙ ap (matched x.from (enumeration x.source_layout x.source_symbols)) y.2) x.name x.in_source in
      x.not_in_destination
      (each_stands B C g h kept-C x.to m.0 y.0 x.destination_layout y.1 x.destination_symbols
      (m.2.second ∙ ap (λ (t : Leaf). matched m.0 t (enumeration x.destination_layout x.destination_symbols)) y.2) x.name in-B)

  symbols_on : keeps_symbols A C ≡ true
  symbols_on = go (keeps_symbols A C) refl
    where
      go : (t : Bool) → keeps_symbols A C ≡ t → t ≡ true
      go true e = refl
      go false e = absurd (not_lost ((lost_symbol A C f h).0 e))

-- ---- runs

-- Of the three acceptances, that of A to C follows from the others, where p is lent a table and room.
pub accepted_too : AcceptedToo
accepted_too A B C r q p names r-types q-types p-types r_accepted q_accepted count handling lent =
    let t = passed_tells r A B (passes r A B r-types r_accepted) in
    let u = passed_tells q B C (passes q B C q-types q_accepted) in
    let f : WellFormed A = read_well_formed r.source_sheet A r-types.source in
    let g : WellFormed B = read_well_formed q.source_sheet B q-types.source in
    let h : WellFormed C = read_well_formed q.destination_sheet C q-types.destination in
    passed_not_before p A C
    (tells_passed p A C
    (record {
      handling = ap (λ (n : ℕ). leb n 1) handling ∙ u.handling;
      table = le-leb 8192 (length p.table) lent.table;
      source = p-types.source;
      destination = p-types.destination;
      path = (has_path_lem A C h).1 (path_on ((has_path_lem B C h).0 u.path) ((has_path_lem A B g).0 t.path) names);
      symbols = symbols_on A B C f g h names t.path u.path t.symbols u.symbols;
      count = ap (λ (n : ℕ). leb n 65536) count ∙ u.count;
      room = lent.room;
    }))

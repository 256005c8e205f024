-- Demand 1: the answer's number and fields are those that the table says. Assumes nothing: the types of sheets are well formed (crate sheet).
use mathlib.Core.Path.{◌≡◌, refl, sym, ap, ◌∙◌, subst}
use mathlib.Core.Logic.{◌⊎◌, inl, inr, ⊎_elim}
use mathlib.Core.Bool.{cond, false≢true}
use mathlib.Core.List.{List, [], ◌∷◌}
use Prim.Native.Nat.{ℕ, zero, suc, ◌≤◌, ◌<◌}
use native.Mathlib.Omega.{arith}
use lib.Dec.{leb, eqb}
use lib.ListN.{length}
use borrow.Author.Tests.{leb-true, leb-false}
use Rattle.answer.specs.declared.Answer.{Answer}
use Rattle.answer.specs.declared.Answer.TheVariants.{Done, Handling, Table, Source, Destination, Path, Count, Room, Stop, Symbols}
use Rattle.answer.specs.declared.Given as answer
use Rattle.answer.specs.declared.Values.{Values}
use Rattle.answer.specs.Answer.{number_of, values_of}
use Rattle.datatype.specs.Datatype.{Datatype, size}
use Rattle.datatype.specs.Paths.{has_path}
use Rattle.datatype.specs.SymbolSets.{keeps_symbols}
use Rattle.datatype.specs.WellFormed.{WellFormed}
use Rattle.datatype.proofs.Ways.{way_starts, match_way}
use Rattle.datatype.proofs.HasPath.{has_path_lem}
use Rattle.datatype.proofs.SymbolSets.{lost_symbol}
use Rattle.sheet.specs.Sheet.{sheet_of}
use Rattle.sheet.specs.Sheet.Sheet.{of_type}
use Rattle.sheet.proofs.FirstFault.{first_fault}
use Rattle.sheet.proofs.ReadWellFormed.{read_well_formed}
use Rattle.records.specs.Record.{kind_at, given_at}
use Rattle.records.specs.Records.{Readings, readings}
use Rattle.records.specs.Matched.{MatchedLeaf}
use Rattle.runs.specs.Run.{Run, has_room, type_checks, checks_of, on_checked, handled, answer_for, answer}
use Rattle.runs.specs.FirstException.{NoneStops, FirstException}
use Rattle.runs.specs.Refusals.{First, only_count, only_place}
use Rattle.runs.specs.Refusals.First.{here}
use Rattle.runs.proofs.Checks.{done_is, stop_is}
use Rattle.runs.proofs.Exceptions.{handled_count, handled_clamped, handled_first, handled_number}
use Rattle.runs.proofs.Refusals.{not_faulty, of_types, by_types, same_types, one_line, too_short, not_too_short, RefusalTable, None, Right, passed_by, by_test, by_sheet, right_row, right_first, right_done, right_none}
use Rattle.runs.proofs.Refusals.Right.{none_given, first_given}
use Rattle.promises.specs.Runs.{answer_number, answer_fields}
use Rattle.promises.specs.Demand1.{Exception, Row, number, Given, order, Fields, DoneFields, Demand1}
use Rattle.promises.proofs.Stops.{kind_of_lem, first_leaf, first_obeys, first_raises}
use Rattle.promises.specs.Demand1.Row.{HANDLING, TABLE, SOURCE, DESTINATION, PATH, SYMBOLS, COUNT, ROOM, STOP}

-- ---- handling

over_one : (h : ℕ) → 1 < h → ¬ ((h ≡ 0) ⊎ (h ≡ 1))
over_one h l (inl e) = omega arith
over_one h l (inr e) = omega arith

not_over_one : (h : ℕ) → h ≤ 1 → ¬ (¬ ((h ≡ 0) ⊎ (h ≡ 1)))
not_over_one zero l n = n (inl refl)
not_over_one (suc h) l n = n (inr (omega arith))

-- ---- exceptions

-- the first exception is one
first_exists : (r : Run) (S D : Datatype) {i b k : ℕ} {g : answer.Given} → FirstException r.handling S D r.count (readings S D r.source) i b k g → Exception r S D
first_exists r S D e =
    record {
      leaf = first_leaf S D r.count r.source e;
      obeys = first_obeys S D r.count r.source e;
      raises = first_raises S D r.count r.source e;
    }

-- and where no leaf that obeys stop raises, there is none
none_exists : (r : Run) (S D : Datatype) → WellFormed D → ((i : ℕ) → i < r.count → NoneStops r.handling S D (readings S D r.source) i (size D))
    → ¬ (Exception r S D)
none_exists r S D g quietly x =
    let m : MatchedLeaf S D r.count = x.leaf in
    let quiet : kind_at S D (readings S D r.source m.index) m.to ≡ 0 =
    quietly m.index m.in_records_lem m.to (way_starts (match_way D S g m.match) g) x.obeys in
    omega (arith, x.raises, kind_of_lem m r.source, quiet)

module _ {h : ℕ} {S D : Datatype} {n : ℕ} {fs : Readings} where
  not_earlier : {i b k j c l : ℕ} {g u : answer.Given} → FirstException h S D n fs i b k g → FirstException h S D n fs j c l u → ¬ (i < j)
  not_earlier {i} {b} e f t = omega (arith, e.kind, e.raises, f.no_earlier_record i t b e.in_bytes e.obeys)

  not_lower : {i b k c l : ℕ} {g u : answer.Given} → FirstException h S D n fs i b k g → FirstException h S D n fs i c l u → ¬ (b < c)
  not_lower {b = b} e f t = omega (arith, e.kind, e.raises, f.no_lower_byte b t e.obeys)

  -- there is one first exception
  one_first : {i b k j c l : ℕ} {u v : answer.Given} → FirstException h S D n fs i b k u → FirstException h S D n fs j c l v → only_place i b k u ≡ only_place j c l v
  one_first {i} {b} {k} {j} {c} {l} {u} {v} e f =
      let p : i ≡ j = omega (arith, not_earlier e f, not_earlier f e) in
      let g : FirstException h S D n fs i c l v = rw p f in
      let q : b ≡ c = omega (arith, not_lower e g, not_lower g e) in
      let t : k ≡ l = sym e.kind ∙ ap (kind_at S D (fs i)) q ∙ g.kind in
      let w : u ≡ v = sym e.given ∙ ap (given_at S D (fs i)) q ∙ g.given in
      rw (p, q, t, w)

-- ---- what the table says of an answer, row by row

abbrev rows : Run → RefusalTable
rows r = record { Row = Row; number = number; Given = Given r; Fields = Fields r; DoneFields = DoneFields r }

-- behind both sheets
module _ (r : Run) (S D : Datatype) (s : sheet_of r.source_sheet ≡ of_type S) (d : sheet_of r.destination_sheet ≡ of_type D) where
  stop_right : r.handling ≤ 1 → Right (rows r) (STOP ∷ []) (handled r.handling S D r.count (readings S D r.source))
  stop_right l =
      let h : ℕ = r.handling in
      let fs : Readings = readings S D r.source in
      let a : Answer = handled r.handling S D r.count (readings S D r.source) in
      ⊎_elim
      (λ (z : number_of a ≡ 0).
      let done : a ≡ Done (values_of a).count = done_is a z in
      passed_by (rows r) STOP
      (λ g. none_exists r S D (read_well_formed r.destination_sheet D d) (handled_clamped S D h r.count fs (values_of a).count done)
      (by_types r.source_sheet r.destination_sheet S D s d g))
      (none_given tt z
      (of_types r.source_sheet r.destination_sheet S D s d (ap values_of done ∙ ap only_count (handled_count S D h r.count fs (values_of a).count done)))))
      (λ (z : number_of a ≡ 8).
      let v : Values = values_of a in
      let g : answer.Given = (stop_is a z).0 in
      let is : a ≡ Stop v.«record» v.at v.kind g = (stop_is a z).1 in
      let f = handled_first S D h r.count fs v.«record» v.at v.kind g l is in
      first_given STOP (here (of_types r.source_sheet r.destination_sheet S D s d (first_exists r S D f))) z
      (of_types r.source_sheet r.destination_sheet S D s d (v.«record», v.at, v.kind, g, f, ap values_of is)))
      (handled_number S D h r.count fs)

  types_right : r.handling ≤ 1
      → Right (rows r) (PATH ∷ SYMBOLS ∷ COUNT ∷ ROOM ∷ STOP ∷ []) (on_checked (answer_for r) (λ refusal. refusal) (type_checks r.form r.count (length r.source) (length r.background) S D))
  types_right l =
      let x : ℕ = length r.source in
      let y : ℕ = length r.background in
      let path = has_path_lem S D (read_well_formed r.destination_sheet D d) in
      let symbols = lost_symbol S D (read_well_formed r.source_sheet S s) (read_well_formed r.destination_sheet D d) in
      by_test (rows r) PATH (answer_for r) (has_path S D) Path _ refl refl
      (λ e. of_types r.source_sheet r.destination_sheet S D s d (λ h. false≢true (sym e ∙ path.1 h)))
      (λ e g. by_types r.source_sheet r.destination_sheet S D s d g (path.0 e))
      λ e. by_test (rows r) SYMBOLS (answer_for r) (keeps_symbols S D) Symbols _ refl refl
      (λ e. of_types r.source_sheet r.destination_sheet S D s d (symbols.0 e))
      (λ e g. false≢true (sym (symbols.1 (by_types r.source_sheet r.destination_sheet S D s d g)) ∙ e))
      λ e. by_test (rows r) COUNT (answer_for r) (leb r.count 65536) Count _ refl refl
      (λ e. leb-false r.count 65536 e)
      (λ e g. omega (arith, leb-true r.count 65536 e, g))
      λ e. by_test (rows r) ROOM (answer_for r) (has_room r.form r.count (size S) (size D) x y) Room _ refl refl
      (λ e. of_types r.source_sheet r.destination_sheet S D s d (too_short r.form r.count (size S) (size D) x y e))
      (λ e g. not_too_short r.form r.count (size S) (size D) x y e (by_types r.source_sheet r.destination_sheet S D s d g))
      λ e. stop_right l

right : (r : Run) → Right (rows r) order (answer r)
unfolding answer checks_of
right r =
    by_test (rows r) HANDLING (answer_for r) (leb r.handling 1) Handling _ refl refl
    (λ e. over_one r.handling (leb-false r.handling 1 e))
    (λ e. not_over_one r.handling (leb-true r.handling 1 e))
    λ h. by_test (rows r) TABLE (answer_for r) (leb 8192 (length r.table)) Table _ refl refl
    (λ e. leb-false 8192 (length r.table) e)
    (λ e g. omega (arith, leb-true 8192 (length r.table) e, g))
    λ t. by_sheet (rows r) SOURCE (answer_for r) (sheet_of r.source_sheet) Source _ (λ k. refl)
    (λ k e. let f = (first_fault r.source_sheet k).0 e in ((k, f), (k, f, refl)))
    (λ S e. not_faulty r.source_sheet S e)
    λ S s. by_sheet (rows r) DESTINATION (answer_for r) (sheet_of r.destination_sheet) Destination _ (λ k. refl)
    (λ k e. let f = (first_fault r.destination_sheet k).0 e in ((k, f), (k, f, refl)))
    (λ D e. not_faulty r.destination_sheet D e)
    λ D d. types_right r S D s d (leb-true r.handling 1 h)

-- ---- a number is of one row

each_not : (r : Run) → None (rows r) order → (row : Row) → ¬ (Given r row)
each_not r n HANDLING = n.0
each_not r n TABLE = n.1.0
each_not r n SOURCE = n.1.1.0
each_not r n DESTINATION = n.1.1.1.0
each_not r n PATH = n.1.1.1.1.0
each_not r n SYMBOLS = n.1.1.1.1.1.0
each_not r n COUNT = n.1.1.1.1.1.1.0
each_not r n ROOM = n.1.1.1.1.1.1.1.0
each_not r n STOP = n.1.1.1.1.1.1.1.1.0

-- the first of the rows with this number
numbered : ℕ → List Row → Row
numbered k [] = STOP
numbered k (row ∷ later) = cond (eqb k (number row)) row (numbered k later)

row_numbered_lem : (row : Row) → numbered (number row) order ≡ row
unfolding numbered
row_numbered_lem HANDLING = refl
row_numbered_lem TABLE = refl
row_numbered_lem SOURCE = refl
row_numbered_lem DESTINATION = refl
row_numbered_lem PATH = refl
row_numbered_lem SYMBOLS = refl
row_numbered_lem COUNT = refl
row_numbered_lem ROOM = refl
row_numbered_lem STOP = refl

one_number : (a b : Row) → number a ≡ number b → a ≡ b
one_number a b e = sym (row_numbered_lem a) ∙ ap (λ (k : ℕ). numbered k order) e ∙ row_numbered_lem b

some_number : (row : Row) → 1 ≤ number row
some_number HANDLING = omega arith
some_number TABLE = omega arith
some_number SOURCE = omega arith
some_number DESTINATION = omega arith
some_number PATH = omega arith
some_number SYMBOLS = omega arith
some_number COUNT = omega arith
some_number ROOM = omega arith
some_number STOP = omega arith

-- ---- a row's fields are told by the run

module _ (r : Run) where
  one_fields : (row : Row) {v w : Values} → Fields r row v → Fields r row w → v ≡ w
  one_fields HANDLING p q = p ∙ sym q
  one_fields TABLE p q = p ∙ sym q
  one_fields SOURCE p q = one_line r.source_sheet p.1 p.2 q.1 q.2
  one_fields DESTINATION p q = one_line r.destination_sheet p.1 p.2 q.1 q.2
  one_fields PATH p q = p ∙ sym q
  one_fields SYMBOLS p q = p ∙ sym q
  one_fields COUNT p q = p ∙ sym q
  one_fields ROOM p q = p ∙ sym q
  one_fields STOP p q = let t = same_types r.source_sheet r.destination_sheet p q in t.2.5 ∙ one_first t.2.4 t.3.4 ∙ sym t.3.5

  one_done : {v w : Values} → DoneFields r v → DoneFields r w → v ≡ w
  one_done p q = let t = same_types r.source_sheet r.destination_sheet p q in t.2 ∙ sym t.3

-- ---- the theorem

-- a row's number is answered exactly when it is the first that is given
number_first : (r : Run) (row : Row) → answer_number r ≡ number row → First (Given r) row order
number_first r row e =
    let x = right_row (rows r) (omega (arith, e, some_number row)) (right r) in
    subst (λ (q : Row). First (Given r) q order) (one_number x.0 row (x.1 ∙ e)) x.2

-- Demand 1: the answer has each number of the table exactly when its row says so and no check before it does, and no other number, with the fields beside it.
pub demand_1 : (r : Run) → Demand1 r
demand_1 r =
    record {
      refused = λ row. (λ e. number_first r row e, λ p. (right_first (rows r) row p (right r)).0);
      done = (λ e. each_not r (right_done (rows r) some_number e (right r)).0, λ n. right_none (rows r) n (right r));
      no_other = numbered_or_done (right r);
      fields = λ row e v.
          let f : Fields r row (answer_fields r) = (right_first (rows r) row (number_first r row e) (right r)).1 in
          (λ p. subst (Fields r row) p f, λ g. one_fields r row f g);
      done_fields = λ e v.
          let f : DoneFields r (answer_fields r) = (right_done (rows r) some_number e (right r)).1 in
          (λ p. subst (DoneFields r) p f, λ g. one_done r f g);
    }
  where
    numbered_or_done : Right (rows r) order (answer r) → (answer_number r ≡ 0) ⊎ ((row : Row) × (answer_number r ≡ number row))
    numbered_or_done (none_given n z f) = inl z
    numbered_or_done (first_given q first z f) = inr (q, z)

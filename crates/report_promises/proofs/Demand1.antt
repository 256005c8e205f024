-- Demand 1 for the report: the answer's number and fields are those that the table says. Assumes nothing: the types of sheets are well formed (crate sheet).
use mathlib.Core.Path.{◌≡◌, refl, sym, ap, ◌∙◌, subst}
use mathlib.Core.Logic.{inl, inr, ⊎_elim}
use mathlib.Core.Bool.{true, false, false≢true}
use mathlib.Core.List.{[], ◌∷◌, Memᴰ}
use Prim.Native.Nat.{ℕ, ◌≤◌, ◌<◌}
use native.Mathlib.Omega.{arith}
use lib.Dec.{leb}
use lib.ListN.{length}
use borrow.Author.Tests.{leb-true, leb-false}
use Rattle.answer.specs.declared.Answer.{Answer}
use Rattle.answer.specs.declared.Answer.TheVariants.{Done, Table, Source, Destination, Path, Count, Room, Channel, Full, Symbols}
use Rattle.answer.specs.declared.Values.{Values}
use Rattle.datatype.specs.Datatype.{Datatype, size}
use Rattle.datatype.specs.Paths.{has_path}
use Rattle.datatype.specs.SymbolSets.{keeps_symbols}
use Rattle.datatype.proofs.Tests.{and_true, and_false}
use Rattle.datatype.proofs.HasPath.{has_path_lem}
use Rattle.datatype.proofs.SymbolSets.{lost_symbol}
use Rattle.sheet.specs.Sheet.{sheet_of}
use Rattle.sheet.specs.Sheet.Sheet.{of_type}
use Rattle.sheet.proofs.FirstFault.{first_fault, whole}
use Rattle.sheet.proofs.ReadWellFormed.{read_well_formed}
use Rattle.runs.specs.Run.{on_checked, has_room}
use Rattle.runs.specs.Run.Form.{in_place}
use Rattle.runs.specs.Run.Checked.{passed}
use Rattle.runs.proofs.Refusals.{one_type, not_faulty, of_types, by_types, same_types, one_line, too_short, not_too_short, RefusalTable, None, Right, by_test, by_sheet, right_row, right_first, right_done, right_none}
use Rattle.runs.proofs.Refusals.Right.{none_given}
use Rattle.channels.specs.Channels as leaves
use Rattle.channels.specs.Channels.{channels, all_narrow}
use Rattle.channels.specs.Report.{words, takes}
use Rattle.channels.specs.EachLeaf.{channel_at}
use Rattle.channels.proofs.EachLeaf.{each_once}
use Rattle.channels.proofs.Full.{narrow_each, wide_one}
use Rattle.channels.proofs.Takes.{not_taken, taken}
use Rattle.reports.specs.Call.{Call, width, held_before, text, room_for, type_checks, checks, answer}
use Rattle.report_promises.specs.Demand1.{OfReader, OfTypes, WiderLeaf, Row, number, Given, order, Fields, DoneFields, answer_fields, Demand1}
use Rattle.report_promises.specs.Demand1.Row.{TABLE, SOURCE, DESTINATION, CHANNEL, PATH, SYMBOLS, COUNT, ROOM, FULL, OUTPUT}

abbrev rows : Call → RefusalTable
rows c = record { Row = Row; number = number; Given = Given c; Fields = Fields c; DoneFields = DoneFields c }

-- what is answered where the checks pass
abbrev passing : Call → Datatype → Datatype → Answer
passing c S D = Done (length (text c S D))

-- ---- the reader's type

module _ (c : Call) (D : Datatype) (d : sheet_of c.reader_sheet ≡ of_type D) where
  of_reader : {holds : Datatype → Type 0} → holds D → OfReader c holds
  of_reader h = (D, (whole c.reader_sheet D).0 d, h)

  by_reader : {holds : Datatype → Type 0} → OfReader c holds → holds D
  by_reader {holds} (T, w, h) = subst holds (one_type c.reader_sheet w d) h

  -- a wider leaf is a channel that is not narrow
  wider : all_narrow (channels D) ≡ false → WiderLeaf D
  wider e =
      let x = wide_one (channels D) e in
      let i = (each_once D (read_well_formed c.reader_sheet D d)).only x.0 x.1 in
      record { byte = x.0.at; layout = i.0; leaf = i.1; wider = subst (λ (k : ℕ). 32 < k) (ap (λ (y : leaves.Channel). y.precision) i.2) x.2 }

  not_wider : all_narrow (channels D) ≡ true → ¬ (WiderLeaf D)
  not_wider e w =
      let m : Memᴰ (channel_at w.byte w.layout) (channels D) = (each_once D (read_well_formed c.reader_sheet D d)).every w.byte w.layout w.leaf in
      omega (arith, narrow_each (channels D) e (channel_at w.byte w.layout) m, w.wider)

-- ---- row by row, behind both sheets

module _ (c : Call) (S D : Datatype) (s : sheet_of c.source_sheet ≡ of_type S) (d : sheet_of c.reader_sheet ≡ of_type D) where
  of : {holds : Datatype → Datatype → Type 0} → holds S D → OfTypes c holds
  of h = of_types c.source_sheet c.reader_sheet S D s d h

  by : {holds : Datatype → Datatype → Type 0} → OfTypes c holds → holds S D
  by h = by_types c.source_sheet c.reader_sheet S D s d h

  types_right : Right (rows c) (CHANNEL ∷ PATH ∷ SYMBOLS ∷ COUNT ∷ ROOM ∷ FULL ∷ OUTPUT ∷ []) (on_checked (passing c) (λ refusal. refusal) (type_checks c S D))
  types_right =
      let x : ℕ = length c.log in
      let y : ℕ = length c.background in
      let m : ℕ = length c.memory in
      let path = has_path_lem S D (read_well_formed c.reader_sheet D d) in
      let symbols = lost_symbol S D (read_well_formed c.source_sheet S s) (read_well_formed c.reader_sheet D d) in
      let buffers = has_room in_place c.count (size S) (size D) x y in
      let memory = leb (words (width D)) m in
      by_test (rows c) CHANNEL (passing c) (all_narrow (channels D)) Channel _ refl refl
      (λ e. of_reader c D d (wider c D d e))
      (λ e g. not_wider c D d e (by_reader c D d g))
      λ e. by_test (rows c) PATH (passing c) (has_path S D) Path _ refl refl
      (λ e. of (λ h. false≢true (sym e ∙ path.1 h)))
      (λ e g. by g (path.0 e))
      λ e. by_test (rows c) SYMBOLS (passing c) (keeps_symbols S D) Symbols _ refl refl
      (λ e. of (symbols.0 e))
      (λ e g. false≢true (sym (symbols.1 (by g)) ∙ e))
      λ e. by_test (rows c) COUNT (passing c) (leb c.count 65536) Count _ refl refl
      (λ e. leb-false c.count 65536 e)
      (λ e g. omega (arith, leb-true c.count 65536 e, g))
      λ e. by_test (rows c) ROOM (passing c) (room_for c S D) Room _ refl refl
      (λ e. of (⊎_elim (λ (f : buffers ≡ false). inl (too_short in_place c.count (size S) (size D) x y f)) (λ f. inr (leb-false (words (width D)) m f)) (and_false buffers memory e)))
      (λ e g.
      let both = and_true buffers memory e in
      ⊎_elim (not_too_short in_place c.count (size S) (size D) x y both.0) (λ l. omega (arith, leb-true (words (width D)) m both.1, l)) (by g))
      λ e. by_test (rows c) FULL (passing c) (takes c.count (held_before c D)) Full _ refl refl
      (λ e. of_reader c D d (not_taken c.count (width D) c.memory e))
      (λ e g. taken c.count (width D) c.memory e (by_reader c D d g))
      λ e. by_test (rows c) OUTPUT (passing c) (leb (length (text c S D)) (length c.output)) Room (passed S D) refl refl
      (λ e. of (leb-false (length (text c S D)) (length c.output) e))
      (λ e g. omega (arith, leb-true (length (text c S D)) (length c.output) e, by g))
      λ e. none_given tt refl (of refl)

right : (c : Call) → Right (rows c) order (answer c)
unfolding answer checks
right c =
    by_test (rows c) TABLE (passing c) (leb 8192 (length c.table)) Table _ refl refl
    (λ e. leb-false 8192 (length c.table) e)
    (λ e g. omega (arith, leb-true 8192 (length c.table) e, g))
    λ t. by_sheet (rows c) SOURCE (passing c) (sheet_of c.source_sheet) Source _ (λ k. refl)
    (λ k e. let f = (first_fault c.source_sheet k).0 e in ((k, f), (k, f, refl)))
    (λ S e. not_faulty c.source_sheet S e)
    λ S s. by_sheet (rows c) DESTINATION (passing c) (sheet_of c.reader_sheet) Destination _ (λ k. refl)
    (λ k e. let f = (first_fault c.reader_sheet k).0 e in ((k, f), (k, f, refl)))
    (λ D e. not_faulty c.reader_sheet D e)
    λ D d. types_right c S D s d

-- ---- rows

each_not : (c : Call) → None (rows c) order → (row : Row) → ¬ (Given c row)
each_not c n TABLE = n.0
each_not c n SOURCE = n.1.0
each_not c n DESTINATION = n.1.1.0
each_not c n CHANNEL = n.1.1.1.0
each_not c n PATH = n.1.1.1.1.0
each_not c n SYMBOLS = n.1.1.1.1.1.0
each_not c n COUNT = n.1.1.1.1.1.1.0
each_not c n ROOM = n.1.1.1.1.1.1.1.0
each_not c n FULL = n.1.1.1.1.1.1.1.1.0
each_not c n OUTPUT = n.1.1.1.1.1.1.1.1.1.0

some_number : (row : Row) → 1 ≤ number row
some_number TABLE = omega arith
some_number SOURCE = omega arith
some_number DESTINATION = omega arith
some_number CHANNEL = omega arith
some_number PATH = omega arith
some_number SYMBOLS = omega arith
some_number COUNT = omega arith
some_number ROOM = omega arith
some_number FULL = omega arith
some_number OUTPUT = omega arith

one_fields : (c : Call) (row : Row) {v w : Values} → Fields c row v → Fields c row w → v ≡ w
one_fields c TABLE p q = p ∙ sym q
one_fields c SOURCE p q = one_line c.source_sheet p.1 p.2 q.1 q.2
one_fields c DESTINATION p q = one_line c.reader_sheet p.1 p.2 q.1 q.2
one_fields c CHANNEL p q = p ∙ sym q
one_fields c PATH p q = p ∙ sym q
one_fields c SYMBOLS p q = p ∙ sym q
one_fields c COUNT p q = p ∙ sym q
one_fields c ROOM p q = p ∙ sym q
one_fields c FULL p q = p ∙ sym q
one_fields c OUTPUT p q = p ∙ sym q

one_done : (c : Call) {v w : Values} → DoneFields c v → DoneFields c w → v ≡ w
one_done c p q = let t = same_types c.source_sheet c.reader_sheet p q in t.2 ∙ sym t.3

-- ---- the promise

-- Demand 1 for the report: the answer has each number of the table exactly when its row says so and no check before it does, and no other number, with the
-- fields beside it.
pub demand_1 : (c : Call) → Demand1 c
demand_1 c =
    record {
      refused = λ k l.
          (λ e. let x = right_row (rows c) (omega (arith, e, l)) (right c) in (x.0, x.1 ∙ e, x.2), λ p. (right_first (rows c) p.0 p.2 (right c)).0 ∙ p.1);
      done = (λ e. each_not c (right_done (rows c) some_number e (right c)).0, λ n. right_none (rows c) n (right c));
      fields = λ row p v.
          let f : Fields c row (answer_fields c) = (right_first (rows c) row p (right c)).1 in
          (λ e. subst (Fields c row) e f, λ g. one_fields c row f g);
      done_fields = λ e v.
          let f : DoneFields c (answer_fields c) = (right_done (rows c) some_number e (right c)).1 in
          (λ p. subst (DoneFields c) p f, λ g. one_done c f g);
    }

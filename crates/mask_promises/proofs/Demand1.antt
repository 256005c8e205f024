-- Demand 1 for a call that asks which bits of the source show: the answer's number and fields are those that the table says. Assumes nothing: the types of sheets
-- are well formed (crate sheet).
use mathlib.Core.Path.{◌≡◌, refl, sym, ◌∙◌, subst}
use mathlib.Core.Bool.{false≢true}
use mathlib.Core.List.{[], ◌∷◌}
use Prim.Native.Nat.{◌≤◌}
use native.Mathlib.Omega.{arith}
use lib.Dec.{leb}
use lib.ListN.{length}
use borrow.Author.Tests.{leb-true, leb-false}
use Rattle.answer.specs.declared.Answer.{Answer}
use Rattle.answer.specs.declared.Answer.TheVariants.{Done, Table, Source, Destination, Path, Room, Symbols}
use Rattle.answer.specs.declared.Values.{Values}
use Rattle.datatype.specs.Datatype.{Datatype, size}
use Rattle.datatype.specs.Paths.{has_path}
use Rattle.datatype.specs.SymbolSets.{keeps_symbols}
use Rattle.datatype.proofs.HasPath.{has_path_lem}
use Rattle.datatype.proofs.SymbolSets.{lost_symbol}
use Rattle.sheet.specs.Sheet.{sheet_of}
use Rattle.sheet.specs.Sheet.Sheet.{of_type}
use Rattle.sheet.proofs.FirstFault.{first_fault}
use Rattle.sheet.proofs.ReadWellFormed.{read_well_formed}
use Rattle.runs.specs.Run.{on_checked}
use Rattle.runs.specs.Run.Checked.{passed}
use Rattle.runs.proofs.Refusals.{not_faulty, of_types, by_types, same_types, one_line, RefusalTable, None, Right, by_test, by_sheet, right_row, right_first, right_done, right_none}
use Rattle.runs.proofs.Refusals.Right.{none_given}
use Rattle.reaches.specs.Call.{Call, type_checks, checks, answer}
use Rattle.mask_promises.specs.Demand1.{OfTypes, Row, number, Given, order, Fields, DoneFields, answer_fields, Demand1}
use Rattle.mask_promises.specs.Demand1.Row.{TABLE, SOURCE, DESTINATION, PATH, SYMBOLS, ROOM}

abbrev rows : Call → RefusalTable
rows c = record { Row = Row; number = number; Given = Given c; Fields = Fields c; DoneFields = DoneFields c }

-- what is answered where the checks pass
abbrev passing : Datatype → Datatype → Answer
passing S D = Done (size S)

-- ---- row by row, behind both sheets

module _ (c : Call) (S D : Datatype) (s : sheet_of c.source_sheet ≡ of_type S) (d : sheet_of c.destination_sheet ≡ of_type D) where
  of : {holds : Datatype → Datatype → Type 0} → holds S D → OfTypes c holds
  of h = of_types c.source_sheet c.destination_sheet S D s d h

  by : {holds : Datatype → Datatype → Type 0} → OfTypes c holds → holds S D
  by h = by_types c.source_sheet c.destination_sheet S D s d h

  types_right : Right (rows c) (PATH ∷ SYMBOLS ∷ ROOM ∷ []) (on_checked passing (λ refusal. refusal) (type_checks c S D))
  types_right =
      let path = has_path_lem S D (read_well_formed c.destination_sheet D d) in
      let symbols = lost_symbol S D (read_well_formed c.source_sheet S s) (read_well_formed c.destination_sheet D d) in
      by_test (rows c) PATH passing (has_path S D) Path _ refl refl
      (λ e. of (λ h. false≢true (sym e ∙ path.1 h)))
      (λ e g. by g (path.0 e))
      λ e. by_test (rows c) SYMBOLS passing (keeps_symbols S D) Symbols _ refl refl
      (λ e. of (symbols.0 e))
      (λ e g. false≢true (sym (symbols.1 (by g)) ∙ e))
      λ e. by_test (rows c) ROOM passing (leb (size S) (length c.mask)) Room (passed S D) refl refl
      (λ e. of (leb-false (size S) (length c.mask) e))
      (λ e g. omega (arith, leb-true (size S) (length c.mask) e, by g))
      λ e. none_given tt refl (of refl)

right : (c : Call) → Right (rows c) order (answer c)
unfolding answer checks
right c =
    by_test (rows c) TABLE passing (leb 8192 (length c.table)) Table _ refl refl
    (λ e. leb-false 8192 (length c.table) e)
    (λ e g. omega (arith, leb-true 8192 (length c.table) e, g))
    λ t. by_sheet (rows c) SOURCE passing (sheet_of c.source_sheet) Source _ (λ k. refl)
    (λ k e. let f = (first_fault c.source_sheet k).0 e in ((k, f), (k, f, refl)))
    (λ S e. not_faulty c.source_sheet S e)
    λ S s. by_sheet (rows c) DESTINATION passing (sheet_of c.destination_sheet) Destination _ (λ k. refl)
    (λ k e. let f = (first_fault c.destination_sheet k).0 e in ((k, f), (k, f, refl)))
    (λ D e. not_faulty c.destination_sheet D e)
    λ D d. types_right c S D s d

-- ---- rows

each_not : (c : Call) → None (rows c) order → (row : Row) → ¬ (Given c row)
each_not c n TABLE = n.0
each_not c n SOURCE = n.1.0
each_not c n DESTINATION = n.1.1.0
each_not c n PATH = n.1.1.1.0
each_not c n SYMBOLS = n.1.1.1.1.0
each_not c n ROOM = n.1.1.1.1.1.0

some_number : (row : Row) → 1 ≤ number row
some_number TABLE = omega arith
some_number SOURCE = omega arith
some_number DESTINATION = omega arith
some_number PATH = omega arith
some_number SYMBOLS = omega arith
some_number ROOM = omega arith

one_fields : (c : Call) (row : Row) {v w : Values} → Fields c row v → Fields c row w → v ≡ w
one_fields c TABLE p q = p ∙ sym q
one_fields c SOURCE p q = one_line c.source_sheet p.1 p.2 q.1 q.2
one_fields c DESTINATION p q = one_line c.destination_sheet p.1 p.2 q.1 q.2
one_fields c PATH p q = p ∙ sym q
one_fields c SYMBOLS p q = p ∙ sym q
one_fields c ROOM p q = p ∙ sym q

one_done : (c : Call) {v w : Values} → DoneFields c v → DoneFields c w → v ≡ w
one_done c p q = let t = same_types c.source_sheet c.destination_sheet p q in t.2 ∙ sym t.3

-- ---- the promise

-- The answer has each number of the table exactly when its row says so and no check before it does, and no other number, with the fields beside it.
pub demand_1 : (c : Call) → Demand1 c
demand_1 c =
    record {
      refused = λ k l.
          (λ e. let x = right_row (rows c) (omega (arith, e, l)) (right c) in (x.0, x.1 ∙ e, x.2), λ p. (right_first (rows c) p.0 p.2 (right c)).0 ∙ p.1);
      done = (λ e. each_not c (right_done (rows c) some_number e (right c)).0, λ n. right_none (rows c) n (right c));
      fields = λ row p v.
          let f : Fields c row (answer_fields c) = (right_first (rows c) row p (right c)).1 in
          (λ e. subst (Fields c row) e f, λ g. one_fields c row f g);
      done_fields = λ e v.
          let f : DoneFields c (answer_fields c) = (right_done (rows c) some_number e (right c)).1 in
          (λ p. subst (DoneFields c) p f, λ g. one_done c f g);
    }

-- What a call of the report can turn on. Assumes nothing.
use mathlib.Core.Path.{◌≡◌, refl, sym, ap, ap₂, ◌∙◌}
use mathlib.Core.Logic.{◌⊎◌, inl, inr, ⊎_elim}
use mathlib.Core.Bool.{Bool, true, false}
use mathlib.Core.List.{List}
use Prim.Native.Nat.{ℕ, ◌*◌, ◌<◌}
use native.Mathlib.Nat.{le_refl}
use lib.Dec.{leb}
use lib.ListN.{length, take}
use lib.IntN.{ℤ}
use borrow.Author.Tests.{le-leb}
use Rattle.answer.specs.declared.Answer.{Answer}
use Rattle.answer.specs.declared.Answer.TheVariants.{Done, Table, Source, Destination, Path, Count, Room, Channel, Full, Symbols}
use Rattle.answer.specs.Answer.{number_of}
use Rattle.datatype.specs.Datatype.{Datatype, size}
use Rattle.datatype.specs.Paths.{has_path}
use Rattle.datatype.specs.SymbolSets.{keeps_symbols}
use Rattle.sheet.specs.Sheet.{Sheet, sheet_of}
use Rattle.sheet.specs.Sheet.Sheet.{of_type, faulty_at}
use Rattle.records.specs.Records.{readings}
use Rattle.records.specs.Records as records
use Rattle.records.specs.Matched.{Agree}
use Rattle.records.proofs.ManyRecords.{agree_readings, same_converted}
use Rattle.records.proofs.Results.{in_place_cleared}
use Rattle.runs.specs.Run.{Checked, require, with_sheet}
use Rattle.runs.specs.Run.Form.{in_place}
use Rattle.runs.specs.Run.Checked.{refused, passed}
use Rattle.runs.specs.Parts.{converted_bytes, cleared_tail, zeros}
use Rattle.runs.proofs.Checks.{refused_or_passed}
use Rattle.channels.specs.Channels.{channels, all_narrow}
use Rattle.channels.specs.Report.{Report, added, held_in, holding, takes}
use Rattle.channels.specs.Shown.{shown}
use Rattle.channels.proofs.Added.{added_alike}
use Rattle.reports.specs.Call.{Call, width, held_before, report_of, text, room_for, type_checks, checks, answer, log_after}
use Rattle.reports.specs.Parts.{IsDone, Types, background_records, converted_records}
use Rattle.reports.proofs.Checks.{answer_refused, memory_refused, written_refused, done_passed, answer_is, log_is, memory_is, written_is, source_formed_lem, reader_formed_lem, reader_size_lem, background_room_lem, converted_is}
use Rattle.report_promises.specs.Kept.{Unchanged}
use Rattle.report_promises.specs.Turns.{SameCall, SameReport, with_output, RefusedBeforeOutput, TurnsOn}
use Rattle.report_promises.proofs.Kept.{refused_unchanged}

-- ---- the checks before the last one

-- all but the last
abbrev early_types : Call → Datatype → Datatype → Checked
early_types c S D =
    require (all_narrow (channels D)) Channel
    (require (has_path S D) Path
    (require (keeps_symbols S D) Symbols
    (require (leb c.count 65536) Count
    (require (room_for c S D) Room
    (require (takes c.count (held_before c D)) Full
    (passed S D))))))

abbrev early : Call → Checked
early c =
    require (leb 8192 (length c.table)) Table
    (with_sheet (sheet_of c.source_sheet) Source (λ S. with_sheet (sheet_of c.reader_sheet) Destination (λ D. early_types c S D)))

-- and the last one behind them
abbrev lastly : Call → Checked → Checked
lastly c (refused a) = refused a
lastly c (passed S D) = require (leb (length (text c S D)) (length c.output)) Room (passed S D)

lastly_behind : (c : Call) (t : Bool) (a : Answer) (x y : Checked) → lastly c x ≡ y → lastly c (require t a x) ≡ require t a y
lastly_behind c true a x y e = e
lastly_behind c false a x y e = refl

checks_lastly : (c : Call) → checks c ≡ lastly c (early c)
unfolding checks
checks_lastly c = sym (lastly_behind c (leb 8192 (length c.table)) Table _ _ (sheets (sheet_of c.source_sheet) (sheet_of c.reader_sheet)))
  where
    types : (S D : Datatype) → lastly c (early_types c S D) ≡ type_checks c S D
    types S D =
        lastly_behind c (all_narrow (channels D)) Channel _ _
        (lastly_behind c (has_path S D) Path _ _
        (lastly_behind c (keeps_symbols S D) Symbols _ _
        (lastly_behind c (leb c.count 65536) Count _ _
        (lastly_behind c (room_for c S D) Room _ _
        (lastly_behind c (takes c.count (held_before c D)) Full (passed S D) _ refl)))))

    sheets : (x y : Sheet)
        → lastly c (with_sheet x Source (λ S. with_sheet y Destination (λ D. early_types c S D))) ≡ with_sheet x Source (λ S. with_sheet y Destination (λ D. type_checks c S D))
    sheets (of_type S) (of_type D) = types S D
    sheets (of_type S) (faulty_at k) = refl
    sheets (faulty_at k) y = refl

-- an output of just enough room
text_there : (c : Call) (output : List ℕ) (S D : Datatype) → text (with_output c output) S D ≡ text c S D
unfolding report_of
text_there c output S D = refl

fitting : (c : Call) (S D : Datatype) → early c ≡ passed S D → IsDone (with_output c (text c S D))
fitting c S D e =
    let o : Call = with_output c (text c S D) in
    let k : ℕ = length (text c S D) in
    let fits : leb (length (text o S D)) k ≡ true = ap (λ (l : List ℕ). leb (length l) k) (text_there c (text c S D) S D) ∙ le-leb k k (le_refl k) in
    ap number_of (answer_is o S D (checks_lastly o ∙ ap (lastly o) e ∙ ap (λ (t : Bool). require t Room (passed S D)) fits))

early_refused : (c : Call) → RefusedBeforeOutput c → (a : Answer) × (early c ≡ refused a)
early_refused c n = at (refused_or_passed (early c))
  where
    at : ((a : Answer) × (early c ≡ refused a)) ⊎ ((S : Datatype) × (D : Datatype) × (early c ≡ passed S D)) → (a : Answer) × (early c ≡ refused a)
    at (inl x) = x
    at (inr (S, D, e)) = absurd (n (text c S D) (fitting c S D e))

module _ (c e : Call) (s : SameCall c e) where
  same_early : early c ≡ early e
  same_early = rw (s.source_sheet, s.reader_sheet, s.count, s.log, s.background, s.memory, s.table)

  refused_alike : RefusedBeforeOutput c ⊎ RefusedBeforeOutput e → (answer c ≡ answer e) × Unchanged c × Unchanged e
  refused_alike n = at (⊎_elim (λ (x : RefusedBeforeOutput c). early_refused c x) (λ x. let y = early_refused e x in (y.0, same_early ∙ y.1)) n)
    where
      is : (x : Call) (a : Answer) → early x ≡ refused a → checks x ≡ refused a
      is x a f = checks_lastly x ∙ ap (lastly x) f

      at : (a : Answer) × (early c ≡ refused a) → (answer c ≡ answer e) × Unchanged c × Unchanged e
      at (a, f) =
          let p : checks c ≡ refused a = is c a f in
          let q : checks e ≡ refused a = is e a (sym same_early ∙ f) in
          (answer_refused c a p ∙ sym (answer_refused e a q), refused_unchanged c a p, refused_unchanged e a q)

  -- ---- agreeing on every matched number

  module _ (S D : Datatype) (t : Types c S D) (agree : Agree S D c.count c.log e.log) where
    types : Types e S D
    types = record { source = rw (← s.source_sheet) t.source; reader = rw (← s.reader_sheet) t.reader }

    readings_alike : (i : ℕ) → i < c.count → readings S D c.log i ≡ readings S D e.log i
    readings_alike = agree_readings S D c.count c.log e.log agree

    same_reports : report_of c S D ≡ report_of e S D
    unfolding report_of
    same_reports =
        added_alike S D c.count (readings S D c.log) (readings S D e.log) (channels D) (held_in (width D) c.memory) readings_alike
        ∙ ap₂ (λ (n : ℕ) (m : List ℤ). added S D n (readings S D e.log) (channels D) (held_in (width D) m)) s.count s.memory

    same_text : text c S D ≡ text e S D
    same_text = ap (λ (x : Report). shown (channels D) x.rows) same_reports

    same_type_checks : type_checks c S D ≡ type_checks e S D
    same_type_checks = rw (same_text, s.count, s.log, s.background, s.memory, s.output)

    same_checks : checks c ≡ checks e
    unfolding checks
    same_checks = rw (t.source, t.reader, types.source, types.reader, s.table) (ap (require (leb 8192 (length e.table)) Table) same_type_checks)

    same_report : SameReport c e
    same_report = at (refused_or_passed (checks c))
      where
        at : ((a : Answer) × (checks c ≡ refused a)) ⊎ ((U : Datatype) × (W : Datatype) × (checks c ≡ passed U W)) → SameReport c e
        at (inl (a, p)) =
            let q : checks e ≡ refused a = sym same_checks ∙ p in
            record {
              answer = answer_refused c a p ∙ sym (answer_refused e a q);
              memory = memory_refused c a p ∙ s.memory ∙ sym (memory_refused e a q);
              text = written_refused c a p ∙ sym (written_refused e a q);
            }
        at (inr (U, W, p)) =
            let pc : checks c ≡ passed S D = done_passed c S D t (ap number_of (answer_is c U W p)) in
            let pe : checks e ≡ passed S D = sym same_checks ∙ pc in
            record {
              answer = answer_is c S D pc ∙ ap (λ (x : List ℕ). Done (length x)) same_text ∙ sym (answer_is e S D pe);
              memory =
                  memory_is c S D pc ∙ ap₂ (λ (x : Report) (m : List ℤ). holding (width D) x m) same_reports s.memory ∙ sym (memory_is e S D pe);
              text = written_is c S D pc ∙ same_text ∙ sym (written_is e S D pe);
            }

    module _ (back : background_records c ≡ background_records e) (d : IsDone c) where
      pc : checks c ≡ passed S D
      pc = done_passed c S D t d

      pe : checks e ≡ passed S D
      pe = sym same_checks ∙ pc

      converted_alike : converted_bytes D c.count (log_after c) ≡ converted_bytes D e.count (log_after e)
      converted_alike =
          converted_bytes_lem c pc
          ∙ same_converted S D c.count (readings S D c.log) (readings S D e.log) c.background e.background (background_room_lem c S D pc)
          (rw s.count (background_room_lem e S D pe)) same_back readings_alike
          ∙ ap (λ (n : ℕ). records.converted_records S D n (readings S D e.log) e.background) s.count
          ∙ sym (converted_bytes_lem e pe)
        where
          converted_bytes_lem : (x : Call) → checks x ≡ passed S D → converted_bytes D x.count (log_after x) ≡ records.converted_records S D x.count (readings S D x.log) x.background
          converted_bytes_lem x p = rw (reader_size_lem x S D p) at (converted_is x S D p)

          same_back : take (c.count * size D) c.background ≡ take (c.count * size D) e.background
          same_back = rw (reader_size_lem c S D pc, reader_size_lem e S D pe, ← s.count) at back

      cleared_alike : cleared_tail in_place S D c.count (log_after c) ≡ cleared_tail in_place S D e.count (log_after e)
      cleared_alike = tail c pc ∙ ap (zeros in_place S D) s.count ∙ sym (tail e pe)
        where
          tail : (x : Call) → checks x ≡ passed S D → cleared_tail in_place S D x.count (log_after x) ≡ zeros in_place S D x.count
          tail x p =
              ap (cleared_tail in_place S D x.count) (log_is x S D p)
              ∙ in_place_cleared S D (source_formed_lem x S D p) (reader_formed_lem x S D p) x.count x.log x.background (background_room_lem x S D p)

-- ---- the promise

-- Of two calls with the same sheets, count, lent lengths and memory at entry: agreeing on every matched number they give the same answer and report, over the
-- same background the same log; refused before the output's room is judged, they answer the same.
pub turns_on : (c e : Call) → SameCall c e → TurnsOn c e
turns_on c e s =
    record {
      same = same_report c e s;
      same_log = λ S D t agree back d. record { converted = converted_alike c e s S D t agree back d; cleared = cleared_alike c e s S D t agree back d };
      refused = refused_alike c e s;
    }

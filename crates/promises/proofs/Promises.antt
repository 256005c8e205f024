-- Demand 2, what a call leaves, and demand 3, what its result turns on, over all records and in every form. Assumes nothing: the types of sheets are well formed
-- (crate sheet).
use mathlib.Core.Path.{◌≡◌, refl, sym, ap, ap₂, ◌∙◌, subst, subst₂}
use mathlib.Core.Logic.{◌⊎◌, inl, inr, ⊎_elim}
use mathlib.Core.List.{List}
use mathlib.Core.Option.{some}
use Prim.Native.Nat.{ℕ, zero, suc, ◌*◌, ◌≤◌, ◌<◌}
use native.Mathlib.Omega.{arith}
use lib.Dec.{leb}
use lib.ListN.{length, take, drop}
use borrow.Author.Tests.{le-leb, leb-true}
use Rattle.answer.specs.declared.Answer.{Answer}
use Rattle.answer.specs.declared.Answer.TheVariants.{Done, Handling, Table, Room, Symbols}
use Rattle.answer.specs.Answer.{number_of, values_of}
use Rattle.number.specs.Place.{place, stored}
use Rattle.datatype.specs.Datatype.{Leaf, layout_of, Datatype, size}
use Rattle.datatype.specs.Matches.Match.{matched}
use Rattle.datatype.specs.WellFormed.{WellFormedLeaf, WellFormed}
use Rattle.datatype.specs.SymbolSets.{LostSymbol, EqualSymbols}
use Rattle.datatype.specs.Handling.{handling_at}
use Rattle.datatype.proofs.Ways.{way_starts, match_way}
use Rattle.datatype.proofs.Matches.{match_formed, match_path, path_back}
use Rattle.datatype.proofs.Handling.{handling_most}
use Rattle.datatype.proofs.SymbolSets.{each_stands, lost_symbol, equal_back, equal_or_lost}
use Rattle.sheet.specs.Sheet.{sheet_of}
use Rattle.sheet.proofs.ReadWellFormed.{read_well_formed}
use Rattle.records.specs.Leaf.{number_in}
use Rattle.records.specs.Arrival.{stands_for}
use Rattle.records.specs.Record.{kind_at}
use Rattle.records.specs.Records.{record_at, readings, converted_at, converted_records, exceptions}
use Rattle.records.specs.Matched.{MatchedLeaf, matched_number, Agree}
use Rattle.records.proofs.OneLeaf.{InRange, read_in_range, arrives}
use Rattle.records.proofs.OneRecord.{converted_place, read_converted, reading_at, converted_keeps}
use Rattle.records.proofs.ManyRecords.{record_length, in_none, converted_in, agree_readings, same_converted, same_bytes, returns_quiet, returns_same}
use Rattle.records.proofs.Matched.{bits_agree, agree_bits}
use Rattle.runs.specs.Run.{Form, Run, handled, result, checks_of, checks, answer, after, cleared}
use Rattle.runs.specs.Run.Form.{in_place}
use Rattle.runs.specs.Run.Checked.{refused, passed}
use Rattle.runs.specs.Parts.{converted_bytes, cleared_tail, zeros, later_bytes}
use Rattle.runs.proofs.Checks.{done_is, stop_is, refused_or_passed, passed_tells, tells_passed, symbols_refused, room_behind, Early, refused_early, in_place_checks, table_long}
use Rattle.runs.proofs.Exceptions.{handled_quiet, quiet_handled, handled_first, same_handled, handled_number, handled_count, handled_clamped}
use Rattle.runs.proofs.Buffers.{answer_refused, after_refused, answer_is, after_is, after_cases, result_none, result_converted, result_cleared, result_later, result_length}
use Rattle.runs.proofs.Table.{cleared_zero, cleared_beyond, cleared_length, table_cases}
use Rattle.promises.proofs.Stops.{kind_of_lem, first_leaf, first_record, first_byte, first_given}
use Rattle.promises.proofs.WithoutSymbol.{kind_3_of}
use Rattle.promises.specs.Runs.{answer_number, answer_fields, SameAnswer, IsDone, DoneWithoutException, RefusedBeforeStop, Types, before, SameConverted, becomes}
use Rattle.promises.specs.Demand2.{from_copy, AsFromCopy, KindThree, record_of, arrived_number, Arrived, Stopped, Uncovered, Kept}
use Rattle.promises.specs.WayBack.{WayBack, Returned, OnlyWhereEqual}
use Rattle.promises.specs.WorkingTable.{table, TableKept}
use Rattle.promises.specs.Demand3.{SameCall, SameBackground, SameCleared, SameEffect, Demand3, OnSignificantBits}

-- ---- answers

pub same_answer : (r q : Run) → answer r ≡ answer q → SameAnswer r q
same_answer r q e = record { number = ap number_of e; fields = ap values_of e }

done_zero : (r : Run) → DoneWithoutException r → answer r ≡ Done 0
done_zero r d = done_is (answer r) d.done ∙ ap Done d.count

zero_done : (r : Run) → answer r ≡ Done 0 → DoneWithoutException r
zero_done r e = record { done = ap number_of e; count = ap (λ (a : Answer). (values_of a).count) e }

pub refused_before : (r : Run) (a : Answer) → checks r ≡ refused a → RefusedBeforeStop r
refused_before r a c =
    subst Early (sym (ap number_of (answer_refused r a c))) (refused_early r a c)

-- done or stopped is not refused before STOP
pub not_early : {k : ℕ} → (k ≡ 0) ⊎ (k ≡ 8) → ¬ (Early k)
not_early (inl e) (inl n) = omega (arith, e, n.0)
not_early (inl e) (inr n) = omega (arith, e, n)
not_early (inr e) (inl n) = omega (arith, e, n.1)
not_early (inr e) (inr n) = omega (arith, e, n)

pub passed_not_before : (r : Run) (S D : Datatype) → checks r ≡ passed S D → ¬ (RefusedBeforeStop r)
passed_not_before r S D c n =
    not_early (handled_number S D r.handling r.count (readings S D r.source)) (subst Early (ap number_of (answer_is r S D c)) n)

-- the checks pass with the types of the sheets
pub passed_types : (r : Run) (S D : Datatype) → Types r S D → (U W : Datatype) → checks r ≡ passed U W → checks r ≡ passed S D
passed_types r S D t U W c =
    let p = passed_tells r U W c in
    let i : U ≡ S = cc (t.source, p.source) in
    let j : W ≡ D = cc (t.destination, p.destination) in
    subst₂ (λ (X Y : Datatype). checks r ≡ passed X Y) i j c

pub passes : (r : Run) (S D : Datatype) → Types r S D → ¬ (RefusedBeforeStop r) → checks r ≡ passed S D
passes r S D t n =
    ⊎_elim (λ (x : (a : Answer) × (checks r ≡ refused a)). absurd (n (refused_before r x.0 x.1)))
    (λ (x : (U : Datatype) × (W : Datatype) × (checks r ≡ passed U W)). passed_types r S D t x.0 x.1 x.2) (refused_or_passed (checks r))

done_passes : (r : Run) (S D : Datatype) → Types r S D → IsDone r → checks r ≡ passed S D
done_passes r S D t d = passes r S D t (not_early (inl d))

-- ---- a run that no check before STOP refuses

module _ (r : Run) (S D : Datatype) (c : checks r ≡ passed S D) where
  source_formed_lem : WellFormed S
  source_formed_lem = read_well_formed r.source_sheet S (passed_tells r S D c).source

  destination_formed_lem : WellFormed D
  destination_formed_lem = read_well_formed r.destination_sheet D (passed_tells r S D c).destination

  pub room : r.count * size D ≤ length r.background
  room = room_behind r.form r.count (size S) (size D) (length r.source) (length r.background) (passed_tells r S D c).room

  -- where it is done, its converted bytes are the records made of what was read
  pub converted_is : IsDone r → converted_bytes D r.count (after r) ≡ converted_records S D r.count (readings S D r.source) r.background
  converted_is d =
      ap (converted_bytes D r.count) (after_is r S D c (answer_fields r).count (done_is (answer r) d))
      ∙ result_converted S D source_formed_lem destination_formed_lem r.count r.source r.background room r.form

  cleared_is : IsDone r → cleared_tail r.form S D r.count (after r) ≡ zeros r.form S D r.count
  cleared_is d =
      ap (cleared_tail r.form S D r.count) (after_is r S D c (answer_fields r).count (done_is (answer r) d))
      ∙ result_cleared S D source_formed_lem destination_formed_lem r.count r.source r.background room r.form

  later_is : IsDone r → later_bytes r.form S D r.count (after r) ≡ later_bytes r.form S D r.count (before r)
  later_is d =
      ap (later_bytes r.form S D r.count) (after_is r S D c (answer_fields r).count (done_is (answer r) d))
      ∙ result_later S D source_formed_lem destination_formed_lem r.count r.source r.background room r.form

  record_is : (i : ℕ) → IsDone r → i < r.count → record_at (size D) i (after r) ≡ converted_at S D (readings S D r.source) r.background i
  record_is i d l =
      converted_in S D source_formed_lem destination_formed_lem r.count (readings S D r.source) r.background room i (after r) (converted_is d) l

  background_length_lem : (i : ℕ) → i < r.count → length (record_at (size D) i r.background) ≡ size D
  background_length_lem i l = record_length (size D) r.count i r.background room l

  quiet : answer r ≡ Done 0 → exceptions S D r.count (readings S D r.source) ≡ 0
  quiet e = handled_quiet S D r.handling r.count (readings S D r.source) (sym (answer_is r S D c) ∙ e)

-- ---- two runs of one form

module _ (r q : Run) (s : SameCall r q) where
  same_checks : checks r ≡ checks q
  same_checks = cc

  equal_refused : (a : Answer) → checks r ≡ refused a → answer r ≡ answer q
  equal_refused a c = answer_refused r a c ∙ sym (answer_refused q a (sym same_checks ∙ c))

  refused_alike : RefusedBeforeStop r ⊎ RefusedBeforeStop q → SameAnswer r q
  refused_alike n =
      ⊎_elim (λ (x : (a : Answer) × (checks r ≡ refused a)). same_answer r q (equal_refused x.0 x.1))
      (λ (x : (S : Datatype) × (D : Datatype) × (checks r ≡ passed S D)).
      absurd (⊎_elim (passed_not_before r x.0 x.1 x.2) (passed_not_before q x.0 x.1 (sym same_checks ∙ x.2)) n))
      (refused_or_passed (checks r))

  module _ (S D : Datatype) where
    equal_passed : checks r ≡ passed S D → Agree S D r.count r.source q.source → answer r ≡ answer q
    equal_passed c agree =
        answer_is r S D c
        ∙ same_handled S D r.handling r.count (readings S D r.source) (readings S D q.source) (agree_readings S D r.count r.source q.source agree)
        ∙ ap₂ (λ (h n : ℕ). handled h S D n (readings S D q.source)) s.handling s.count
        ∙ sym (answer_is q S D (sym same_checks ∙ c))

    equal_answers : Types r S D → Agree S D r.count r.source q.source → answer r ≡ answer q
    equal_answers t agree =
        ⊎_elim (λ (x : (a : Answer) × (checks r ≡ refused a)). equal_refused x.0 x.1)
        (λ (x : (X : Datatype) × (Y : Datatype) × (checks r ≡ passed X Y)). equal_passed (passed_types r S D t x.0 x.1 x.2) agree)
        (refused_or_passed (checks r))

    module _ (c : checks r ≡ passed S D) where
      pub other : checks q ≡ passed S D
      other = sym same_checks ∙ c

      pub other_room : r.count * size D ≤ length q.background
      other_room = rw s.count (room q S D other)

      -- what q made, told by r's count
      pub other_is : IsDone q → converted_records S D r.count (readings S D q.source) q.background ≡ converted_bytes D q.count (after q)
      other_is d = ap (λ (n : ℕ). converted_records S D n (readings S D q.source) q.background) s.count ∙ sym (converted_is q S D other d)

      same_bytes_made : IsDone r → IsDone q → Agree S D r.count r.source q.source → SameBackground D r q → SameConverted D r q
      same_bytes_made d e agree back =
          converted_is r S D c d
          ∙ same_converted S D r.count (readings S D r.source) (readings S D q.source) r.background q.background (room r S D c) other_room
          (back ∙ ap (λ (n : ℕ). take (n * size D) q.background) (sym s.count)) (agree_readings S D r.count r.source q.source agree)
          ∙ other_is e

      pub same_tail : IsDone r → IsDone q → SameCleared S D r q
      same_tail d e = cleared_is r S D c d ∙ ap₂ (λ (f : Form) (n : ℕ). zeros f S D n) s.form s.count ∙ sym (cleared_is q S D other e)

      -- the same converted bytes, without an exception: the same matched numbers
      told_apart : DoneWithoutException r → DoneWithoutException q → SameConverted D r q → Agree S D r.count r.source q.source
      told_apart d e h =
          same_bytes S D (source_formed_lem r S D c) (destination_formed_lem r S D c) (passed_tells r S D c).path r.count r.source q.source r.background q.background
          (room r S D c) other_room (quiet r S D c (done_zero r d)) (rw s.count (quiet q S D other (done_zero q e)))
          (sym (converted_is r S D c d.done) ∙ h ∙ sym (other_is e.done))

    same_effect : Types r S D → Agree S D r.count r.source q.source → SameBackground D r q → SameEffect S D r q
    same_effect t agree back =
        let e : answer r ≡ answer q = equal_answers t agree in
        record {
          answers = same_answer r q e;
          converted = λ d. same_bytes_made (done_passes r S D t d) d (sym (ap number_of e) ∙ d) agree back;
          cleared = λ d. same_tail (done_passes r S D t d) d (sym (ap number_of e) ∙ d);
        }

-- ---- in place, and copying from a copy

module _ (r : Run) (form : r.form ≡ in_place) where
  room_or_alike : (checks r ≡ refused Room) ⊎ (checks r ≡ checks (from_copy r))
  room_or_alike =
      let n : ℕ = length r.source in
      let m : ℕ = length r.background in
      let t : ℕ = length r.table in
      subst
      (λ (f : Form).
      (checks_of f r.handling r.source_sheet r.destination_sheet r.count n m t ≡ refused Room)
      ⊎ (checks_of f r.handling r.source_sheet r.destination_sheet r.count n m t ≡ checks (from_copy r)))
      (sym form) (in_place_checks r.handling r.source_sheet r.destination_sheet r.count n m t)

  alike_answers : checks r ≡ checks (from_copy r) → answer r ≡ answer (from_copy r)
  alike_answers e =
      ⊎_elim (λ (x : (a : Answer) × (checks r ≡ refused a)). answer_refused r x.0 x.1 ∙ sym (answer_refused (from_copy r) x.0 (sym e ∙ x.1)))
      (λ (x : (S : Datatype) × (D : Datatype) × (checks r ≡ passed S D)).
      answer_is r x.0 x.1 x.2 ∙ sym (answer_is (from_copy r) x.0 x.1 (sym e ∙ x.2)))
      (refused_or_passed (checks r))

  room_number : checks r ≡ refused Room → answer_number r ≡ 7
  room_number c = ap number_of (answer_refused r Room c)

  copied_bytes : (S D : Datatype) → checks r ≡ passed S D → checks r ≡ checks (from_copy r) → IsDone r → SameConverted D r (from_copy r)
  copied_bytes S D c e d = converted_is r S D c d ∙ sym (converted_is (from_copy r) S D (sym e ∙ c) (sym (ap number_of (alike_answers e)) ∙ d))

  in_place_from_copy : AsFromCopy r
  in_place_from_copy =
      record {
        answers = λ n.
            ⊎_elim (λ (x : checks r ≡ refused Room). absurd (n (room_number x))) (λ x. same_answer r (from_copy r) (alike_answers x)) room_or_alike;
        converted = λ S D t d.
            ⊎_elim (λ (x : checks r ≡ refused Room). absurd (omega (arith, d, room_number x))) (λ x. copied_bytes S D (done_passes r S D t d) x d) room_or_alike;
      }

-- ---- there and back

module _ (r q : Run) (S D : Datatype) (c : checks r ≡ passed S D) (w : WayBack S D r q) where
  fs : WellFormed S
  fs = source_formed_lem r S D c

  fd : WellFormed D
  fd = destination_formed_lem r S D c

  back_passes : EqualSymbols S D → checks q ≡ passed D S
  back_passes x =
      let p = passed_tells r S D c in
      tells_passed q D S
      (record {
        handling = le-leb q.handling 1 w.handling;
        table = le-leb 8192 (length q.table) w.table;
        source = ap sheet_of w.source_sheet ∙ p.destination;
        destination = ap sheet_of w.destination_sheet ∙ p.source;
        path = path_back S D fs fd p.path;
        symbols = equal_back S D fs fd x;
        count = ap (λ (n : ℕ). leb n 65536) w.count ∙ p.count;
        room = w.room;
      })

  back_refused : LostSymbol D S → checks q ≡ refused Symbols
  back_refused x =
      let p = passed_tells r S D c in
      symbols_refused q D S (le-leb q.handling 1 w.handling) (le-leb 8192 (length q.table) w.table) (ap sheet_of w.source_sheet ∙ p.destination)
      (ap sheet_of w.destination_sheet ∙ p.source) (path_back S D fs fd p.path) ((lost_symbol D S fd fs).1 x)

module _ (r q : Run) (S D : Datatype) (c : checks r ≡ passed S D) (e : answer r ≡ Done 0) (w : WayBack S D r q) (p : checks q ≡ passed D S) where
  -- what q converts is what r made
  back_source : take (r.count * size D) q.source ≡ converted_records S D r.count (readings S D r.source) r.background
  back_source = ap (λ (n : ℕ). take (n * size D) q.source) (sym w.count) ∙ w.source ∙ converted_is r S D c (ap number_of e)

  back_done : answer q ≡ Done 0
  back_done =
      answer_is q D S p
      ∙ quiet_handled D S q.handling q.count (readings D S q.source)
      (rw w.count (returns_quiet S D (fs r q S D c w) (fd r q S D c w) (passed_tells r S D c).path r.count r.source r.background (room r S D c) (quiet r S D c e) q.source back_source))

  back_numbers : Agree S D r.count (after q) r.source
  back_numbers =
      returns_same S D (fs r q S D c w) (fd r q S D c w) (passed_tells r S D c).path r.count r.source r.background (room r S D c) (quiet r S D c e) q.source back_source
      q.background (rw (← w.count) (room q D S p)) (after q) (rw (← w.count) (converted_is q D S p (ap number_of back_done)))

-- ---- what the buffer holds

module _ (r : Run) (S D : Datatype) (c : checks r ≡ passed S D) (d : IsDone r) (m : MatchedLeaf S D r.count) where
  read_it : readings S D r.source m.index m.to ≡ some (matched_number m r.source)
  read_it = reading_at S D (record_at (size S) m.index r.source) m.to m.from m.source m.destination m.match

  arrived_place : place (layout_of m.destination) m.to (record_of m (after r))
      ≡ place (layout_of m.destination) m.to (stored (layout_of m.destination) m.to (becomes m r.source).raw (record_of m r.background))
  arrived_place =
      ap (place (layout_of m.destination) m.to) (record_is r S D c m.index d m.in_records_lem)
      ∙ converted_place S D (source_formed_lem r S D c) (destination_formed_lem r S D c) (readings S D r.source m.index) m.to m.from m.source m.destination
      (matched_number m r.source) m.match read_it (record_of m r.background) (background_length_lem r S D c m.index m.in_records_lem)

  source_leaf : WellFormedLeaf m.source
  source_leaf = (match_formed S D (source_formed_lem r S D c) (destination_formed_lem r S D c) m.to m.from m.source m.destination m.match).0

  -- what is read is in range
  read_fits : InRange m.source (matched_number m r.source)
  read_fits = read_in_range m.source m.from (record_at (size S) m.index r.source) source_leaf

  arrived_number_lem : arrived_number m (after r) ≡ stands_for m.destination (becomes m r.source).raw
  arrived_number_lem =
      ap (number_in m.destination m.to) (record_is r S D c m.index d m.in_records_lem)
      ∙ read_converted S D (source_formed_lem r S D c) (destination_formed_lem r S D c) (readings S D r.source m.index) m.to m.from m.source m.destination
      (matched_number m r.source) m.match read_it read_fits (record_of m r.background) (background_length_lem r S D c m.index m.in_records_lem)

  arrived : Arrived r m
  arrived =
      record {
        bytes = arrived_place;
        holds = arrived_number_lem;
        number = λ k.
            rw arrived_number_lem
            (arrives m.source m.destination (matched_number m r.source) source_leaf
            (match_formed S D (source_formed_lem r S D c) (destination_formed_lem r S D c) m.to m.from m.source m.destination m.match).1 read_fits k);
      }

module _ (r : Run) where
  -- a run is done, or changes nothing
  done_or_kept : IsDone r ⊎ (after r ≡ before r)
  done_or_kept =
      ⊎_elim (λ (x : (a : Answer) × (checks r ≡ refused a)). inr (after_refused r x.0 x.1))
      (λ (x : (S : Datatype) × (D : Datatype) × (checks r ≡ passed S D)).
      ⊎_elim (λ (y : (k : ℕ) × (answer r ≡ Done k)). inl (ap number_of y.1)) (λ y. inr y) (after_cases r x.0 x.1 x.2))
      (refused_or_passed (checks r))

  -- a run that is done has types, and its buffer is the result
  done_result : IsDone r → (S : Datatype) × (D : Datatype) × (checks r ≡ passed S D) × (after r ≡ result r.form S D r.count r.source r.background)
  done_result d =
      ⊎_elim (λ (x : (a : Answer) × (checks r ≡ refused a)). absurd (not_early (inl d) (refused_before r x.0 x.1)))
      (λ (x : (S : Datatype) × (D : Datatype) × (checks r ≡ passed S D)).
      (x.0, x.1, x.2, after_is r x.0 x.1 x.2 (answer_fields r).count (done_is (answer r) d)))
      (refused_or_passed (checks r))

  kept_length : length (after r) ≡ length (before r)
  kept_length =
      ⊎_elim
      (λ (d : IsDone r).
      let x = done_result d in
      ap length x.3
      ∙ result_length x.0 x.1 (source_formed_lem r x.0 x.1 x.2) (destination_formed_lem r x.0 x.1 x.2) r.count r.source r.background r.form
      (passed_tells r x.0 x.1 x.2).room)
      (λ e. ap length e) done_or_kept

  kept_nothing : r.count ≡ 0 → after r ≡ before r
  kept_nothing z =
      ⊎_elim
      (λ (d : IsDone r).
      let x = done_result d in
      x.3 ∙ ap (λ (n : ℕ). result r.form x.0 x.1 n r.source r.background) z ∙ result_none r.form x.0 x.1 r.source r.background)
      (λ e. e) done_or_kept

  done_if_none : r.count ≡ 0 → RefusedBeforeStop r ⊎ IsDone r
  done_if_none z =
      ⊎_elim (λ (x : (a : Answer) × (checks r ≡ refused a)). inl (refused_before r x.0 x.1))
      (λ (x : (S : Datatype) × (D : Datatype) × (checks r ≡ passed S D)).
      inr
      (ap number_of
      (answer_is r x.0 x.1 x.2
      ∙ quiet_handled x.0 x.1 r.handling r.count (readings x.0 x.1 r.source)
      (in_none x.0 x.1 r.count (readings x.0 x.1 r.source) (λ i l. absurd (omega arith))))))
      (refused_or_passed (checks r))

  module _ (S D : Datatype) (c : checks r ≡ passed S D) where
    kept_count : IsDone r → (answer_fields r).count ≡ exceptions S D r.count (readings S D r.source)
    kept_count d =
        handled_count S D r.handling r.count (readings S D r.source) (answer_fields r).count (sym (answer_is r S D c) ∙ done_is (answer r) d)

    kept_clamped : IsDone r → (m : MatchedLeaf S D r.count) → 1 ≤ (becomes m r.source).kind → handling_at r.handling D m.to ≡ 0
    kept_clamped d m raised =
        let quiet : handling_at r.handling D m.to ≡ 1 → kind_at S D (readings S D r.source m.index) m.to ≡ 0 =
        handled_clamped S D r.handling r.count (readings S D r.source) (answer_fields r).count (sym (answer_is r S D c) ∙ done_is (answer r) d) m.index m.in_records_lem
        m.to (way_starts (match_way D S (destination_formed_lem r S D c) m.match) (destination_formed_lem r S D c)) in
        go (handling_at r.handling D m.to) (handling_most r.handling D m.to (leb-true r.handling 1 (passed_tells r S D c).handling)) quiet
      where
        go : (g : ℕ) → g ≤ 1 → (g ≡ 1 → kind_at S D (readings S D r.source m.index) m.to ≡ 0) → g ≡ 0
        go zero l quiet = refl
        go (suc g) l quiet = absurd (omega (arith, raised, kind_of_lem m r.source, quiet (omega arith)))

    kept_background : (i j : ℕ) → IsDone r → i < r.count → Uncovered S D j
        → take 1 (drop j (record_at (size D) i (after r))) ≡ take 1 (drop j (record_at (size D) i r.background))
    kept_background i j d l u =
        ap (λ (x : List ℕ). take 1 (drop j x)) (record_is r S D c i d l)
        ∙ converted_keeps S D (source_formed_lem r S D c) (destination_formed_lem r S D c) (readings S D r.source i) j 1 (size D) (record_at (size D) i r.background)
        (background_length_lem r S D c i l) (λ b a x y m. ⊎_elim (λ (h : j < b). inl (omega arith)) (λ h. inr h) (u b a x y m))

-- ---- the table

module _ (r : Run) where
  -- a number is 1 or 2, or it is neither
  not_both : (answer_number r ≡ 1) ⊎ (answer_number r ≡ 2) → (answer_number r ≡ 0) ⊎ (3 ≤ answer_number r) → ⊥
  not_both (inl e) (inl f) = omega arith
  not_both (inl e) (inr f) = omega arith
  not_both (inr e) (inl f) = omega arith
  not_both (inr e) (inr f) = omega arith

  long_enough : (answer_number r ≡ 0) ⊎ (3 ≤ answer_number r) → 8192 ≤ length r.table
  long_enough n =
      ⊎_elim
      (⊎_elim (λ (c : checks r ≡ refused Handling). absurd (not_both (inl (ap number_of (answer_refused r Handling c))) n))
      (λ (c : checks r ≡ refused Table). absurd (not_both (inr (ap number_of (answer_refused r Table c))) n)))
      (λ (h : 8192 ≤ length r.table). h) (table_long r)

  table_kept : TableKept r
  table_kept =
      ⊎_elim
      (λ (x : ((answer_number r ≡ 1) ⊎ (answer_number r ≡ 2)) × (table r ≡ r.table)).
      record { unchanged = λ n. x.1; zero = λ n. absurd (not_both x.0 n); beyond = ap (drop 8192) x.1; lengths = ap length x.1 })
      (λ (x : ((answer_number r ≡ 0) ⊎ (3 ≤ answer_number r)) × (table r ≡ cleared r.table)).
      record {
        unchanged = λ n. absurd (not_both n x.0);
        zero = λ n. ap (take 8192) x.1 ∙ cleared_zero r.table;
        beyond = ap (drop 8192) x.1 ∙ cleared_beyond r.table;
        lengths = ap length x.1 ∙ cleared_length r.table (long_enough x.0);
      })
      (table_cases (answer r) r.table)

-- ---- the promises

-- Demand 3. Of two runs of one form with the same sheets, count, handling and lent lengths: agreeing on every matched number over the same background they
-- have the same effect; done without an exception, different matched numbers make different converted bytes; refused before STOP, they answer the same.
pub demand_3 : (r q : Run) → SameCall r q → Demand3 r q
demand_3 r q s =
    record {
      same = same_effect r q s;
      different = λ S D t d e x h. x.1 (told_apart r q s S D (done_passes r S D t d.done) d e h x.0);
      refused = refused_alike r q s;
    }

-- Demand 3 by bits: the effect turns on the significant bits of the matched source leaves, on each of them and on no other bit of the source.
pub on_significant_bits : (r q : Run) → SameCall r q → (S D : Datatype) → Types r S D → OnSignificantBits S D r q
on_significant_bits r q s S D t =
    record {
      enough = λ same back. same_effect r q s S D t (bits_agree S D r.count r.source q.source same) back;
      each = λ d e b x h.
          let c : checks r ≡ passed S D = done_passes r S D t d.done in
          x
          (agree_bits S D r.count r.source q.source (source_formed_lem r S D c) (destination_formed_lem r S D c) (told_apart r q s S D c d e h) b);
    }

-- Demand 2, the way back. Where a run is done without an exception, its way back, in either form, with any handling and over any background, is done without
-- an exception, and every matched number is the original one. Document 02, 2026-07: this is claimed "only where matched enums have equal symbol sets".
pub way_back : (r q : Run) (S D : Datatype) → Types r S D → EqualSymbols S D → DoneWithoutException r → WayBack S D r q → Returned S D r q
way_back r q S D t x d w =
    let c : checks r ≡ passed S D = done_passes r S D t d.done in
    let e : answer r ≡ Done 0 = done_zero r d in
    let p : checks q ≡ passed D S = back_passes r q S D c w x in
    record { done = zero_done q (back_done r q S D c e w p); numbers = back_numbers r q S D c e w p }

-- And no less will do: where they have not, the way back is refused.
pub only_where_equal : (r q : Run) (S D : Datatype) → Types r S D → IsDone r → WayBack S D r q → OnlyWhereEqual S D q
only_where_equal r q S D t d w =
    let c : checks r ≡ passed S D = done_passes r S D t d in
    record {
      equal_or_lost = equal_or_lost S D (fs r q S D c w) (fd r q S D c w) (passed_tells r S D c).symbols;
      refused = λ x. ap number_of (answer_refused q Symbols (back_refused r q S D c w x));
    }

-- Demand 2, in place: "The result equals conversion from a copy".
pub in_place_lem : (r : Run) → r.form ≡ in_place → AsFromCopy r
in_place_lem r form = in_place_from_copy r form

-- Demand 2, what stands in each matched leaf of each record after a run that is done.
pub arrival : (r : Run) (S D : Datatype) → Types r S D → IsDone r → (m : MatchedLeaf S D r.count) → Arrived r m
arrival r S D t d m = arrived r S D (done_passes r S D t d) d m

-- Demand 2, what raises kind 3 in a run that no check before STOP refuses.
pub kind_3 : (r : Run) (S D : Datatype) → Types r S D → ¬ (RefusedBeforeStop r) → (m : MatchedLeaf S D r.count) → KindThree r m
kind_3 r S D t n m l ss e =
    let c : checks r ≡ passed S D = passes r S D t n in
    let p = passed_tells r S D c in
    let fs : WellFormed S = source_formed_lem r S D c in
    let fd : WellFormed D = destination_formed_lem r S D c in
    kind_3_of m.source m.destination (matched_number m r.source) l ss e
    (match_path S D fs fd p.path m.to m.from m.source m.destination m.match)
    (match_formed S D fs fd m.to m.from m.source m.destination m.match).1
    (λ k ts d. each_stands S D fs fd p.symbols m.to m.from l k ss ts (m.match ∙ ap₂ (λ (x y : Leaf). matched m.from x y) e d))

-- Demand 2, what a run that is stopped names.
pub stopped : (r : Run) (S D : Datatype) → Types r S D → answer_number r ≡ 8 → Stopped S D r
stopped r S D t e =
    let c : checks r ≡ passed S D = passes r S D t (not_early (inr e)) in
    let s = stop_is (answer r) e in
    let f =
    handled_first S D r.handling r.count (readings S D r.source) (answer_fields r).«record» (answer_fields r).at (answer_fields r).kind s.0
    (leb-true r.handling 1 (passed_tells r S D c).handling) (sym (answer_is r S D c) ∙ s.1) in
    record {
      given = s.0;
      names = f;
      number = record { sign = ap (λ (a : Answer). (values_of a).given) s.1; magnitude = ap (λ (a : Answer). (values_of a).magnitude) s.1 };
      leaf = first_leaf S D r.count r.source f;
      of_record = first_record S D r.count r.source f;
      at_byte = first_byte S D r.count r.source f;
      is_matched = first_given S D r.count r.source f;
    }

-- Demand 2, the rest of the buffer that is written.
pub kept : (r : Run) → Kept r
kept r =
    record {
      lengths = kept_length r;
      refusals = λ n. ⊎_elim (λ (d : IsDone r). absurd (n d)) (λ e. e) (done_or_kept r);
      nothing = λ z. (done_if_none r z, kept_nothing r z);
      count = λ S D t d. kept_count r S D (done_passes r S D t d) d;
      clamped = λ S D t d m k. kept_clamped r S D (done_passes r S D t d) d m k;
      cleared = λ S D t d. cleared_is r S D (done_passes r S D t d) d;
      later = λ S D t d. later_is r S D (done_passes r S D t d) d;
      background = λ S D i j t d l u. kept_background r S D (done_passes r S D t d) i j d l u;
    }

-- "A lent working table of 32-bit words holds the read sheets."
pub table_cleared : (r : Run) → TableKept r
table_cleared r = table_kept r

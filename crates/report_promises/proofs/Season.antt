-- A season's memory and output turn on its logs, not on how they are cut. Assumes nothing.
use mathlib.Core.Path.{◌≡◌, refl, sym, ap, ap₂, ◌∙◌, subst}
use mathlib.Core.List.{List, [], ◌∷◌, ◌++◌, append_assoc, append-nil}
use Prim.Native.Nat.{ℕ, ◌+◌, ◌*◌, ◌<◌}
use native.Mathlib.Nat.{add-mul, add_assoc, add-zero}
use lib.ListN.{length, length-append}
use lib.IntN.{ℤ}
use Rattle.answer.specs.declared.Answer.TheVariants.{Done}
use Rattle.datatype.specs.Datatype.{Datatype, size}
use Rattle.sheet.specs.Sheet.{sheet_of}
use Rattle.sheet.specs.Sheet.Sheet.{of_type}
use Rattle.records.specs.Record.{reading}
use Rattle.records.specs.Records.{readings}
use Rattle.runs.specs.Run.Checked.{passed}
use Rattle.channels.specs.Channels.{channels}
use Rattle.channels.specs.Report.{Report, added, held_in, words_of, holding}
use Rattle.channels.specs.Shown.{shown}
use Rattle.channels.proofs.Added.{added_cut, added_alike, rows_length, held_length, holds, behind}
use Rattle.reports.specs.Call.{Call, width, report_of, checks, answer, memory_after}
use Rattle.reports.specs.Parts.{IsDone, written, Types, source_records}
use Rattle.reports.proofs.Pieces.{in_front, front_length, in_first_lem, in_second_lem}
use Rattle.reports.proofs.Checks.{passed_tells, done_passes, done_passed, answer_is, memory_is, written_is, source_size_lem, source_room, written_held}
use Rattle.report_promises.specs.Season.{Follow, left_by, Each, Source, Reader, records_of, count_of, last_of, Log, parts, parts_of, OneLogCutTwoWays, SameLogs, Season, logs, calls, SameSeason, SeasonAlike}

-- ---- rows of calls, one behind the other

pub follow_append : (m : List ℤ) (xs ys : List Call) → Follow m (xs ++ ys) → Follow m xs × Follow (left_by m xs) ys
follow_append m [] ys f = (tt, f)
follow_append m (c ∷ xs) ys (e, d, f) = let g = follow_append (memory_after c) xs ys f in ((e, d, g.0), g.1)

left_append : (m : List ℤ) (xs ys : List Call) → left_by m (xs ++ ys) ≡ left_by (left_by m xs) ys
left_append m [] ys = refl
left_append m (c ∷ xs) ys = left_append (memory_after c) xs ys

each_append : (P : Call → Type 0) (xs ys : List Call) → Each P (xs ++ ys) → Each P xs × Each P ys
each_append P [] ys e = (tt, e)
each_append P (c ∷ xs) ys (p, e) = let g = each_append P xs ys e in ((p, g.0), g.1)

-- ---- one log

module _ (S D : Datatype) where
  abbrev L : ℕ
  L = width D

  -- the report with n records r added to what the memory m holds, and the memory that holds it
  abbrev sum : ℕ → List ℕ → List ℤ → Report
  sum n r m = added S D n (readings S D r) (channels D) (held_in L m)

  abbrev left : ℕ → List ℕ → List ℤ → List ℤ
  left n r m = holding L (sum n r m) m

  sum_length : (n : ℕ) (r : List ℕ) (m : List ℤ) → length (sum n r m).rows ≡ L
  sum_length n r m = rows_length S D n (readings S D r) (channels D) (held_in L m).rows (held_length m 2 L)

  module _ (c : Call) (p : checks c ≡ passed S D) where
    -- what is read of the log is read of its records
    log_readings : (i : ℕ) → i < c.count → readings S D c.log i ≡ readings S D (source_records c) i
    log_readings i h = ap (reading S D) (rw (source_size_lem c S D p) (sym (in_front (size S) c.count c.log (source_room c S D p) i h)))

    records_length : length (source_records c) ≡ c.count * size S
    records_length = rw (source_size_lem c S D p) (front_length (size S) c.count c.log (source_room c S D p))

    first_left : memory_after c ≡ left c.count (source_records c) c.memory
    unfolding report_of
    first_left =
        memory_is c S D p
        ∙ ap (λ (s : Report). holding L s c.memory) (added_alike S D c.count (readings S D c.log) (readings S D (source_records c)) (channels D) (held_in L c.memory) log_readings)

    -- behind n records r that were added from the memory m on
    module _ (n : ℕ) (r : List ℕ) (m : List ℤ) (sized : length r ≡ n * size S) (on : c.memory ≡ left n r m) where
      more_length : length (r ++ source_records c) ≡ (n + c.count) * size S
      more_length = rw (length-append, records_length, add-mul, sized)

      more_sum : added S D c.count (readings S D (source_records c)) (channels D) (sum n r m) ≡ sum (n + c.count) (r ++ source_records c) m
      more_sum =
          let all : List ℕ = r ++ source_records c in
          ap (added S D c.count (readings S D (source_records c)) (channels D))
          (added_alike S D n (readings S D r) (readings S D all) (channels D) (held_in L m)
          (λ i h. ap (reading S D) (sym (in_first_lem (size S) n r (source_records c) sized i h))))
          ∙ added_alike S D c.count (readings S D (source_records c)) (λ i. readings S D all (n + i)) (channels D) (added S D n (readings S D all) (channels D) (held_in L m))
          (λ i h. ap (reading S D) (sym (in_second_lem (size S) n r (source_records c) sized i)))
          ∙ sym (added_cut S D n c.count (readings S D all) (channels D) (held_in L m))

      next_left : memory_after c ≡ left (n + c.count) (r ++ source_records c) m
      next_left =
          first_left
          ∙ ap (λ (x : List ℤ). left c.count (source_records c) x) on
          ∙ ap (λ (s : Report). holding L (added S D c.count (readings S D (source_records c)) (channels D) s) (left n r m)) (holds L (sum n r m) m (sum_length n r m))
          ∙ ap (λ (s : Report). holding L s (left n r m)) more_sum
          ∙ ap (λ (x : List ℤ). words_of (sum (n + c.count) (r ++ source_records c) m) ++ x) (behind L (sum n r m) m (sum_length n r m))

  module _ (ss ds : List ℕ) (es : sheet_of ss ≡ of_type S) (ed : sheet_of ds ≡ of_type D) where
    passes : (c : Call) → c.source_sheet ≡ ss → c.reader_sheet ≡ ds → IsDone c → checks c ≡ passed S D
    passes c s d done = done_passed c S D (record { source = rw s es; reader = rw d ed }) done

    -- the memory in the end, by all records
    rest_left : (cs : List Call) (k : List ℤ) (n : ℕ) (r : List ℕ) (m : List ℤ) → length r ≡ n * size S → k ≡ left n r m → Source ss cs → Reader ds cs → Follow k cs
        → left_by k cs ≡ left (n + count_of cs) (r ++ records_of cs) m
    rest_left [] k n r m sized on s d f = on ∙ ap₂ (λ (i : ℕ) (y : List ℕ). left i y m) (sym (add-zero n)) (sym (append-nil r))
    rest_left (c ∷ cs) k n r m sized on (s, s') (d, d') (e, done, f) =
        let p : checks c ≡ passed S D = passes c s d done in
        rest_left cs (memory_after c) (n + c.count) (r ++ source_records c) m (more_length c p n r m sized (e ∙ on)) (next_left c p n r m sized (e ∙ on)) s' d' f
        ∙ ap₂ (λ (i : ℕ) (y : List ℕ). left i y m) (add_assoc n c.count (count_of cs)) (append_assoc r (source_records c) (records_of cs))

    log_left : (g : Log) (m : List ℤ) → Source ss (parts g) → Reader ds (parts g) → Follow m (parts g) → left_by m (parts g) ≡ left (count_of (parts g)) (records_of (parts g)) m
    log_left g m (s, s') (d, d') (e, done, f) =
        let c : Call = g.first in
        let p : checks c ≡ passed S D = passes c s d done in
        rest_left g.later (memory_after c) c.count (source_records c) c.memory (records_length c p) (first_left c p) s' d' f
        ∙ ap (λ (x : List ℤ). left (count_of (parts g)) (records_of (parts g)) x) e

-- one log, cut in two ways, from one memory
log_alike : (ds : List ℕ) (g h : Log) (m : List ℤ) → OneLogCutTwoWays g h → Reader ds (parts g) → Reader ds (parts h) → Follow m (parts g) → Follow m (parts h)
    → left_by m (parts g) ≡ left_by m (parts h)
log_alike ds g h m same dg dh fg fh =
    let x = done_passes g.first fg.1 in
    let S : Datatype = x.0 in
    let D : Datatype = x.1 in
    let t : Types g.first S D = (passed_tells g.first S D x.2).types in
    let es : sheet_of same.sheet ≡ of_type S = rw (← same.source.0) t.source in
    let ed : sheet_of ds ≡ of_type D = rw (← dg.0) t.reader in
    log_left S D same.sheet ds es ed g m same.source dg fg
    ∙ ap₂ (λ (i : ℕ) (y : List ℕ). left S D i y m) same.count same.records
    ∙ sym (log_left S D same.sheet ds es ed h m same.source' dh fh)

-- ---- logs, one after the other

logs_alike : (ds : List ℕ) (gs hs : List Log) (m : List ℤ) → SameLogs gs hs → Reader ds (parts_of gs) → Reader ds (parts_of hs) → Follow m (parts_of gs) → Follow m (parts_of hs)
    → left_by m (parts_of gs) ≡ left_by m (parts_of hs)
logs_alike ds [] [] m same dg dh fg fh = refl
logs_alike ds [] (h ∷ hs) m same dg dh fg fh = absurd same
logs_alike ds (g ∷ gs) [] m same dg dh fg fh = absurd same
logs_alike ds (g ∷ gs) (h ∷ hs) m (same, later) dg dh fg fh =
    let P : Call → Type 0 = λ c. c.reader_sheet ≡ ds in
    let rg = each_append P (parts g) (parts_of gs) dg in
    let rh = each_append P (parts h) (parts_of hs) dh in
    let wg = follow_append m (parts g) (parts_of gs) fg in
    let wh = follow_append m (parts h) (parts_of hs) fh in
    let e : left_by m (parts g) ≡ left_by m (parts h) = log_alike ds g h m same rg.0 rh.0 wg.0 wh.0 in
    left_append m (parts g) (parts_of gs)
    ∙ logs_alike ds gs hs (left_by m (parts g)) later rg.1 rh.1 wg.1 (rw e wh.1)
    ∙ ap (λ (x : List ℤ). left_by x (parts_of hs)) e
    ∙ sym (left_append m (parts h) (parts_of hs))

-- the last output, by the memory in the end
last_written : (D : Datatype) (ds : List ℕ) → sheet_of ds ≡ of_type D → (c : Call) (cs : List Call) (m : List ℤ) → Reader ds (c ∷ cs) → Follow m (c ∷ cs)
    → written (last_of c cs) ≡ shown (channels D) (held_in (width D) (left_by m (c ∷ cs))).rows
last_written D ds ed c [] m (d, d') (e, done, f) =
    let x = done_passes c done in
    let t : Types c x.0 x.1 = (passed_tells c x.0 x.1 x.2).types in
    let same : x.1 ≡ D = cc (t.reader, d, ed) in
    written_held c x.0 D (subst (λ (T : Datatype). checks c ≡ passed x.0 T) same x.2)
last_written D ds ed c (b ∷ cs) m (d, d') (e, done, f) = last_written D ds ed b cs (memory_after c) d' f

-- and the last answer, by the last output
last_answer : (c : Call) (cs : List Call) (m : List ℤ) → Follow m (c ∷ cs) → answer (last_of c cs) ≡ Done (length (written (last_of c cs)))
last_answer c [] m (e, done, f) =
    let x = done_passes c done in
    answer_is c x.0 x.1 x.2 ∙ ap (λ (l : List ℕ). Done (length l)) (sym (written_is c x.0 x.1 x.2))
last_answer c (b ∷ cs) m (e, done, f) = last_answer b cs (memory_after c) f

-- ---- the promise

-- Two rows of calls over the same logs, cut differently, from one memory, none of them refused, end in the same memory, the same answer and the same output.
pub seasons : (reader_sheet : List ℕ) (entry : List ℤ) (s t : Season) → SameSeason reader_sheet entry s t → SeasonAlike entry s t
seasons ds m s t w =
    let c : Call = s.first.first in
    let x = done_passes c w.follow.1 in
    let D : Datatype = x.1 in
    let ed : sheet_of ds ≡ of_type D = rw (← w.reader.0) (passed_tells c x.0 D x.2).types.reader in
    let e : left_by m (calls s) ≡ left_by m (calls t) = logs_alike ds (logs s) (logs t) m w.logs w.reader w.reader' w.follow w.follow' in
    let more : List Call = s.first.later ++ parts_of s.later in
    let more' : List Call = t.first.later ++ parts_of t.later in
    let o : written (last_of c more) ≡ written (last_of t.first.first more') =
    last_written D ds ed c more m w.reader w.follow
    ∙ ap (λ (k : List ℤ). shown (channels D) (held_in (width D) k).rows) e
    ∙ sym (last_written D ds ed t.first.first more' m w.reader' w.follow') in
    record {
      memory = e;
      answer = last_answer c more m w.follow ∙ ap (λ (l : List ℕ). Done (length l)) o ∙ sym (last_answer t.first.first more' m w.follow');
      output = o;
    }

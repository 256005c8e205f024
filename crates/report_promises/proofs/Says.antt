-- What the memory and the output say after a call that is done. Assumes nothing.
use mathlib.Core.Path.{◌≡◌, refl, sym, ap, ◌∙◌}
use mathlib.Core.Bool.{true}
use mathlib.Core.List.{List, ◌++◌}
use mathlib.Core.Option.{some}
use Prim.Native.Nat.{ℕ, zero, suc, ◌*◌, ◌≤◌, ◌<◌}
use native.Mathlib.Nat.{le_refl}
use native.Mathlib.Omega.{arith}
use lib.ListN.{take, drop}
use lib.IntN.{ℤ, pos, ◌+ℤ◌}
use lib.Signed.{non_neg}
use Rattle.layout.specs.declared.Layout.{Layout}
use Rattle.text.specs.Text.{bytes}
use Rattle.datatype.specs.Datatype.{Leaf, Datatype, size}
use Rattle.datatype.specs.Datatype.Leaf.{atomic}
use Rattle.datatype.specs.Matches.{match_at}
use Rattle.datatype.specs.Matches.Match.{unmatched, matched}
use Rattle.datatype.proofs.Matches.{match_formed}
use Rattle.records.specs.Leaf.{number_in}
use Rattle.records.specs.Records.{record_at, readings, exceptions}
use Rattle.records.specs.Records as records
use Rattle.records.proofs.OneLeaf.{InRange, read_in_range}
use Rattle.records.proofs.OneRecord.{reading_at, read_converted}
use Rattle.records.proofs.ManyRecords.{record_length, converted_in}
use Rattle.runs.specs.Run.Checked.{passed}
use Rattle.channels.specs.Channels.{channels, sample_at}
use Rattle.channels.specs.Report.{Report, row_after, words}
use Rattle.channels.specs.Shown.{shown}
use Rattle.channels.specs.Says.{samples_of, Adds}
use Rattle.channels.specs.EachLeaf.{IntLeaf, row_of, lines_of}
use Rattle.channels.proofs.Added.{behind}
use Rattle.channels.proofs.Takes.{takes_tells, good_tells}
use Rattle.channels.proofs.Says.{row_says, sample_matched, row_unmatched}
use Rattle.channels.proofs.EachLeaf.{row_there, row_good, starts_inside, each_once, shown_lines}
use Rattle.reports.specs.Call.{Call, width, held_before, report_of, checks, log_after, memory_after}
use Rattle.reports.specs.Parts.{IsDone, written, Types}
use Rattle.reports.proofs.Checks.{passed_tells, done_passes, done_passed, memory_is, source_formed_lem, reader_formed_lem, reader_size_lem, background_room_lem, converted_is, report_length, held_after_lem, written_held}
use Rattle.reports.proofs.Clamping.{clamped_answer, clamped_log, run_answer, run_log, run_exceptions}
use Rattle.report_promises.specs.Says.{numbers_in, held_after, Says}

module _ (c : Call) (S D : Datatype) (e : checks c ≡ passed S D) where
  abbrev n : ℕ
  n = c.count

  -- ---- what stands in a matched leaf

  converted_bytes_lem : take (n * size D) (log_after c) ≡ records.converted_records S D n (readings S D c.log) c.background
  converted_bytes_lem = rw (reader_size_lem c S D e) at (converted_is c S D e)

  module _ (b a : ℕ) (x y : Leaf) (m : match_at S D b ≡ matched a x y) where
    stands : (i : ℕ) → i < n → sample_at S D (readings S D c.log i) b ≡ some (number_in y b (record_at (size D) i (log_after c)))
    stands i h =
        let z : ℤ = number_in x a (record_at (size S) i c.log) in
        let r : readings S D c.log i b ≡ some z = reading_at S D (record_at (size S) i c.log) b a x y m in
        let fits : InRange x z = read_in_range x a (record_at (size S) i c.log) (match_formed S D (source_formed_lem c S D e) (reader_formed_lem c S D e) b a x y m).0 in
        sample_matched S D b (readings S D c.log i) a x y z m r
        ∙ ap (λ (w : ℤ). some w)
        (sym
        (ap (number_in y b) (converted_in S D (source_formed_lem c S D e) (reader_formed_lem c S D e) n (readings S D c.log) c.background (background_room_lem c S D e) i (log_after c) converted_bytes_lem h)
        ∙ read_converted S D (source_formed_lem c S D e) (reader_formed_lem c S D e) (readings S D c.log i) b a x y z m r fits (record_at (size D) i c.background)
        (record_length (size D) n i c.background (background_room_lem c S D e) h)))

    samples_stand : (k : ℕ) → k ≤ n → samples_of S D b k (readings S D c.log) ≡ numbers_in y b (size D) k (log_after c)
    unfolding samples_of numbers_in
    samples_stand zero h = refl
    samples_stand (suc k) h = rw (stands k h, samples_stand k (omega arith))

  -- ---- the words of a leaf

  module _ (b : ℕ) (l : Layout) (i : IntLeaf D b l) where
    inside : b < size D
    inside = starts_inside D (reader_formed_lem c S D e) b (atomic l) i.leaf

    row_is : row_of D b (memory_after c) ≡ row_after S D b n (readings S D c.log) (row_of D b c.memory)
    unfolding report_of
    row_is =
        row_there S D n (readings S D c.log) b l i inside c.memory (memory_after c) (ap (λ (s : Report). s.rows) (held_after_lem c S D e))

    counted : non_neg (row_of D b c.memory).samples ≡ true
    counted =
        (good_tells (row_of D b c.memory)
        (row_good D b l i inside c.memory (takes_tells n (held_before c D) (passed_tells c S D e).takes).rows_good)).samples_counted

    matched_adds : (a : ℕ) (x : Leaf) → match_at S D b ≡ matched a x (atomic l)
        → Adds (numbers_in (atomic l) b (size D) n (log_after c)) (row_of D b c.memory) (row_of D b (memory_after c))
    matched_adds a x m =
        rw (row_is, ← samples_stand b a x (atomic l) m n (le_refl n)) (row_says S D b (readings S D c.log) (row_of D b c.memory) counted n)

    unmatched_stays : match_at S D b ≡ unmatched → row_of D b (memory_after c) ≡ row_of D b c.memory
    unmatched_stays m = row_is ∙ row_unmatched S D b n (readings S D c.log) (row_of D b c.memory) m

  -- ---- the rest

  records_added : (held_after c D).records ≡ (held_before c D).records +ℤ pos n
  unfolding report_of
  records_added = ap (λ (s : Report). s.records) (held_after_lem c S D e)

  stays_behind : drop (words (width D)) (memory_after c) ≡ drop (words (width D)) c.memory
  stays_behind = ap (drop (words (width D))) (memory_is c S D e) ∙ behind (width D) (report_of c S D) c.memory (report_length c S D e)

  text_says : written c ≡ bytes "at\tlowest\thighest\tsum\tsamples\n" ++ lines_of D (memory_after c) (channels D)
  unfolding shown
  text_says =
      written_held c S D e
      ∙ ap (λ (l : List ℕ). bytes "at\tlowest\thighest\tsum\tsamples\n" ++ l) (shown_lines D (memory_after c))

-- ---- the promise

-- After a call that is done, each leaf's words are the held ones with the numbers that now stand in that leaf of the converted records, where it is matched;
-- and the text shows them, a line for each int leaf of the reader's type.
pub says : (c : Call) (S D : Datatype) → Types c S D → IsDone c → Says c S D
says c S D t d =
    let e : checks c ≡ passed S D = done_passed c S D t d in
    record {
      converted =
          record {
            exceptions = exceptions S D c.count (readings S D c.log);
            answer = clamped_answer c S D e;
            log = clamped_log c S D e;
            not_stopped = λ n. (run_answer c S D e n, run_log c S D e n);
            added = run_exceptions c S D e;
          };
      records = records_added c S D e;
      adds = λ b a x l i m. matched_adds c S D e b l i a x m;
      stays = λ b l i m. unmatched_stays c S D e b l i m;
      behind = stays_behind c S D e;
      leaves = each_once D (reader_formed_lem c S D e);
      text = text_says c S D e;
    }

-- a call that is done has these types
pub done_types : (c : Call) → IsDone c → (S : Datatype) × (D : Datatype) × Types c S D
done_types c d = let x = done_passes c d in (x.0, x.1, (passed_tells c x.0 x.1 x.2).types)

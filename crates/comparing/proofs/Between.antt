-- The lines of the records between two, of two logs behind the checks. Assumes nothing.
use mathlib.Core.Path.{◌≡◌, refl, sym, ap, ap₂, ◌∙◌}
use mathlib.Core.Bool.{Bool, true}
use mathlib.Core.List.{List, [], ◌++◌, append-nil, append_assoc}
use Prim.Native.Nat.{ℕ, zero, suc, ◌+◌, ◌*◌, ◌-◌, ◌≤◌, ◌<◌}
use native.Mathlib.Nat.{add-mul, mul-le-mul_right}
use native.Mathlib.Omega.{arith}
use lib.ListN.{length, take, drop, length-append}
use lib.Seq.{drop-drop}
use Rattle.text.specs.Written.{Wrote}
use Rattle.text.proofs.Written.{wrote_then}
use Rattle.datatype.specs.Datatype.{Datatype, size}
use Rattle.records.specs.Records.{record_at}
use Rattle.records.specs.Plan.{Entry, plan_of, AllSound}
use Rattle.records.proofs.Plans.{plan_sound}
use Rattle.plans.specs.PlanWords.{entries_at, Job}
use Rattle.plans.proofs.Entries.{sound_at}
use Rattle.easy.proofs.Lent.{tail_lent, lent_room}
use Rattle.loops.proofs.Lists.{row_within}
use Rattle.loops.proofs.Fronts.{sound_more}
use Rattle.differences.specs.Differences.{Difference, in_record, in_records, lines, header, shown}
use Rattle.comparing.specs.declared.Logs.{Logs}
use Rattle.comparing.specs.Comparing.{EntriesFormed, by_entries, record_text, TwoLogs, text_of, text_between}
use Rattle.comparing.proofs.ByEntries.{record_by_entries, entries_front, lines_append}

-- ---- records in two parts, and records without a difference

module _ (S D : Datatype) (first second : List ℕ) where
  abbrev here : ℕ → List Difference
  here i = in_record S D i (record_at (size S) i first) (record_at (size D) i second) 0 (size D)

  records_cut : (i k m : ℕ) → in_records S D first second i (k + m) ≡ in_records S D first second i k ++ in_records S D first second (i + k) m
  unfolding in_records
  records_cut i zero m =
      let e : i + 0 ≡ i = omega arith in
      let f : 0 + m ≡ m = omega arith in
      rw (e, f) refl
  records_cut i (suc k) m =
      let e : i + suc k ≡ suc i + k = omega arith in
      let f : suc k + m ≡ suc (k + m) = omega arith in
      rw (e, f) (ap (λ (ds : List Difference). here i ++ ds) (records_cut (suc i) k m)
      ∙ sym (append_assoc (here i) (in_records S D first second (suc i) k) (in_records S D first second (suc i + k) m)))

  records_none : (i k : ℕ) → ((j : ℕ) → j < k → here (i + j) ≡ []) → in_records S D first second i k ≡ []
  unfolding in_records
  records_none i zero h = refl
  records_none i (suc k) h =
      let e : i + 0 ≡ i = omega arith in
      let now : here i ≡ [] = rw e at (h 0 (omega arith)) in
      ap₂ (λ (a b : List Difference). a ++ b) now
      (records_none (suc i) k (λ j l. let f : i + suc j ≡ suc i + j = omega arith in rw f at (h (suc j) (omega arith))))

-- ---- a log that is lent from record i on

-- what is lent of records of w bytes
abbrev pub lent : ℕ → ℕ → List ℕ → List ℕ
lent w i log = take (length log - i * w) (drop (i * w) log)

lent_record : (w i j : ℕ) (log : List ℕ) → record_at w j (lent w i log) ≡ record_at w (i + j) log
lent_record w i j log =
    ap (λ (l : List ℕ). take w (drop (j * w) l)) (tail_lent (i * w) log)
    ∙ ap (take w) (drop-drop (j * w) (i * w) log)
    ∙ ap (λ (n : ℕ). take w (drop n log)) (sym (add-mul i j w))

-- the records from i on and before k lie within it
module _ (w i k c : ℕ) (log : List ℕ) (fits : c * w ≤ length log) (low : i ≤ k) (high : k ≤ c) where
  pub rows_within : i * w + (k - i) * w ≤ length log
  rows_within =
      let e : i + (k - i) ≡ k = omega arith in
      omega (arith, fits, rw (add-mul i (k - i) w) at (ap (λ (n : ℕ). n * w) e), mul-le-mul_right w high)

  pub rows_lent : (k - i) * w ≤ length (lent w i log)
  rows_lent = lent_room (i * w) ((k - i) * w) log rows_within

-- ---- two logs behind the checks

job_sound : {s d : ℕ} {plan : List ℕ} {n : ℕ} {ws wd words : List ℕ} (j : Job s d plan n ws wd words) → AllSound s d (plan_of j.source j.destination)
job_sound j = rw (j.source_size, j.destination_size) (plan_sound j.source j.destination j.source_formed j.destination_formed)

module _ {x : Logs} {ss ws ds wd plan words : List ℕ} (first second : List ℕ) (g : TwoLogs x (length first) (length second) ss ws ds wd plan words) where
  abbrev S : Datatype
  S = g.planned.job.source

  abbrev D : Datatype
  D = g.planned.job.destination

  abbrev s : ℕ
  s = x.first_size

  abbrev d : ℕ
  d = x.second_size

  -- the plan's entries are those of the datatypes, and lie inside the records
  entries_are : entries_at plan x.entries ws ss wd ds ≡ plan_of S D
  entries_are =
      ap₂ (λ (t u : List ℕ). entries_at plan x.entries ws t wd u) (sym g.planned.first_text) (sym g.planned.second_text) ∙ g.planned.job.entries

  all_sound : AllSound s d (entries_at plan x.entries ws ss wd ds)
  all_sound = rw entries_are (job_sound g.planned.job)

  -- ---- one part behind the other

  pub between_start : (i : ℕ) → text_between g first second i i ≡ []
  unfolding text_between in_records lines
  between_start i = let e : i - i ≡ 0 = omega arith in rw e refl

  pub between_cut : (i k m : ℕ) → i ≤ k → k ≤ m → text_between g first second i m ≡ text_between g first second i k ++ text_between g first second k m
  unfolding text_between
  between_cut i k m low high =
      let e : m - i ≡ (k - i) + (m - k) = omega arith in
      let f : i + (k - i) ≡ k = omega arith in
      rw e (ap lines (records_cut S D first second i (k - i) (m - k))
      ∙ lines_append (in_records S D first second i (k - i)) (in_records S D first second (i + (k - i)) (m - k))
      ∙ ap (λ (n : ℕ). lines (in_records S D first second i (k - i)) ++ lines (in_records S D first second n (m - k))) f)

  pub counted_on : (start i k len r : ℕ) → start ≤ i → i ≤ k → len ≡ length (text_between g first second start i) → r ≡ length (text_between g first second i k)
      → len + r ≡ length (text_between g first second start k)
  counted_on start i k len r low high h n =
      omega (arith, h, n, ap length (between_cut start i k low high), length-append (text_between g first second start i) (text_between g first second i k))

  -- a list that has room for the lines up to record m, and has those up to record i; the next are those up to record k
  module _ (list : List ℕ) (place start i k m : ℕ) (room : place + length (text_between g first second start m) ≤ length list) (low : start ≤ i) (next : i ≤ k) (high : k ≤ m)
      (now : List ℕ) (at : ℕ) (wrote : Wrote list place (text_between g first second start i) now at) where
    within : place + (length (text_between g first second start i) + length (text_between g first second i k)) ≤ length list
    within =
        let whole = ap length (between_cut start k m (omega arith) high) ∙ length-append (text_between g first second start k) (text_between g first second k m) in
        let part = ap length (between_cut start i k low next) ∙ length-append (text_between g first second start i) (text_between g first second i k) in
        omega (arith, room, whole, part)

    pub part_room : at + length (text_between g first second i k) ≤ length now
    part_room = omega (arith, wrote.ends, wrote.same, within)

    pub wrote_on : (after : List ℕ) (n : ℕ) → Wrote now at (text_between g first second i k) after n → Wrote list place (text_between g first second start k) after n
    wrote_on after n h = rw (between_cut start i k low next) (wrote_then list place (omega (arith, within)) wrote h)

  pub text_is : text_of g first second ≡ header ++ text_between g first second 0 x.count
  unfolding text_between shown
  text_is = let e : x.count - 0 ≡ x.count = omega arith in rw e refl

  -- ---- a block that is alike

  pub alike_none : (i k n : ℕ) (r : Bool) → n ≡ k - i
      → ((j : Job s d plan x.entries ws wd words) → r ≡ true → (m o : ℕ) → m < n
      → in_record j.source j.destination o (record_at s m (lent s i first)) (record_at d m (lent d i second)) 0 (size j.destination) ≡ [])
      → r ≡ true → text_between g first second i k ≡ []
  unfolding text_between lines
  alike_none i k n r few alike is =
      let j = g.planned.job in
      ap lines
      (records_none S D first second i (k - i)
      (λ m low.
      rw (← j.source_size, ← j.destination_size, ← (lent_record s i m first), ← (lent_record d i m second))
      (rw (← j.destination_size) at (alike j is m (i + m) (rw few low)))))

  -- ---- one record

  module _ (i : ℕ) (low : i < x.count) where
    pub in_first_lem : i * s + s ≤ length first
    in_first_lem = omega (arith, row_within s low, g.in_first)

    pub in_second_lem : i * d + d ≤ length second
    in_second_lem = omega (arith, row_within d low, g.in_second)

    pub record_text_lem : text_between g first second i (i + 1) ≡ record_text i (lent s i first) (lent d i second) plan x.entries ss ws ds wd
    unfolding text_between in_records record_text
    record_text_lem =
        let e : i + 1 - i ≡ 1 = omega arith in
        let j = g.planned.job in
        let es : List Entry = entries_at plan x.entries ws ss wd ds in
        rw e (ap lines
        (append-nil (here S D first second i)
        ∙ record_by_entries S D i (record_at (size S) i first) (record_at (size D) i second)
        ∙ ap (λ (fs : List Entry). by_entries fs i (record_at (size S) i first) (record_at (size D) i second)) (sym entries_are)
        ∙ ap₂ (λ (v w : ℕ). by_entries es i (record_at v i first) (record_at w i second)) (sym j.source_size) (sym j.destination_size)
        ∙ ap₂ (λ (p q : List ℕ). by_entries es i (take s p) (take d q)) (sym (tail_lent (i * s) first)) (sym (tail_lent (i * d) second))
        ∙ sym (entries_front i s d (lent s i first) (lent d i second) (lent_room (i * s) s first in_first_lem) (lent_room (i * d) d second in_second_lem) es all_sound)))

    pub entries_formed : EntriesFormed (length (lent s i first)) (length (lent d i second)) plan x.entries ss ws ds wd
    entries_formed =
        let j = g.planned.job in
        let t : ℕ = length (lent s i first) in
        let c : ℕ = length (lent d i second) in
        let all : AllSound t c (entries_at plan x.entries ws ss wd ds) =
        sound_more s d t c (entries_at plan x.entries ws ss wd ds) (lent_room (i * s) s first in_first_lem) (lent_room (i * d) d second in_second_lem) all_sound in
        record {
          room = j.room;
          most = j.most;
          each = λ k h.
              let sound = sound_at plan ws ss wd ds t c x.entries 0 k all (omega arith) (omega arith) in
              record {
                source = sound.source;
                destination = sound.destination;
                read = sound.read;
                write = sound.write;
              };
        }

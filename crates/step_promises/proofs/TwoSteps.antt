-- Document 02, 2026-14: two steps or one, over whole calls, all records and every form. Assumes nothing: the types of sheets are well formed (crate sheet).
use mathlib.Core.Path.{◌≡◌, refl, sym, ap, ap₂, ◌∙◌, subst, subst₂}
use mathlib.Core.Bool.{true}
use mathlib.Core.List.{List}
use mathlib.Core.Option.{some}
use Prim.Native.Nat.{ℕ, ◌*◌, ◌≤◌, ◌<◌}
use native.Mathlib.Nat.{mod-lt}
use lib.Dec.{leb}
use lib.IntN.{ℤ}
use lib.ListN.{length, take}
use lib.Pow.{pow_pos}
use borrow.Author.Tests.{leb-true}
use Rattle.answer.specs.declared.Answer.{Answer}
use Rattle.answer.specs.declared.Answer.TheVariants.{Done, Stop}
use Rattle.answer.specs.declared.Given.{Given}
use Rattle.answer.specs.declared.Values.{Values}
use Rattle.answer.specs.Answer.{number_of, values_of}
use Rattle.number.specs.Place.{raw_at}
use Rattle.datatype.specs.Datatype.{Leaf, layout_of, Datatype, size}
use Rattle.datatype.specs.Matches.{Match, match_at}
use Rattle.datatype.specs.Matches.Match.{unmatched, matched}
use Rattle.datatype.specs.WellFormed.{WellFormed}
use Rattle.datatype.proofs.Tests.{and_true}
use Rattle.datatype.proofs.Ways.{no_match, way_starts, match_way}
use Rattle.datatype.proofs.Matches.{match_formed, match_path}
use Rattle.datatype.proofs.SymbolSets.{each_stands}
use Rattle.sheet.proofs.ReadWellFormed.{read_well_formed}
use Rattle.records.specs.Leaf.{number_in, converted}
use Rattle.records.specs.Arrival.{stands_for}
use Rattle.records.specs.Record.{nothing_given}
use Rattle.records.specs.Records.{record_at, readings, converted_records, exceptions}
use Rattle.records.specs.Matched.{MatchedLeaf}
use Rattle.records.proofs.OneRecord.{reading_at, none_raised}
use Rattle.records.proofs.ManyRecords.{same_record, converted_in, none_in}
use Rattle.runs.specs.Run.{Form, Run, has_room, handled, checks, answer, after}
use Rattle.runs.specs.Run.Form.{copying, in_place}
use Rattle.runs.specs.Run.Checked.{passed}
use Rattle.runs.proofs.Checks.{done_is, passed_tells, room_in_place}
use Rattle.runs.proofs.Buffers.{answer_is}
use Rattle.promises.specs.Runs.{IsDone, DoneWithoutException, SameConverted, becomes}
use Rattle.promises.proofs.Stops.{kind_of_lem}
use Rattle.promises.proofs.Promises.{same_answer, passes, room, converted_is, arrival, kept}
use Rattle.step_promises.specs.TwoSteps.{AllAccepted, SameRecords, SameBackgroundAndHandling, SameNames, NoReals, TwoStepsOrOne, without_given, AlsoWithReals}
use Rattle.step_promises.proofs.Composition.{Composed, by_second, by_whole}
use Rattle.step_promises.proofs.OneLeaf.{SameBits, Became, same_bits, same_given}
use Rattle.step_promises.proofs.Alike.{AlikeAnswers, AlikeAt, both_matched, neither_matched, handled_alike, converted_alike}

-- ---- runs

-- the source has room for the source records
source_room : (form : Form) (n s d x y : ℕ) → has_room form n s d x y ≡ true → n * s ≤ x
source_room copying n s d x y e = leb-true (n * s) x (and_true (leb (n * s) x) (leb (n * d) y) e).0
source_room in_place n s d x y e = (room_in_place n s d x y e).0

-- ---- the three runs

module _ (A B C : Datatype) (r q p : Run) (all : AllAccepted A B C r q p) (names : SameNames A B C) (quiet : DoneWithoutException r) (rs : SameRecords A B r q p)
    (same : SameBackgroundAndHandling C q p) where
  formed_A : WellFormed A
  formed_A = read_well_formed r.source_sheet A all.A_to_B.source

  formed_B : WellFormed B
  formed_B = read_well_formed r.destination_sheet B all.A_to_B.destination

  formed_C : WellFormed C
  formed_C = read_well_formed q.destination_sheet C all.B_to_C.destination

  r_passes : checks r ≡ passed A B
  r_passes = passes r A B all.A_to_B all.r_accepted

  q_passes : checks q ≡ passed B C
  q_passes = passes q B C all.B_to_C all.q_accepted

  p_passes : checks p ≡ passed A C
  p_passes = passes p A C all.A_to_C all.p_accepted

  -- ---- the records that are read

  -- p's are r's
  record_A : (i : ℕ) → i < r.count → record_at (size A) i p.source ≡ record_at (size A) i r.source
  record_A i l =
      let room-p : r.count * size A ≤ length p.source =
      subst (λ (n : ℕ). n * size A ≤ length p.source) rs.p_count
      (source_room p.form p.count (size A) (size C) (length p.source) (length p.background) (passed_tells p A C p_passes).room) in
      let room-r : r.count * size A ≤ length r.source =
      source_room r.form r.count (size A) (size B) (length r.source) (length r.background) (passed_tells r A B r_passes).room in
      same_record (size A) r.count i p.source r.source room-p room-r
      (ap (λ (n : ℕ). take (n * size A) p.source) (sym rs.p_count) ∙ rs.source) l

  -- and q's are those that r left
  record_B : (i : ℕ) → i < r.count → record_at (size B) i q.source ≡ record_at (size B) i (after r)
  record_B i l =
      let made : take (r.count * size B) (after r) ≡ converted_records A B r.count (readings A B r.source) r.background =
      converted_is r A B r_passes quiet.done in
      let in-q : take (r.count * size B) q.source ≡ converted_records A B r.count (readings A B r.source) r.background =
      ap (λ (n : ℕ). take (n * size B) q.source) (sym rs.q_count) ∙ rs.left ∙ made in
      let at = converted_in A B formed_A formed_B r.count (readings A B r.source) r.background (room r A B r_passes) i in
      at q.source in-q l ∙ sym (at (after r) made l)

  -- ---- a matched leaf of record i

  module _ (i : ℕ) (l : i < r.count) (a b c : ℕ) (x y z : Leaf) (m : Composed A B C a b c x y z) where
    abbrev first_leaf : MatchedLeaf A B r.count
    first_leaf = record { index = i; from = a; to = b; source = x; destination = y; in_records_lem = l; match = m.first }

    quiet_leaf : (becomes first_leaf r.source).kind ≡ 0
    quiet_leaf =
        let none : exceptions A B r.count (readings A B r.source) ≡ 0 = sym ((kept r).count A B all.A_to_B quiet.done) ∙ quiet.count in
        sym (kind_of_lem first_leaf r.source)
        ∙ none_raised A B (readings A B r.source i) (size B) (none_in A B r.count (readings A B r.source) none i l) b
        (way_starts (match_way B A formed_B m.first) formed_B)

    -- its bits in the source record, and the number that r left of them
    abbrev bits : ℕ
    bits = raw_at (layout_of x) a (record_at (size A) i r.source)

    abbrev number : ℤ
    number = number_in y b (record_at (size B) i (after r))

    became : Became x y bits number
    became =
        let w = arrival r A B all.A_to_B quiet.done first_leaf in
        record { bits = mod-lt _ (pow_pos (layout_of x).precision); quiet = quiet_leaf; holds = w.holds; arrives = w.number quiet_leaf }

    q_reads : readings B C q.source i c ≡ some number
    q_reads =
        reading_at B C (record_at (size B) i q.source) c b y z m.second ∙ ap (λ (t : List ℕ). some (number_in y b t)) (record_B i l)

    p_reads : readings A C p.source i c ≡ some (stands_for x bits)
    p_reads =
        reading_at A C (record_at (size A) i p.source) c a x z m.whole ∙ ap (λ (t : List ℕ). some (number_in x a t)) (record_A i l)

    leaf_same : SameBits (converted y z number) (converted x z (stands_for x bits))
    leaf_same =
        let g = match_formed A B formed_A formed_B b a x y m.first in
        same_bits x y z bits number g.0 g.1
        (match_path A B formed_A formed_B (passed_tells r A B r_passes).path b a x y m.first)
        (match_path B C formed_B formed_C (passed_tells q B C q_passes).path c b y z m.second) became

    leaf_same_given : NoReals A B C → 1 ≤ (converted x z (stands_for x bits)).kind
        → (converted y z number).given ≡ (converted x z (stands_for x bits)).given
    leaf_same_given reals k =
        let g = match_formed B C formed_B formed_C c b y z m.second in
        same_given x y z bits number (reals.of_A c a x z m.whole) (reals.of_B c b y z m.second) g.0 g.1
        (match_path A B formed_A formed_B (passed_tells r A B r_passes).path b a x y m.first)
        (match_path B C formed_B formed_C (passed_tells q B C q_passes).path c b y z m.second)
        (λ j k ss us e f. each_stands A C formed_A formed_C (passed_tells p A C p_passes).symbols c a j k ss us
        (m.whole ∙ ap₂ (λ (d t : Leaf). matched a d t) e f)) became k

  -- ---- all leaves of all records

  -- R holds of what was given, wherever an exception is raised
  abbrev GivenAlike : (Given → Given → Type 0) → Type 0
  GivenAlike R = (i : ℕ) (l : i < r.count) (a b c : ℕ) (x y z : Leaf) (m : Composed A B C a b c x y z)
      → 1 ≤ (converted x z (stands_for x (bits i l a b c x y z m))).kind
      → R (converted y z (number i l a b c x y z m)).given (converted x z (stands_for x (bits i l a b c x y z m))).given

  module _ (R : Given → Given → Type 0) (given : GivenAlike R) where
    alike : (i : ℕ) → i < r.count → (c : ℕ) → AlikeAt R B A C (readings B C q.source i) (readings A C p.source i) c
    alike i l c = by_B (match_at B C c) refl
      where
        of : (a b : ℕ) (x y z : Leaf) → Composed A B C a b c x y z → AlikeAt R B A C (readings B C q.source i) (readings A C p.source i) c
        of a b x y z m =
            both_matched R B A C (readings B C q.source i) (readings A C p.source i) c b a y x z _ _ m.second m.whole
            (q_reads i l a b c x y z m) (p_reads i l a b c x y z m) (leaf_same i l a b c x y z m) (given i l a b c x y z m)

        by_A : (t : Match) → match_at A C c ≡ t → match_at B C c ≡ unmatched
            → AlikeAt R B A C (readings B C q.source i) (readings A C p.source i) c
        by_A unmatched n m = neither_matched R B A C (readings B C q.source i) (readings A C p.source i) c m n
        by_A (matched a x z) n m =
            let w = by_whole A B C formed_A formed_B formed_C names (passed_tells q B C q_passes).path c a x z n in
            no_match (sym m ∙ w.2.second)

        by_B : (t : Match) → match_at B C c ≡ t → AlikeAt R B A C (readings B C q.source i) (readings A C p.source i) c
        by_B unmatched m = by_A (match_at A C c) refl m
        by_B (matched b y z) m =
            let w = by_second A B C formed_A formed_B formed_C names (passed_tells p A C p_passes).path c b y z m in
            of w.0 b w.1 y z w.2

    answers_alike : AlikeAnswers R (answer q) (answer p)
    answers_alike =
        subst₂ (AlikeAnswers R)
        (sym (answer_is q B C q_passes ∙ ap (λ (n : ℕ). handled q.handling B C n (readings B C q.source)) rs.q_count))
        (ap₂ (λ (h n : ℕ). handled h A C n (readings A C p.source)) same.handling (sym rs.p_count) ∙ sym (answer_is p A C p_passes))
        (handled_alike R B A C (readings B C q.source) (readings A C p.source) r.count alike q.handling)

    bytes_alike : IsDone q → IsDone p → SameConverted C q p
    bytes_alike d e =
        let room-q : r.count * size C ≤ length q.background = subst (λ (n : ℕ). n * size C ≤ length q.background) rs.q_count (room q B C q_passes) in
        let room-p : r.count * size C ≤ length p.background = subst (λ (n : ℕ). n * size C ≤ length p.background) rs.p_count (room p A C p_passes) in
        let back : take (r.count * size C) q.background ≡ take (r.count * size C) p.background =
        ap (λ (n : ℕ). take (n * size C) q.background) (sym rs.q_count) ∙ same.background ∙ ap (λ (n : ℕ). take (n * size C) p.background) rs.p_count in
        converted_is q B C q_passes d
        ∙ ap (λ (n : ℕ). converted_records B C n (readings B C q.source) q.background) rs.q_count
        ∙ converted_alike R B A C (readings B C q.source) (readings A C p.source) r.count alike q.background p.background room-q room-p back
        ∙ ap (λ (n : ℕ). converted_records A C n (readings A C p.source) p.background) (sym rs.p_count)
        ∙ sym (converted_is p A C p_passes e)

-- ---- answers

same_given_same : {a b : Answer} → AlikeAnswers (λ g f. g ≡ f) a b → a ≡ b
same_given_same (AlikeAnswers.equal e) = e
same_given_same (AlikeAnswers.stops i at e f) = ap₂ (Stop i at) e f

-- an answer's number and its fields but for the number that STOP names
record Rest : Type 0 where
  number : ℕ
  fields : Values

abbrev rest : Answer → Rest
rest a = record { number = number_of a; fields = without_given (values_of a) }

rest_same : {R : Given → Given → Type 0} {a b : Answer} → AlikeAnswers R a b → rest a ≡ rest b
rest_same (AlikeAnswers.equal e) = ap rest e
rest_same (AlikeAnswers.stops i at e f) = ap (λ (k : ℕ). rest (Stop i at k nothing_given)) e

-- of two answers with the same rest, one done: they are the same
done_same : (q p : Run) → rest (answer q) ≡ rest (answer p) → IsDone q → answer q ≡ answer p
done_same q p e d =
    let d' : IsDone p = sym (ap (λ (t : Rest). t.number) e) ∙ d in
    done_is (answer q) d ∙ ap (λ (t : Rest). Done t.fields.count) e ∙ sym (done_is (answer p) d')

-- ---- the promises

-- "Two steps or one." Three layouts A, B and C, where C shares the same member names with B as with A at every matched level, and no field on the way is a
-- real. Where A to B raised no exception, B to C, run on the records that A to B left, and A to C, over the same background and with the same handling, give
-- the same answer, and if done the same converted bytes: whatever the forms of the three runs, the words of the members, and what stands behind the records.
pub two_steps_or_one : TwoStepsOrOne
two_steps_or_one A B C r q p all names reals quiet rs same =
    let R : Given → Given → Type 0 = λ g f. g ≡ f in
    let given : GivenAlike A B C r q p all names quiet rs same R =
    λ i l a b c x y z m. leaf_same_given A B C r q p all names quiet rs same i l a b c x y z m reals in
    let e : answer q ≡ answer p = same_given_same (answers_alike A B C r q p all names quiet rs same R given) in
    record {
      answers = same_answer q p e;
      converted = λ d. bytes_alike A B C r q p all names quiet rs same R given d (sym (ap number_of e) ∙ d);
    }

-- With reals all the same holds but for the number that STOP names.
pub two_steps_with_reals : AlsoWithReals
two_steps_with_reals A B C r q p all names quiet rs same =
    let R : Given → Given → Type 0 = λ g f. Unit {0} in
    let given : GivenAlike A B C r q p all names quiet rs same R = λ i l a b c x y z m k. tt in
    let e : rest (answer q) ≡ rest (answer p) = rest_same (answers_alike A B C r q p all names quiet rs same R given) in
    record {
      number = ap (λ (t : Rest). t.number) e;
      fields = ap (λ (t : Rest). t.fields) e;
      done = λ d.
          record {
            answers = same_answer q p (done_same q p e d);
            converted = λ _. bytes_alike A B C r q p all names quiet rs same R given d (sym (ap (λ (t : Rest). t.number) e) ∙ d);
          };
    }

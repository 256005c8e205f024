-- Each bit of the mask shows: two runs that differ in it alone, and in count or in converted bytes. Assumes nothing: the types of sheets are well formed
-- (crate sheet).
use mathlib.Core.Path.{◌≡◌, refl, sym, ap, ap₂, ◌∙◌}
use mathlib.Core.Bool.{true}
use mathlib.Core.List.{List}
use Prim.Native.Nat.{ℕ, ◌*◌, ◌≤◌, max}
use native.Mathlib.Nat.{le_refl, le-max_left, mul-le-mul_left}
use lib.Dec.{leb}
use lib.IntN.{ℤ}
use lib.ListN.{length, replicate, length-replicate}
use borrow.Author.Tests.{le-leb}
use Rattle.answer.specs.declared.Answer.{Answer}
use Rattle.answer.specs.declared.Answer.TheVariants.{Done}
use Rattle.answer.specs.Answer.{number_of, values_of}
use Rattle.datatype.specs.Datatype.{Datatype, size}
use Rattle.datatype.specs.Matches.Match.{matched}
use Rattle.datatype.specs.Handling.{clamp, AllClamp}
use Rattle.datatype.proofs.Tests.{both}
use Rattle.datatype.proofs.Matches.{in_range, match_formed, match_path}
use Rattle.datatype.proofs.SymbolSets.{each_stands}
use Rattle.records.specs.Leaf.{number_in, converted}
use Rattle.records.specs.Records.{record_at, readings, converted_records, exceptions}
use Rattle.runs.specs.Run.{Form, Run, has_room, checks, answer, after}
use Rattle.runs.specs.Run.Form.{copying, in_place}
use Rattle.runs.specs.Run.Checked.{passed}
use Rattle.runs.specs.Parts.{converted_bytes}
use Rattle.runs.proofs.Checks.{tells_passed}
use Rattle.runs.proofs.Exceptions.{clamped_handled}
use Rattle.runs.proofs.Buffers.{answer_is}
use Rattle.promises.specs.Demand3.{SameCall}
use Rattle.promises.proofs.Promises.{converted_is}
use Rattle.masks.specs.Says.{Significant}
use Rattle.reaches.specs.Call.{Call}
use Rattle.mask_promises.specs.Mask.{Masked}
use Rattle.mask_promises.specs.Reach.{BitOf, run_on, Shows, WithoutValue}
use Rattle.mask_promises.proofs.OneBit.{one_bit_shows}
use Rattle.mask_promises.proofs.Quiet.{Quiet, quiet_bits}
use Rattle.mask_promises.proofs.Witness.{Sources, sources}
use Rattle.mask_promises.proofs.Mask.{masked_tells, source_formed_lem, destination_formed_lem}
use Rattle.mask_promises.proofs.OnMask.{significant}

module _ (c : Call) (S D : Datatype) (m : Masked c S D) (clamps : AllClamp 0 S D) (form : Form) (n : ℕ) (few : n ≤ 65536) where
  long : ℕ
  long = n * max (size S) (size D)

  background : List ℕ
  background = replicate (n * size D) 0

  table : List ℕ
  table = replicate 8192 0

  background_room_lem : n * size D ≤ length background
  unfolding background
  background_room_lem = rw (length-replicate {A = ℕ} (n * size D) 0) (le_refl (n * size D))

  source_room : n * size S ≤ long
  unfolding long
  source_room = mul-le-mul_left n (le-max_left (size S) (size D))

  has_room_lem : (form : Form) (p : List ℕ) → length p ≡ long → has_room form n (size S) (size D) (length p) (length background) ≡ true
  unfolding long
  has_room_lem copying p e =
      both (leb (n * size S) (length p)) (leb (n * size D) (length background)) (le-leb (n * size S) (length p) (rw e source_room))
      (le-leb (n * size D) (length background) background_room_lem)
  has_room_lem in_place p e =
      both (leb (n * max (size S) (size D)) (length p)) (leb (n * size D) (length background))
      (le-leb (n * max (size S) (size D)) (length p) (rw e (le_refl (n * max (size S) (size D))))) (le-leb (n * size D) (length background) background_room_lem)

  -- a run on n records of zeros and more
  abbrev on : List ℕ → Run
  on p = run_on c form n background table p

  module _ (p : List ℕ) (e : length p ≡ long) where
    on_passes : checks (on p) ≡ passed S D
    unfolding table
    on_passes =
        let t = masked_tells c S D m in
        tells_passed (on p) S D
        (record {
          handling = refl;
          table = le-leb 8192 (length table) (rw (length-replicate {A = ℕ} 8192 0) (le_refl 8192));
          source = t.source;
          destination = t.destination;
          path = t.path;
          symbols = t.symbols;
          count = le-leb n 65536 few;
          room = has_room_lem form p e;
        })

    on_answers : answer (on p) ≡ Done (exceptions S D n (readings S D p))
    on_answers = answer_is (on p) S D on_passes ∙ clamped_handled S D 0 n (readings S D p) clamps

    on_converts : converted_bytes D n (after (on p)) ≡ converted_records S D n (readings S D p) background
    on_converts = converted_is (on p) S D on_passes (ap number_of on_answers)

  -- two sources whose leaf has a number that raises nothing in the first
  module _ (b : BitOf c S n) (s : Significant S D b.byte b.at) (quiet : Quiet s.source s.destination)
      (w : Sources S n b.index b.byte b.at s.source s.from quiet.bits long) where
    first_quiet : (converted s.source s.destination (number_in s.source s.from (record_at (size S) b.index w.first))).kind ≡ 0
    first_quiet = ap (λ (z : ℤ). (converted s.source s.destination z).kind) w.holds ∙ quiet.quiet

    two_runs : SameCall (on w.first) (on w.second)
    two_runs =
        record {
          form = refl;
          handling = refl;
          source_sheet = refl;
          destination_sheet = refl;
          count = refl;
          source_length = w.first_length ∙ sym w.second_length;
          background_length = refl;
          table_length = refl;
        }

    shown : Shows c S D form n b
    shown =
        let counted : Answer → ℕ = λ a. (values_of a).count in
        record {
          first = w.first;
          second = w.second;
          background = background;
          table = table;
          first_bytes = w.one_bit.first_bytes;
          second_bytes = w.one_bit.second_bytes;
          differ = record { differ = w.one_bit.differ; others = w.one_bit.others };
          same_call = two_runs;
          first_done = ap number_of (on_answers w.first w.first_length);
          second_done = ap number_of (on_answers w.second w.second_length);
          shows = λ e.
              one_bit_shows S D (source_formed_lem c S D m) (destination_formed_lem c S D m) n b.index b.byte b.at w.first w.second w.one_bit s (masked_tells c S D m).path
              first_quiet background background_room_lem
              (sym (ap counted (on_answers w.first w.first_length)) ∙ e.0 ∙ ap counted (on_answers w.second w.second_length))
              (sym (on_converts w.first w.first_length) ∙ e.1 ∙ on_converts w.second w.second_length);
        }

-- each bit of the mask does show, in every record of every number of them; a bit of n records says that n is at least 1
pub each_shows : (c : Call) (S D : Datatype) → Masked c S D → AllClamp clamp S D → (form : Form) (n : ℕ) → n ≤ 65536 → (b : BitOf c S n) → ¬ (WithoutValue S D b)
    → Shows c S D form n b
each_shows c S D m clamps form n few b value =
    let s = significant c S D m b in
    let fs = source_formed_lem c S D m in
    let fd = destination_formed_lem c S D m in
    let t = masked_tells c S D m in
    let f = match_formed S D fs fd s.to s.from s.source s.destination s.match in
    let quiet =
    quiet_bits s.source s.destination f.0 f.1 (match_path S D fs fd t.path s.to s.from s.source s.destination s.match)
    (λ l k ss ts e g. each_stands S D fs fd t.symbols s.to s.from l k ss ts (s.match ∙ ap₂ (matched s.from) e g)) (λ v. value (s, v)) in
    shown c S D m clamps form n few b s quiet
    (sources S n b.index b.byte b.at s.source s.from quiet.bits (long c S D m clamps form n few) (source_room c S D m clamps form n few) b.in_records_lem b.in_record_lem
    b.in_byte f.0 (in_range S D fs fd s.to s.from s.source s.destination s.match).1 quiet.fits)

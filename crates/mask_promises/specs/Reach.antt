-- What is promised of the mask that a call leaves, over whole calls that convert, in either form: its bits are those that could have changed a result.
use Rattle.std.specs.Prelude.{◌≡◌, List, ℕ}
use Rattle.datatype.specs.Datatype.{Datatype, size}
use Rattle.datatype.specs.Handling.{clamp}
use Rattle.runs.specs.Run.{Form, Run}
use Rattle.promises.specs.Runs.{answer_fields, IsDone, DoneWithoutException, SameConverted}
use Rattle.promises.specs.Demand3.{SameCall, SameBackground, SameEffect}
use Rattle.masks.specs.Says.{Significant}
use Rattle.reaches.specs.Call.{Call, mask_after}
use Rattle.mask_promises.specs.Bits.{AreBytes, MaskBit, bit_at, AgreeOnMask, DifferOnlyIn, NoValue}

-- ---- two runs of one call

-- a run with the sheets of the call that gave the mask, and a source buffer of bytes
pub record Converts (c : Call) (r : Run) : Type 0 where
  pub source_sheet : r.source_sheet ≡ c.source_sheet
  pub destination_sheet : r.destination_sheet ≡ c.destination_sheet
  pub bytes : AreBytes r.source

-- a bit of n source records that the mask has
abbrev pub BitOf : Call → Datatype → ℕ → Type 0
BitOf c S n = MaskBit (mask_after c) (size S) n

pub record OnMask (c : Call) (S D : Datatype) (r q : Run) : Type 0 where
  -- sound: two sources that agree on the mask's bits in every record have the same effect (answer, converted bytes, cleared tail) over the same background
  pub sound : AgreeOnMask (mask_after c) (size S) r.count r.source q.source → SameBackground D r q → SameEffect S D r q
  -- tight: two runs done without an exception whose sources differ in some bit of the mask have different converted bytes
  pub tight : DoneWithoutException r → DoneWithoutException q → (b : BitOf c S r.count) → ¬ (bit_at b r.source ≡ bit_at b q.source)
      → ¬ (SameConverted D r q)

-- ---- each bit shows

-- a run of these sheets on n records, with handling 0
abbrev pub run_on : Call → Form → ℕ → List ℕ → List ℕ → List ℕ → Run
run_on c form n background table source =
    record {
      form = form;
      handling = clamp;
      source_sheet = c.source_sheet;
      destination_sheet = c.destination_sheet;
      count = n;
      source = source;
      background = background;
      table = table;
    }

-- where no word of the destination makes a matched leaf obey stop, there are two sources that differ in that bit of that record alone whose runs with handling 0, over one background and with one table, are done and differ in
-- count or in converted bytes
pub record Shows (c : Call) (S D : Datatype) (form : Form) (n : ℕ) (b : BitOf c S n) : Type 0 where
  pub first : List ℕ
  pub second : List ℕ
  pub background : List ℕ
  pub table : List ℕ
  pub first_bytes : AreBytes first
  pub second_bytes : AreBytes second
  pub differ : DifferOnlyIn b first second
  pub same_call : SameCall (run_on c form n background table first) (run_on c form n background table second)
  pub first_done : IsDone (run_on c form n background table first)
  pub second_done : IsDone (run_on c form n background table second)
  pub shows : ¬ (((answer_fields (run_on c form n background table first)).count ≡ (answer_fields (run_on c form n background table second)).count)
      × SameConverted D (run_on c form n background table first) (run_on c form n background table second))

-- the one exception: a bit of a source enum without a value
abbrev pub WithoutValue : (S D : Datatype) {mask : List ℕ} {n : ℕ} → MaskBit mask (size S) n → Type 0
WithoutValue S D b = (s : Significant S D b.byte b.at) × NoValue s.source

-- two sources agree on every other bit of the mask; the numbers of an enum without a value all raise alike where they are clamped
abbrev pub AgreeBesides : Call → Datatype → Datatype → ℕ → List ℕ → List ℕ → Type 0
AgreeBesides c S D n p q = (b : BitOf c S n) → ¬ (WithoutValue S D b) → bit_at b p ≡ bit_at b q

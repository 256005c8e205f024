-- A column between a real and another leaf. No meaning of document 01 stands here.
use Rattle.std.specs.Prelude.{ℕ, ◌+◌, ◌*◌, ◌/◌, ◌^◌, Bool, cond, List, bit_and}
use Rattle.bits.specs.Container.{field}
use Rattle.layout.specs.declared.Layout.{Layout}
use Rattle.number.specs.declared.Fitted.{Fitted}
use Rattle.number.specs.Number.{valued}
use Rattle.number.specs.Place.{stored}
use Rattle.reals.specs.Convert.{int_to_real, real_to_int}
use Rattle.records.specs.Record.{raises}
use Rattle.records.specs.Records.{record_at}
use Rattle.table.specs.Table.{layout_at}
use Rattle.plans.specs.LeafSteps.{real_of, real_becomes}
use Rattle.column_words.specs.Fill.{ones_of}
use Rattle.blocks.specs.Blocks.{each_record, sum_to}

-- the leaf of type f at byte a of each of k records, as one of type g at byte b, where one of the two is a real
abbrev pub each_real : List ℕ → ℕ → List ℕ → ℕ → ℕ → ℕ → ℕ → ℕ → List ℕ → ℕ → List ℕ → List ℕ
each_real ws f wd g b a s d src k dst = each_record (λ i x. stored (layout_at wd g) b (real_becomes ws f wd g a (record_at s i src)).raw x) d k dst

abbrev pub raised_reals : List ℕ → ℕ → List ℕ → ℕ → ℕ → ℕ → List ℕ → ℕ → ℕ
raised_reals ws f wd g a s src k = sum_to (λ i. raises (real_becomes ws f wd g a (record_at s i src)).kind) k

-- the same from layout l to layout m, and whether the source is the real
abbrev pub each_real_of : Bool → Layout → Layout → ℕ → ℕ → ℕ → ℕ → List ℕ → ℕ → List ℕ → List ℕ
each_real_of real l m b a s d src k dst = each_record (λ i x. stored m b (real_of real l m a (record_at s i src)).raw x) d k dst

abbrev pub raised_reals_of : Bool → Layout → Layout → ℕ → ℕ → List ℕ → ℕ → ℕ
raised_reals_of real l m a s src k = sum_to (λ i. raises (real_of real l m a (record_at s i src)).kind) k

-- significant bits in m's container, with its pads that are one
abbrev pub placed_in : Layout → ℕ → ℕ
placed_in m r = r * 2 ^ m.offset.0 + ones_of m

-- what the container x of l becomes in m, where one of the two is a real's, and the source's or not
abbrev pub real_in : Bool → Layout → Layout → ℕ → Fitted
real_in real l m x =
    let raw = field l.offset.0 l.precision x in
    cond real (real_to_int m raw) (int_to_real (valued l.signed l.precision raw))

-- what a container becomes whose significant bits stand above bit `shift`, under mask: a real's in an int of layout m, and an int's in a real
abbrev pub int_by : ℕ → ℕ → Layout → ℕ → Fitted
int_by shift mask m x = real_to_int m (bit_and (x / 2 ^ shift) mask)

abbrev pub real_by : ℕ → ℕ → Bool → ℕ → ℕ → Fitted
real_by shift mask signed precision x = int_to_real (valued signed precision (bit_and (x / 2 ^ shift) mask))

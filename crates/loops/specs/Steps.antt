-- What the functions inside this crate promise of one record, and of the first few. No meaning of document 01 stands here.
use Rattle.std.specs.Prelude.{◌≡◌, List, ◌++◌, ℕ, ◌+◌, ◌*◌, take, drop}
use Rattle.datatype.specs.Datatype.{Datatype, size}
use Rattle.records.specs.Record.{reading, converted_record, raised_below}
use Rattle.records.specs.Records.{readings, exceptions, copy_result, in_place_result}
use Rattle.plans.specs.PlanWords.{Job}

-- l with r, d elements long, in the place of the d elements from at on
abbrev pub put : ℕ → ℕ → List ℕ → List ℕ → List ℕ
put at d r l = take at l ++ (r ++ drop (at + d) l)

-- what the source record a becomes over the background b
abbrev pub record_by : {s d : ℕ} {plan : List ℕ} {n : ℕ} {ws wd words : List ℕ} → Job s d plan n ws wd words → List ℕ → List ℕ → List ℕ
record_by j a b = converted_record j.source j.destination (reading j.source j.destination a) b

-- how many exceptions it raises
abbrev pub raised_of : {s d : ℕ} {plan : List ℕ} {n : ℕ} {ws wd words : List ℕ} → Job s d plan n ws wd words → List ℕ → ℕ
raised_of j a = raised_below j.source j.destination (reading j.source j.destination a) (size j.destination)

-- the first i records are copied: up to record i the buffer is the result's, from there on as it was, and their exceptions are counted
abbrev pub Done : Datatype → Datatype → ℕ → ℕ → List ℕ → List ℕ → ℕ → List ℕ → ℕ → Type 0
Done S D d c src dst₀ i dst total =
    (take (i * d) dst ≡ take (i * d) (copy_result S D c src dst₀)) × (drop (i * d) dst ≡ drop (i * d) dst₀) × (total ≡ exceptions S D i (readings S D src))

-- in place, up: to where record i goes the buffer is the result's, from source record i on as it was
abbrev pub Up : Datatype → Datatype → ℕ → ℕ → ℕ → List ℕ → List ℕ → ℕ → List ℕ → ℕ → Type 0
Up S D s d c buf₀ bg i buf total =
    (take (i * d) buf ≡ take (i * d) (in_place_result S D c buf₀ bg)) × (drop (i * s) buf ≡ drop (i * s) buf₀) × (total ≡ exceptions S D i (readings S D buf₀))

-- down: from where record i goes the buffer is the result's, up to source record i as it was
abbrev pub Down : Datatype → Datatype → ℕ → ℕ → ℕ → List ℕ → List ℕ → ℕ → List ℕ → ℕ → Type 0
Down S D s d c buf₀ bg i buf total =
    (take (i * s) buf ≡ take (i * s) buf₀) × (drop (i * d) buf ≡ drop (i * d) (in_place_result S D c buf₀ bg))
    × (total + exceptions S D i (readings S D buf₀) ≡ exceptions S D c (readings S D buf₀))

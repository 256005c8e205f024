-- Document 01, "Paths and conversion": n records, one after the other, and the two ways of keeping them.
use Rattle.std.specs.Prelude.{List, [], ◌++◌, ℕ, zero, suc, ◌+◌, ◌*◌, ◌-◌, max, take, drop, replicate}
use Rattle.datatype.specs.Datatype.{Datatype, size}
use Rattle.records.specs.Record.{Reading, reading, converted_record, raised_below}

-- record i of a buffer of records of w bytes
abbrev pub record_at : ℕ → ℕ → List ℕ → List ℕ
record_at w i buffer = take w (drop (i * w) buffer)

-- what is read of each source record
abbrev pub Readings : Type 0
Readings = ℕ → Reading

abbrev pub readings : Datatype → Datatype → List ℕ → Readings
readings S D source i = reading S D (record_at (size S) i source)

-- record 0, record 1, up to record n - 1
unfoldable pub joined : (ℕ → List ℕ) → ℕ → List ℕ
joined f zero = []
joined f (suc n) = joined f n ++ f n

-- record i, made of its reading and of its record of the background
abbrev pub converted_at : Datatype → Datatype → Readings → List ℕ → ℕ → List ℕ
converted_at S D fs background i = converted_record S D (fs i) (record_at (size D) i background)

abbrev pub converted_records : Datatype → Datatype → ℕ → Readings → List ℕ → List ℕ
converted_records S D n fs background = joined (converted_at S D fs background) n

-- "The count is how many matched leaves, over all records, raised one."
unfoldable pub exceptions : Datatype → Datatype → ℕ → Readings → ℕ
exceptions S D zero fs = 0
exceptions S D (suc n) fs = exceptions S D n fs + raised_below S D (fs n) (size D)

-- "Copying: a source buffer and a destination buffer, whose own bytes are the background." "Copying changes nothing past nD."
abbrev pub copy_result : Datatype → Datatype → ℕ → List ℕ → List ℕ → List ℕ
copy_result S D n source destination = converted_records S D n (readings S D source) destination ++ drop (n * size D) destination

-- "bytes 0 to nD − 1 are the converted records, bytes nD to nS − 1 (if S is larger) are zero, all later ones unchanged."
abbrev pub in_place_result : Datatype → Datatype → ℕ → List ℕ → List ℕ → List ℕ
in_place_result S D n buffer background =
    converted_records S D n (readings S D buffer) background
    ++ (replicate (n * size S - n * size D) 0 ++ drop (max (n * size S) (n * size D)) buffer)

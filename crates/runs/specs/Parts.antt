-- Document 01, "Words of demand 3", which is what the result of a call turns on: the parts of the buffer that a call writes. `buffer`
-- is that buffer before or after the call.
use Rattle.std.specs.Prelude.{List, [], ℕ, ◌*◌, ◌-◌, max, take, drop, replicate}
use Rattle.datatype.specs.Datatype.{Datatype, size}
use Rattle.runs.specs.Run.{Form}
use Rattle.runs.specs.Run.Form.{copying, in_place}

-- "The converted bytes are bytes 0 to nD − 1 of the destination or in-place buffer after the call."
abbrev pub converted_bytes : Datatype → ℕ → List ℕ → List ℕ
converted_bytes D n buffer = take (n * size D) buffer

-- "The cleared tail is bytes nD to nS − 1 in place, if S is larger; else there is none."
abbrev pub cleared_tail : Form → Datatype → Datatype → ℕ → List ℕ → List ℕ
cleared_tail copying S D n buffer = []
cleared_tail in_place S D n buffer = take (n * size S - n * size D) (drop (n * size D) buffer)

-- "bytes nD to nS − 1 (if S is larger) are zero": what the cleared tail is
abbrev pub zeros : Form → Datatype → Datatype → ℕ → List ℕ
zeros copying S D n = []
zeros in_place S D n = replicate (n * size S - n * size D) 0

-- "all later ones unchanged", "Copying changes nothing past nD"
abbrev pub later_bytes : Form → Datatype → Datatype → ℕ → List ℕ → List ℕ
later_bytes copying S D n buffer = drop (n * size D) buffer
later_bytes in_place S D n buffer = drop (max (n * size S) (n * size D)) buffer

-- Whole calls of the four converting forms: from everything that is lent to the answer and every buffer afterwards.
use Rattle.std.specs.Prelude.{◌≡◌, Bool, true, false, ◌&&◌, List, ◌++◌, ℕ, zero, suc, ◌*◌, max, leb, length, drop, replicate}
use Rattle.answer.specs.declared.Answer.{Answer}
use Rattle.answer.specs.declared.Answer.TheVariants.{Done, Handling, Table, Source, Destination, Path, Count, Room, Stop, Range, Channel, Full, Symbols}
use Rattle.datatype.specs.Datatype.{Datatype, size}
use Rattle.datatype.specs.Symbols.{on_some}
use Rattle.datatype.specs.Handling.{stop}
use Rattle.datatype.specs.Paths.{has_path}
use Rattle.datatype.specs.SymbolSets.{keeps_symbols}
use Rattle.sheet.specs.Sheet.{Sheet, sheet_of}
use Rattle.sheet.specs.Sheet.Sheet.{of_type, faulty_at}
use Rattle.records.specs.Record.{Reading, kind_at, given_at, first_raising, stop_kind_at}
use Rattle.records.specs.Records.{Readings, readings, exceptions, copy_result, in_place_result}

-- "Two forms. Copying: a source buffer and a destination buffer, whose own bytes are the background. In place: one buffer and a separate background."
pub data Form : Type 0 where
  copying in_place : Form

-- everything that a call is lent
pub record Run : Type 0 where
  pub form : Form
  pub handling : ℕ
  pub source_sheet : List ℕ
  pub destination_sheet : List ℕ
  pub count : ℕ
  pub source : List ℕ  -- the source buffer; in place, the one buffer
  pub background : List ℕ  -- the destination buffer; in place, the separate background
  pub table : List ℕ  -- the working table's words

-- "Each also has a plain form without handling"; document 02, 2026-10: "From now on the plain forms, in place and copying, handle as 1."
abbrev pub plain : ℕ
plain = stop

abbrev pub copying_run : List ℕ → List ℕ → ℕ → ℕ → List ℕ → List ℕ → List ℕ → Run
copying_run ss ds n handling source destination table =
    record { form = copying; handling = handling; source_sheet = ss; destination_sheet = ds; count = n; source = source; background = destination; table = table }

abbrev pub in_place_run : List ℕ → List ℕ → ℕ → ℕ → List ℕ → List ℕ → List ℕ → Run
in_place_run ss ds n handling buffer background table =
    record { form = in_place; handling = handling; source_sheet = ss; destination_sheet = ds; count = n; source = buffer; background = background; table = table }

-- ---- "Numbers of refusal, in the order of checks": the checks before STOP

-- what the checks say: a refusal, or the two sheets' types
pub data Checked : Type 0 where
  refused : Answer → Checked
  passed : Datatype → Datatype → Checked

abbrev pub require : Bool → Answer → Checked → Checked
require true refusal next = next
require false refusal next = refused refusal

abbrev pub with_sheet : Sheet → (ℕ → Answer) → (Datatype → Checked) → Checked
with_sheet (of_type T) refusal next = next T
with_sheet (faulty_at k) refusal next = refused (refusal k)

-- "7 ROOM: source under nS, destination or background under nD, in-place buffer under n × max(S, D)"
abbrev pub has_room : Form → ℕ → ℕ → ℕ → ℕ → ℕ → Bool
has_room copying n S D source background = leb (n * S) source && leb (n * D) background
has_room in_place n S D buffer background = leb (n * max S D) buffer && leb (n * D) background

-- checks 6 and 7: records of two types, and the buffers by their lengths
abbrev pub record_checks : Form → ℕ → ℕ → ℕ → Datatype → Datatype → Checked
record_checks form n source background S D =
    require (leb n 65536) Count
    (require (has_room form n (size S) (size D) source background) Room
    (passed S D))

-- checks 5 and 12 before them: document 02, 2026-07: "12 SYMBOLS, between PATH and COUNT, for the converting forms and the report"
abbrev pub type_checks : Form → ℕ → ℕ → ℕ → Datatype → Datatype → Checked
type_checks form n source background S D =
    require (has_path S D) Path
    (require (keeps_symbols S D) Symbols
    (record_checks form n source background S D))

-- checks 3 to 7 and 12: two sheets by their texts
abbrev pub sheet_checks : Form → List ℕ → List ℕ → ℕ → ℕ → ℕ → Checked
sheet_checks form ss ds n source background =
    with_sheet (sheet_of ss) Source (λ S. with_sheet (sheet_of ds) Destination (type_checks form n source background S))

-- all checks before STOP; the table by its length
unfoldable pub checks_of : Form → ℕ → List ℕ → List ℕ → ℕ → ℕ → ℕ → ℕ → Checked
checks_of form handling ss ds n source background table =
    require (leb handling 1) Handling (require (leb 8192 table) Table (sheet_checks form ss ds n source background))

abbrev pub checks : Run → Checked
checks r =
    checks_of r.form r.handling r.source_sheet r.destination_sheet r.count (length r.source) (length r.background) (length r.table)

abbrev pub on_checked : {A : Type 0} → (Datatype → Datatype → A) → (Answer → A) → Checked → A
on_checked f g (refused a) = g a
on_checked f g (passed S D) = f S D

-- ---- the answer

-- STOP at the first raising leaf of record i that obeys stop, if there is one, else what the later records say; h is the call's handling
abbrev pub or_stop : ℕ → Datatype → Datatype → ℕ → Reading → Answer → Answer
or_stop h S D i f later = on_some (λ b. Stop i b (kind_at S D f b) (given_at S D f b)) later (first_raising (stop_kind_at h S D f) 0 (size D))

-- "STOP names the lowest record, and in it the raising leaf whose first byte is lowest." Over the k records from i on; where none of them stops the call, `done`
unfoldable pub stop_from : ℕ → Datatype → Datatype → Readings → Answer → ℕ → ℕ → Answer
stop_from h S D fs done i zero = done
stop_from h S D fs done i (suc k) = or_stop h S D i (fs i) (stop_from h S D fs done (suc i) k)

-- "Handling 0 (clamp) writes these results; handling 1 (stop) refuses if any exception exists." Document 02, 2026-12: "STOP is given exactly when a leaf that obeys
-- stop raises, and names the first such leaf; the count takes all clamped ones."
abbrev pub handled : ℕ → Datatype → Datatype → ℕ → Readings → Answer
handled h S D n fs = stop_from h S D fs (Done (exceptions S D n fs)) 0 n

abbrev pub answer_for : Run → Datatype → Datatype → Answer
answer_for r S D = handled r.handling S D r.count (readings S D r.source)

unfoldable pub answer : Run → Answer
answer r = on_checked (answer_for r) (λ refusal. refusal) (checks r)

-- ---- the buffer that is written

-- the destination buffer; in place, the one buffer
abbrev pub target : Form → List ℕ → List ℕ → List ℕ
target copying source background = background
target in_place buffer background = buffer

abbrev pub result : Form → Datatype → Datatype → ℕ → List ℕ → List ℕ → List ℕ
result copying S D n source background = copy_result S D n source background
result in_place S D n buffer background = in_place_result S D n buffer background

-- "A refusal leaves data and list buffers unchanged"
abbrev pub if_done : Answer → List ℕ → List ℕ → List ℕ
if_done (Done count) new old = new
if_done Handling new old = old
if_done Table new old = old
if_done (Source line) new old = old
if_done (Destination line) new old = old
if_done Path new old = old
if_done Count new old = old
if_done Room new old = old
if_done (Stop i at kind given) new old = old
if_done Range new old = old
if_done Channel new old = old
if_done Full new old = old
if_done Symbols new old = old

unfoldable pub after : Run → List ℕ
after r =
    on_checked
    (λ S D. if_done (answer_for r S D) (result r.form S D r.count r.source r.background) (target r.form r.source r.background))
    (λ refusal. target r.form r.source r.background)
    (checks r)

-- ---- the working table

-- "Its first 8,192 words are zero after every call that passes check 2; words beyond never change."
unfoldable pub cleared : List ℕ → List ℕ
cleared table = replicate 8192 0 ++ drop 8192 table

-- "after 1 and 2 the table too" is unchanged
abbrev pub table_after : Answer → List ℕ → List ℕ
table_after (Done count) table = cleared table
table_after Handling table = table
table_after Table table = table
table_after (Source line) table = cleared table
table_after (Destination line) table = cleared table
table_after Path table = cleared table
table_after Count table = cleared table
table_after Room table = cleared table
table_after (Stop i at kind given) table = cleared table
table_after Range table = cleared table
table_after Channel table = cleared table
table_after Full table = cleared table
table_after Symbols table = cleared table

-- ---- what each converting form promises

-- a call's answer r, the buffer that it writes and the table, afterwards: all as the run says
pub record Answers (run : Run) (r : Answer) (out table : List ℕ) : Type 0 where
  pub answers : r ≡ answer run
  pub leaves : out ≡ after run
  pub clears : table ≡ table_after r run.table

-- The words for the parts of a whole call of the report: its answer, its records and the text that it wrote.
use Rattle.std.specs.Prelude.{◌≡◌, List, ℕ, ◌*◌, take}
use Rattle.answer.specs.Answer.{number_of, values_of}
use Rattle.datatype.specs.Datatype.{Datatype, size}
use Rattle.datatype.specs.Handling.{clamp}
use Rattle.sheet.specs.Sheet.{Sheet, sheet_of}
use Rattle.sheet.specs.Sheet.Sheet.{of_type, faulty_at}
use Rattle.runs.specs.Run.{Run, in_place_run}
use Rattle.reports.specs.Call.{Call, answer, log_after, output_after}

-- ---- the answer

abbrev pub answer_number : Call → ℕ
answer_number c = number_of (answer c)

-- no check refuses
abbrev pub IsDone : Call → Type 0
IsDone c = answer_number c ≡ 0

-- "done carries each output's length in place of the count": the text that the call wrote
abbrev pub written : Call → List ℕ
written c = take (values_of (answer c)).count (output_after c)

-- ---- the sheets

-- the source sheet is of type S, the reader's of type D
pub record Types (c : Call) (S D : Datatype) : Type 0 where
  pub source : sheet_of c.source_sheet ≡ of_type S
  pub reader : sheet_of c.reader_sheet ≡ of_type D

-- the bytes of one record of a sheet's type; a faulty sheet has none
abbrev pub record_size : Sheet → ℕ
record_size (of_type T) = size T
record_size (faulty_at line) = 0

-- S and D, of a call with n records
abbrev pub source_size : Call → ℕ
source_size c = record_size (sheet_of c.source_sheet)

abbrev pub reader_size : Call → ℕ
reader_size c = record_size (sheet_of c.reader_sheet)

-- ---- the records

-- the source records: bytes 0 to nS − 1 of the log
abbrev pub source_records : Call → List ℕ
source_records c = take (c.count * source_size c) c.log

-- the background's records: its bytes 0 to nD − 1
abbrev pub background_records : Call → List ℕ
background_records c = take (c.count * reader_size c) c.background

-- the converted records: bytes 0 to nD − 1 of the log after the call
abbrev pub converted_records : Call → List ℕ
converted_records c = take (c.count * reader_size c) (log_after c)

-- "Each log is converted by the .. in-place form", and document 02, 2026-10: "The season report names handling 0": the run of that form and that handling with the
-- same sheets, count, log, background and table. 2026-12: a word of the reader's sheet may stop that run; the report "still clamps everything"
abbrev pub clamping_run : Call → Run
clamping_run c = in_place_run c.source_sheet c.reader_sheet c.count clamp c.log c.background c.table

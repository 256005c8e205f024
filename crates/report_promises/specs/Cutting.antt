-- Document 02, 2026-01: "Cutting a log between records, anywhere, gives the same report, if neither the whole nor a part is refused."
use Rattle.std.specs.Prelude.{◌≡◌, ◌++◌, ◌+◌}
use Rattle.reports.specs.Call.{Call, answer, memory_after}
use Rattle.reports.specs.Parts.{IsDone, written, source_records, background_records, converted_records}

-- Three calls with the same two sheets. Source records and background records of `whole` are those of `first` and, behind them, those of `second`; either may
-- have none. `first` is called on the memory of `whole`, whatever that holds, and `second` on what `first` left. What stands behind the records of a log or of
-- a background is free, and so are the tables and outputs that are lent.
pub record Cut (whole first second : Call) : Type 0 where
  pub first_source : first.source_sheet ≡ whole.source_sheet
  pub first_reader : first.reader_sheet ≡ whole.reader_sheet
  pub second_source : second.source_sheet ≡ whole.source_sheet
  pub second_reader : second.reader_sheet ≡ whole.reader_sheet
  pub count : whole.count ≡ first.count + second.count
  pub records : source_records whole ≡ source_records first ++ source_records second
  pub background : background_records whole ≡ background_records first ++ background_records second
  pub starts : first.memory ≡ whole.memory
  pub goes_on : second.memory ≡ memory_after first

-- "if neither the whole nor a part is refused"
pub record NoneRefused (whole first second : Call) : Type 0 where
  pub whole_done : IsDone whole
  pub first_done : IsDone first
  pub second_done : IsDone second

-- every word of the memory after the second part is the whole's, its answer and the text that it wrote are, and the parts' converted records, one behind the
-- other, are the whole's
pub record CutAlike (whole first second : Call) : Type 0 where
  pub memory : memory_after second ≡ memory_after whole
  pub answer : answer second ≡ answer whole
  pub output : written second ≡ written whole
  pub converted : converted_records first ++ converted_records second ≡ converted_records whole

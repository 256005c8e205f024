-- Document 02, 2026-12: in the source sheet of a call a member's word, `stop` or `clamp`, changes nothing.
use Rattle.std.specs.Prelude.{◌≡◌, length}
use Rattle.datatype.specs.Datatype.{Datatype}
use Rattle.datatype.specs.Handling.{wordless}
use Rattle.sheet.specs.Sheet.{sheet_of}
use Rattle.sheet.specs.Sheet.Sheet.{of_type}
use Rattle.runs.specs.Run.{Run, answer, after}

-- two runs that differ in the source sheets alone, and these in their words alone
pub record OtherSourceWords (r q : Run) : Type 0 where
  pub form : r.form ≡ q.form
  pub handling : r.handling ≡ q.handling
  pub first : Datatype
  pub second : Datatype
  pub first_sheet_lem : sheet_of r.source_sheet ≡ of_type first
  pub second_sheet_lem : sheet_of q.source_sheet ≡ of_type second
  pub same_without : wordless first ≡ wordless second
  pub destination_sheet : r.destination_sheet ≡ q.destination_sheet
  pub count : r.count ≡ q.count
  pub source : r.source ≡ q.source
  pub background : r.background ≡ q.background
  pub table_length : length r.table ≡ length q.table

-- document 02, 2026-12: "source sheets may carry it without effect"
pub record WithoutEffect (r q : Run) : Type 0 where
  pub answers : answer r ≡ answer q
  pub leaves : after r ≡ after q

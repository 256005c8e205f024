-- A whole call that asks which bits of a source record a conversion can turn on, from everything that is lent to the answer and the mask afterwards. No document
-- asks for it: docs/DECISIONS.md, "Which bits of the source show", has what was decided.
use Rattle.std.specs.Prelude.{◌≡◌, List, ◌++◌, ℕ, leb, length, drop}
use Rattle.answer.specs.declared.Answer.{Answer}
use Rattle.answer.specs.declared.Answer.TheVariants.{Done, Table, Source, Destination, Path, Room, Symbols}
use Rattle.datatype.specs.Datatype.{Datatype, size}
use Rattle.datatype.specs.Paths.{has_path}
use Rattle.datatype.specs.SymbolSets.{keeps_symbols}
use Rattle.sheet.specs.Sheet.{sheet_of}
use Rattle.runs.specs.Run.{Checked, require, with_sheet, on_checked, table_after}
use Rattle.runs.specs.Run.Checked.{passed}
use Rattle.masks.specs.Mask as masks

-- everything that a call is lent
pub record Call : Type 0 where
  pub source_sheet : List ℕ
  pub destination_sheet : List ℕ
  pub mask : List ℕ
  pub table : List ℕ

-- checks 5, 12 and 7, of a mask buffer that has less than one source record
abbrev pub type_checks : Call → Datatype → Datatype → Checked
type_checks c S D =
    require (has_path S D) Path (require (keeps_symbols S D) Symbols (require (leb (size S) (length c.mask)) Room (passed S D)))

unfoldable pub checks : Call → Checked
checks c =
    require (leb 8192 (length c.table)) Table
    (with_sheet (sheet_of c.source_sheet) Source (λ S. with_sheet (sheet_of c.destination_sheet) Destination (λ D. type_checks c S D)))

-- done carries the mask's length, which is the source record's size, in place of the count
unfoldable pub answer : Call → Answer
answer c = on_checked (λ S D. Done (size S)) (λ refusal. refusal) (checks c)

-- a refusal leaves the mask buffer, and bytes behind the mask never change
unfoldable pub mask_after : Call → List ℕ
mask_after c = on_checked (λ S D. masks.mask S D ++ drop (size S) c.mask) (λ refusal. c.mask) (checks c)

-- what the call promises: its answer r, and the mask and the working table afterwards
pub record Reaches (call : Call) (r : Answer) (mask table : List ℕ) : Type 0 where
  pub answers : r ≡ answer call
  pub marks : mask ≡ mask_after call
  pub clears : table ≡ table_after r call.table

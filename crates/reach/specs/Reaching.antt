-- What the functions inside a call promise. No meaning stands here: the contract of the call is `Reaches` in crate reaches.
use Rattle.std.specs.Prelude.{◌≡◌, List, ◌++◌, ℕ, leb, drop}
use Rattle.answer.specs.declared.Answer.{Answer}
use Rattle.answer.specs.declared.Answer.TheVariants.{Done, Source, Destination, Path, Room, Symbols}
use Rattle.datatype.specs.Datatype.{Datatype, size}
use Rattle.datatype.specs.Paths.{has_path}
use Rattle.datatype.specs.SymbolSets.{keeps_symbols}
use Rattle.sheet.specs.Sheet.{sheet_of}
use Rattle.runs.specs.Run.{Checked, require, with_sheet, on_checked}
use Rattle.runs.specs.Run.Checked.{passed}
use Rattle.masks.specs.Mask.{mask}

-- checks 5, 12 and 7, of two types and the mask's bytes
abbrev pub types_checked : ℕ → Datatype → Datatype → Checked
types_checked bytes S D = require (has_path S D) Path (require (keeps_symbols S D) Symbols (require (leb (size S) bytes) Room (passed S D)))

-- checks 3 to 7, of two sheets
abbrev pub sheets_checked : List ℕ → List ℕ → ℕ → Checked
sheets_checked ss ds bytes = with_sheet (sheet_of ss) Source (λ S. with_sheet (sheet_of ds) Destination (λ D. types_checked bytes S D))

-- behind some checks, of which c says what is left of them: the answer r, and the mask's bytes afterwards
pub record Leaves (before : List ℕ) (c : Checked) (r : Answer) (after : List ℕ) : Type 0 where
  pub answers : r ≡ on_checked (λ S D. Done (size S)) (λ refusal. refusal) c
  pub marks : after ≡ on_checked (λ S D. mask S D ++ drop (size S) before) (λ refusal. before) c

-- What follows where the checks of two logs answer. Assumes nothing.
use Rattle.std.specs.Prelude.{Result, Ok, Err}
use mathlib.Core.Path.{◌≡◌, refl, subst, ◌∙◌}
use mathlib.Core.Bool.{Bool, true, false, not}
use mathlib.Core.List.{List}
use Prim.Native.Nat.{ℕ, ◌-◌}
use lib.ListN.{length, take, drop}
use Rattle.answer.specs.declared.Answer.{Answer}
use Rattle.answer.specs.declared.Answer.TheVariants as answer
use Rattle.datatype.specs.Datatype.{Datatype}
use Rattle.datatype.specs.Paths.{has_path}
use Rattle.table.specs.Table.{type_at}
use Rattle.sheet.specs.Sheet.{sheet_of}
use Rattle.sheet.specs.Sheet.Sheet.{of_type, faulty_at}
use Rattle.runs.specs.Run.{record_checks}
use Rattle.runs.specs.Run.Form.{copying}
use Rattle.runs.specs.Run.Checked.{refused}
use Rattle.two_sheets.specs.declared.TypeNumbers.{TypeNumbers}
use Rattle.two_sheets.specs.declared.SheetFault.{SheetFault}
use Rattle.two_sheets.specs.declared.SheetFault.TheVariants.{Source, Destination}
use Rattle.two_sheets.specs.TwoSheets.{first, second, IsSheet, refusal, ReadAs, SheetsRead, Both}
use Rattle.two_sheets.proofs.Halves.{rest_is, types_both}
use Rattle.conversion.specs.Call.{RecordsSay}
use Rattle.conversion.proofs.Parts.{denied, granted}
use Rattle.compare_checking.specs.Checks.{types_checked, sheets_checked, TypesSay, SheetsSay}

-- ---- types

module _ (ss ds : List ℕ) (n p q : ℕ) (ws : List ℕ) (i : ℕ) (wd : List ℕ) (k : ℕ) {t : Bool} (path : t ≡ has_path (type_at ws ss i) (type_at wd ds k)) where
  pub refuse_path : not t ≡ true → TypesSay ss ds n p q ws i wd k (Err answer.Path)
  refuse_path h = rw (denied _ _ path h) refl

  -- behind the path, the checks of the records are left
  module _ (h : not t ≡ false) where
    records_left : types_checked n p q (type_at ws ss i) (type_at wd ds k) ≡ record_checks copying n p q (type_at ws ss i) (type_at wd ds k)
    records_left = rw (granted _ _ path h) refl

    pub types_say : (r : Result TypeNumbers Answer) → RecordsSay false ss ds n q p ws i wd k r → TypesSay ss ds n p q ws i wd k r
    types_say (Err a) g = records_left ∙ g
    types_say (Ok t) g = (g.0, g.1, records_left ∙ g.2, g.3)

-- ---- sheets

module _ (ss ds : List ℕ) (n p q : ℕ) (w : List ℕ) (i k : ℕ) (read : IsSheet ss (first w) i × IsSheet ds (second w) k) where
  -- the second half as a part of the table
  abbrev rest : List ℕ
  rest = take (length w - 4096) (drop 4096 w)

  pub halves_both : Both ss (first w) i ds rest k
  halves_both = rw (rest_is w) (types_both ss ds w i k read)

  checked_is : sheets_checked ss ds n p q ≡ types_checked n p q (type_at (first w) ss i) (type_at (second w) ds k)
  checked_is = rw (read.0.type, read.1.type) refl

  pub halves_say : (r : Result TypeNumbers Answer) → TypesSay ss ds n p q (first w) i rest k r → SheetsSay ss ds n p q w r
  halves_say (Err a) h = checked_is ∙ rw (rest_is w) at h
  halves_say (Ok t) h =
      let g = rw (rest_is w) at h in
      rw (g.0, g.1) (checked_is ∙ g.2, g.3)

-- a faulty sheet
module _ (ss ds : List ℕ) (n p q : ℕ) (w : List ℕ) where
  fault_refuses : (f : SheetFault) → ReadAs ss ds w (Err f) → SheetsSay ss ds n p q w (Err (refusal f))
  fault_refuses (Source k) is = rw is refl
  fault_refuses (Destination k) is = rw (is.0.1.type, is.1) refl

  pub fault_says : {r : Result TypeNumbers SheetFault} {f : SheetFault} → SheetsRead ss ds w r → r ≡ Err f → SheetsSay ss ds n p q w (Err (refusal f)) × (length w ≡ 8192)
  fault_says {f = f} reads e = (fault_refuses f (subst (ReadAs ss ds w) e reads.is), reads.words)

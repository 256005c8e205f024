-- Document 02, 2026-12: "source sheets may carry it without effect", and what a call that clamps everything answers. Assumes nothing.
use mathlib.Core.Path.{◌≡◌, refl, ap, ap₂, ◌∙◌}
use mathlib.Core.Option.{Option, none, some}
use mathlib.Core.Bool.{Bool, true, false}
use mathlib.Core.List.{List}
use Prim.Native.Nat.{ℕ, zero, suc}
use lib.Dec.{leb}
use Rattle.answer.specs.declared.Answer.{Answer}
use Rattle.answer.specs.declared.Answer.TheVariants.{Done, Handling, Table, Destination, Path, Count, Room, Stop, Symbols}
use Rattle.answer.specs.declared.Given.{Given}
use Rattle.datatype.specs.Datatype.{Datatype, size}
use Rattle.datatype.specs.Symbols.{on_some}
use Rattle.datatype.specs.Paths.{has_path}
use Rattle.datatype.specs.SymbolSets.{keeps_symbols}
use Rattle.datatype.specs.Handling.{handling_at, wordless}
use Rattle.datatype.proofs.Handling.{wordless_size, wordless_match, wordless_obeys, source_match, source_path, source_keeps}
use Rattle.sheet.specs.Sheet.{Sheet, sheet_of}
use Rattle.sheet.specs.Sheet.Sheet.{of_type, faulty_at}
use Rattle.records.specs.Record.{Reading, kind_at, given_at, first_raising, if_stop, stop_kind_at}
use Rattle.records.specs.Records.{Readings, readings, exceptions, in_place_result}
use Rattle.records.proofs.Stopping.{first_alike}
use Rattle.records.proofs.Alike.{readings_alike, kind_alike, given_alike, exceptions_alike, copy_alike, in_place_alike}
use Rattle.runs.specs.Run.{Form, require, with_sheet, on_checked, has_room, type_checks, checks_of, or_stop, stop_from, handled, result}
use Rattle.runs.specs.Run.Form.{copying, in_place}
use Rattle.runs.specs.Run.Checked.{passed}
use Rattle.runs.proofs.Exceptions.{clamped_handled}

-- ---- handling 0 to a type without words clamps everything

module _ (S D : Datatype) (n : ℕ) where
  pub clamps_all : (source : List ℕ) → handled 0 S (wordless D) n (readings S (wordless D) source) ≡ Done (exceptions S D n (readings S D source))
  clamps_all source =
      clamped_handled S (wordless D) 0 n (readings S (wordless D) source) (λ b a x y m. wordless_obeys 0 D b)
      ∙ ap Done
      (exceptions_alike S D S (wordless D) refl (wordless_size D) (wordless_match D S) n (readings S (wordless D) source)
      ∙ ap (exceptions S D n) (readings_alike S D S (wordless D) refl (wordless_size D) (wordless_match D S) source))

  pub clamped_in_place : (buffer background : List ℕ) → in_place_result S (wordless D) n buffer background ≡ in_place_result S D n buffer background
  clamped_in_place buffer background = in_place_alike S D S (wordless D) refl (wordless_size D) (wordless_match D S) n buffer background

-- ---- the source without its words

module _ (h : ℕ) (S D : Datatype) where
  stop_kind : (f : Reading) (b : ℕ) → stop_kind_at h (wordless S) D f b ≡ stop_kind_at h S D f b
  unfolding stop_kind_at
  stop_kind f b = ap (if_stop (handling_at h D b)) (kind_alike S D (wordless S) D (wordless_size S) refl (source_match D S) f b)

  or_stop_lem : (i : ℕ) (f : Reading) (later : Answer) → or_stop h (wordless S) D i f later ≡ or_stop h S D i f later
  or_stop_lem i f later =
      ap (on_some (λ b. Stop i b (kind_at (wordless S) D f b) (given_at (wordless S) D f b)) later)
      (first_alike (stop_kind_at h (wordless S) D f) (stop_kind_at h S D f) (stop_kind f) 0 (size D))
      ∙ at (first_raising (stop_kind_at h S D f) 0 (size D))
    where
      at : (o : Option ℕ) → on_some (λ b. Stop i b (kind_at (wordless S) D f b) (given_at (wordless S) D f b)) later o
          ≡ on_some (λ b. Stop i b (kind_at S D f b) (given_at S D f b)) later o
      at none = refl
      at (some b) =
          ap₂ (λ (k : ℕ) (g : Given). Stop i b k g) (kind_alike S D (wordless S) D (wordless_size S) refl (source_match D S) f b)
          (given_alike S D (wordless S) D (wordless_size S) refl (source_match D S) f b)

  stop_from_lem : (fs : Readings) (done : Answer) (i k : ℕ) → stop_from h (wordless S) D fs done i k ≡ stop_from h S D fs done i k
  unfolding stop_from
  stop_from_lem fs done i zero = refl
  stop_from_lem fs done i (suc k) = or_stop_lem i (fs i) (stop_from h (wordless S) D fs done (suc i) k) ∙ ap (or_stop h S D i (fs i)) (stop_from_lem fs done (suc i) k)

  pub source_handled : (n : ℕ) (source : List ℕ) → handled h (wordless S) D n (readings (wordless S) D source) ≡ handled h S D n (readings S D source)
  source_handled n source =
      ap (handled h (wordless S) D n) (readings_alike S D (wordless S) D (wordless_size S) refl (source_match D S) source)
      ∙ ap (λ (k : ℕ). stop_from h (wordless S) D (readings S D source) (Done k) 0 n)
      (exceptions_alike S D (wordless S) D (wordless_size S) refl (source_match D S) n (readings S D source))
      ∙ stop_from_lem (readings S D source) (Done (exceptions S D n (readings S D source))) 0 n

module _ (S D : Datatype) where
  pub source_result : (form : Form) (n : ℕ) (x y : List ℕ) → result form (wordless S) D n x y ≡ result form S D n x y
  source_result copying n x y = copy_alike S D (wordless S) D (wordless_size S) refl (source_match D S) n x y
  source_result in_place n x y = in_place_alike S D (wordless S) D (wordless_size S) refl (source_match D S) n x y

-- ---- what is said of a run whose source sheet is of type S, by the type without its words

module _ {A : Type 0} (S : Datatype) (f : Datatype → Datatype → A) (g : Answer → A) (alike : (D : Datatype) → f S D ≡ f (wordless S) D) where
  type_checked : (form : Form) (n x y : ℕ) (D : Datatype) → on_checked f g (type_checks form n x y S D) ≡ on_checked f g (type_checks form n x y (wordless S) D)
  type_checked form n x y D =
      rw (source_path D S, source_keeps D S, wordless_size S)
      (go (has_path S D) (keeps_symbols S D) (leb n 65536) (has_room form n (size S) (size D) x y))
    where
      go : (p k c r : Bool) → on_checked f g (require p Path (require k Symbols (require c Count (require r Room (passed S D)))))
          ≡ on_checked f g (require p Path (require k Symbols (require c Count (require r Room (passed (wordless S) D)))))
      go false k c r = refl
      go true false c r = refl
      go true true false r = refl
      go true true true false = refl
      go true true true true = alike D

  sheet_checked : (form : Form) (n x y : ℕ) (sheet : Sheet)
      → on_checked f g (with_sheet sheet Destination (type_checks form n x y S)) ≡ on_checked f g (with_sheet sheet Destination (type_checks form n x y (wordless S)))
  sheet_checked form n x y (of_type D) = type_checked form n x y D
  sheet_checked form n x y (faulty_at k) = refl

  pub source_checked : (form : Form) (h : ℕ) (ss ds : List ℕ) (n x y t : ℕ) → sheet_of ss ≡ of_type S
      → on_checked f g (checks_of form h ss ds n x y t)
      ≡ on_checked f g (require (leb h 1) Handling (require (leb 8192 t) Table (with_sheet (sheet_of ds) Destination (type_checks form n x y (wordless S)))))
  unfolding checks_of
  source_checked form h ss ds n x y t e = rw e (go (leb h 1) (leb 8192 t))
    where
      go : (a b : Bool) → on_checked f g (require a Handling (require b Table (with_sheet (sheet_of ds) Destination (type_checks form n x y S))))
          ≡ on_checked f g (require a Handling (require b Table (with_sheet (sheet_of ds) Destination (type_checks form n x y (wordless S)))))
      go false b = refl
      go true false = refl
      go true true = sheet_checked form n x y (sheet_of ds)

-- The two sheets in the two halves of the table, as each half is lent to its reader. Assumes nothing.
use Rattle.std.specs.Prelude.{Result, Ok, Err, MatchResult, IsErrAnd}
use mathlib.Core.Path.{◌≡◌, refl, sym, ap, subst, ◌∙◌}
use mathlib.Core.List.{List, [], ◌++◌, append-nil}
use Prim.Native.Nat.{ℕ, ◌-◌, ◌≤◌}
use native.Mathlib.Omega.{arith}
use borrow.Rule.Slice.PartMut.{put_mid}
use lib.ListN.{length, take, drop, length-append, length-drop, drop_of_length-le}
use lib.Seq.{take_all, take_at, drop_at, length-take-le}
use Rattle.sheet_steps.specs.declared.Counts.{Counts}
use Rattle.sheet_steps.specs.declared.FaultyLine.{FaultyLine}
use Rattle.sheet_steps.specs.Read.{ReadsSheet}
use Rattle.sheet_steps.proofs.Types.{sheet_fault, sheet_type, type_formed}
use Rattle.two_sheets.specs.declared.TypeNumbers.{TypeNumbers}
use Rattle.two_sheets.specs.declared.SheetFault.{SheetFault}
use Rattle.two_sheets.specs.declared.SheetFault.TheVariants.{Source, Destination}
use Rattle.two_sheets.specs.TwoSheets.{first, second, IsSheet, SourceRead, ReadAs, SheetsRead, Both}

is_sheet : (t w : List ℕ) (c : Counts) → ReadsSheet t w (Ok c) → IsSheet t w (c.types - 1)
is_sheet t w c r = record { type = sheet_type t w c r; formed = type_formed t w c r; inside = r.inside }

-- the first half was lent, and holds e now
module _ (t e : List ℕ) (words : length t ≡ 8192) (half : length e ≡ 4096) where
  front_first : first (e ++ drop 4096 t) ≡ e
  front_first = take_at e (drop 4096 t) 4096 half

  front_length : length (e ++ drop 4096 t) ≡ 8192
  front_length = length-append e (drop 4096 t) ∙ omega (arith, length-drop 4096 t)

-- the second half was lent, and holds e now
module _ (t e : List ℕ) (words : length t ≡ 8192) (half : length e ≡ 4096) where
  abbrev now_holds : List ℕ
  now_holds = put_mid 4096 (length t - 4096) t e

  four : length (take 4096 t) ≡ 4096
  four = length-take-le 4096 t (omega arith)

  back_first : first now_holds ≡ first t
  back_first = take_at (take 4096 t) _ 4096 four

  nothing_behind : drop (length t - 4096) (drop 4096 t) ≡ []
  nothing_behind =
      let h : length (drop 4096 t) ≤ length t - 4096 = omega (arith, length-drop 4096 t) in
      drop_of_length-le (drop 4096 t) h

  back_second : second now_holds ≡ e
  back_second = drop_at (take 4096 t) _ 4096 four ∙ ap (λ (l : List ℕ). e ++ l) nothing_behind ∙ append-nil e

  back_length : length now_holds ≡ 8192
  back_length = length-append (take 4096 t) _ ∙ rw (nothing_behind, append-nil e) (omega (arith, four))

module _ (ss ds t e : List ℕ) (words : length t ≡ 8192) {r : Result Counts FaultyLine} where
  pub source_read : (c : Counts) → ReadsSheet ss e r → r ≡ Ok c → SourceRead ss (e ++ drop 4096 t) c.types c.rows
  source_read c reads eq =
      let here : ReadsSheet ss e (Ok c) = subst (ReadsSheet ss e) eq reads in
      record {
        some = here.stands.some;
        is = subst (λ (w : List ℕ). IsSheet ss w (c.types - 1)) (sym (front_first t e words reads.words)) (is_sheet ss e c here);
        words = front_length t e words reads.words;
      }

  pub source_bad : (f : FaultyLine) → ReadsSheet ss e r → r ≡ Err f → SheetsRead ss ds (e ++ drop 4096 t) (Err (Source f.0))
  source_bad f reads eq = record { is = sheet_fault ss e f (subst (ReadsSheet ss e) eq reads); words = front_length t e words reads.words }

module _ (ss ds t e : List ℕ) (n m : ℕ) (source : SourceRead ss t n m) {r : Result Counts FaultyLine} (reads : ReadsSheet ds e r) where
  kept : IsSheet ss (first (put_mid 4096 (length t - 4096) t e)) (n - 1)
  kept = subst (λ (w : List ℕ). IsSheet ss w (n - 1)) (sym (back_first t e source.words reads.words)) source.is

  pub both_types : (c : Counts) → r ≡ Ok c → SheetsRead ss ds (put_mid 4096 (length t - 4096) t e) (Ok (record { source = n - 1; destination = c.types - 1 }))
  both_types c eq =
      record {
        is = (
          kept,
          subst (λ (w : List ℕ). IsSheet ds w (c.types - 1)) (sym (back_second t e source.words reads.words))
              (is_sheet ds e c (subst (ReadsSheet ds e) eq reads)),
        );
        words = back_length t e source.words reads.words;
      }

  pub destination_bad : (f : FaultyLine) → r ≡ Err f → SheetsRead ss ds (put_mid 4096 (length t - 4096) t e) (Err (Destination f.0))
  destination_bad f eq =
      record { is = ((n - 1, kept), sheet_fault ds e f (subst (ReadsSheet ds e) eq reads)); words = back_length t e source.words reads.words }

-- ---- errors

-- where s has the error d, which comes from the one of r
pub mapped : {T E D : Type 0} (r : Result T E) (s : Result T D) (G : E → D → Type 0) {d : D} → MatchResult r (λ x. s ≡ Ok x) (λ e. IsErrAnd s (G e)) → s ≡ Err d → (e : E) × (r ≡ Err e) × G e d
mapped {T} {E} {D} (Ok x) s G {d} h q = let no : ◌≡◌ {A = Result T D} (Ok x) (Err d) = sym h ∙ q in cc
mapped (Err e) s G h q = (e, refl, subst (λ x. IsErrAnd x (G e)) q h)

-- ---- the two types, each from its half

-- the second half as a part of the table
abbrev rest : List ℕ → List ℕ
rest t = take (length t - 4096) (drop 4096 t)

pub rest_is : (t : List ℕ) → rest t ≡ second t
rest_is t = take_all (length t - 4096) (drop 4096 t) (omega (arith, length-drop 4096 t))

pub types_both : (ss ds t : List ℕ) (i k : ℕ) → IsSheet ss (first t) i × IsSheet ds (second t) k → Both ss (first t) i ds (second t) k
types_both ss ds t i k sheets =
    record { source = sheets.0.formed; destination = sheets.1.formed; source_rows = sheets.0.inside; destination_rows = sheets.1.inside }

pub types_read : (ss ds w : List ℕ) (r : Result TypeNumbers SheetFault) → SheetsRead ss ds w r → (t : TypeNumbers) → r ≡ Ok t → IsSheet ss (first w) t.source × IsSheet ds (second w) t.destination
types_read ss ds w r reads t e = subst (ReadAs ss ds w) e reads.is

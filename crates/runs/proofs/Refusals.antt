-- A chain of checks answers as a table of refusals says, row by row. Assumes nothing.
use mathlib.Core.Path.{◌≡◌, refl, sym, ap, ◌∙◌, subst, subst₂}
use mathlib.Core.Logic.{◌⊎◌, inl, inr, ⊎_elim}
use mathlib.Core.Bool.{Bool, true, false, ◌&&◌}
use mathlib.Core.List.{List, [], ◌∷◌}
use Prim.Native.Nat.{ℕ, ◌*◌, ◌≤◌, ◌<◌, max}
use native.Mathlib.Omega.{arith}
use lib.Dec.{leb}
use borrow.Author.Tests.{leb-true, leb-false}
use Rattle.answer.specs.declared.Answer.{Answer}
use Rattle.answer.specs.declared.Values.{Values}
use Rattle.answer.specs.Answer.{number_of, values_of}
use Rattle.datatype.specs.Datatype.{Datatype}
use Rattle.datatype.proofs.Tests.{and_true, and_false}
use Rattle.sheet.specs.Sheet.{Sheet, sheet_of}
use Rattle.sheet.specs.Sheet.Sheet.{of_type, faulty_at}
use Rattle.sheet.specs.FirstFault.{FirstFault, Whole}
use Rattle.sheet.proofs.FirstFault.{first_fault, whole}
use Rattle.runs.specs.Run.{Form, Checked, require, with_sheet, on_checked, has_room}
use Rattle.runs.specs.Run.Form.{copying, in_place}
use Rattle.runs.specs.Refusals.{OfSheets, TooShort, First, only_line}
use Rattle.runs.specs.Refusals.First.{here, behind}

-- ---- the types of two sheets

-- a text has one type
pub one_type : (text : List ℕ) {T U : Datatype} → Whole text T → sheet_of text ≡ of_type U → T ≡ U
one_type text {T} {U} w e = let f : sheet_of text ≡ of_type T = (whole text T).1 w in cc

-- and a faulty line or a type, not both
pub not_faulty : (text : List ℕ) (T : Datatype) → sheet_of text ≡ of_type T → ¬ ((line : ℕ) × FirstFault text line)
not_faulty text T e f =
    let g : sheet_of text ≡ faulty_at f.0 = (first_fault text f.0).1 f.1 in
    let z : ◌≡◌ {A = ℕ} 0 1 = cc in
    omega arith

module _ (ss ds : List ℕ) where
  module _ (S D : Datatype) (s : sheet_of ss ≡ of_type S) (d : sheet_of ds ≡ of_type D) where
    pub of_types : {holds : Datatype → Datatype → Type 0} → holds S D → OfSheets ss ds holds
    of_types h = (S, D, record { source = (whole ss S).0 s; destination = (whole ds D).0 d }, h)

    pub by_types : {holds : Datatype → Datatype → Type 0} → OfSheets ss ds holds → holds S D
    by_types {holds} (T, U, t, h) = subst₂ holds (one_type ss t.source s) (one_type ds t.destination d) h

  -- said of the types of both sheets, twice: of the same types
  pub same_types : {P Q : Datatype → Datatype → Type 0} → OfSheets ss ds P → OfSheets ss ds Q → (S : Datatype) × (D : Datatype) × P S D × Q S D
  same_types (S, D, t, p) q = (S, D, p, by_types S D ((whole ss S).1 t.source) ((whole ds D).1 t.destination) q)

-- there is one first faulty line
pub one_line : (text : List ℕ) {j k : ℕ} {v w : Values} → FirstFault text j → v ≡ only_line j → FirstFault text k → w ≡ only_line k → v ≡ w
one_line text {j} {k} f p g q =
    let a : sheet_of text ≡ faulty_at j = (first_fault text j).1 f in
    let b : sheet_of text ≡ faulty_at k = (first_fault text k).1 g in
    let e : j ≡ k = cc in
    p ∙ ap only_line e ∙ sym q

-- ---- room

either_under : (m x n y : ℕ) → leb m x && leb n y ≡ false → (x < m) ⊎ (y < n)
either_under m x n y e = ⊎_elim (λ (f : leb m x ≡ false). inl (leb-false m x f)) (λ f. inr (leb-false n y f)) (and_false (leb m x) (leb n y) e)

neither_under : (m x n y : ℕ) → leb m x && leb n y ≡ true → ¬ ((x < m) ⊎ (y < n))
neither_under m x n y e (inl l) = omega (arith, leb-true m x (and_true (leb m x) (leb n y) e).0)
neither_under m x n y e (inr l) = omega (arith, leb-true n y (and_true (leb m x) (leb n y) e).1)

pub too_short : (form : Form) (n s d x y : ℕ) → has_room form n s d x y ≡ false → TooShort form n s d x y
too_short copying n s d x y e = either_under (n * s) x (n * d) y e
too_short in_place n s d x y e = either_under (n * max s d) x (n * d) y e

pub not_too_short : (form : Form) (n s d x y : ℕ) → has_room form n s d x y ≡ true → ¬ (TooShort form n s d x y)
not_too_short copying n s d x y e = neither_under (n * s) x (n * d) y e
not_too_short in_place n s d x y e = neither_under (n * max s d) x (n * d) y e

-- ---- what a table says of an answer, row by row

-- the rows below "0 done": each one's number, when it is given, and the fields beside its number; and those of "0 done"
pub record RefusalTable : Type 1 where
  pub Row : Type 0
  pub number : Row → ℕ
  pub Given : Row → Type 0
  pub Fields : Row → Values → Type 0
  pub DoneFields : Values → Type 0

-- none of these rows is given
abbrev pub None : (t : RefusalTable) → List t.Row → Type 0
None t [] = Unit {0}
None t (row ∷ later) = ¬ (t.Given row) × None t later

-- by these rows, the answer a is right: its number and fields are those of the first row that is given, or none is and it is done
pub data Right (t : RefusalTable) (rows : List t.Row) (a : Answer) : Type 0 where
  none_given : None t rows → number_of a ≡ 0 → t.DoneFields (values_of a) → Right t rows a
  first_given : (row : t.Row) → First t.Given row rows → number_of a ≡ t.number row → t.Fields row (values_of a) → Right t rows a

module _ (t : RefusalTable) (row : t.Row) {later : List t.Row} where
  pub passed_by : {a : Answer} → ¬ (t.Given row) → Right t later a → Right t (row ∷ later) a
  passed_by n (none_given m e f) = none_given (n, m) e f
  passed_by n (first_given q first e f) = first_given q (behind n first) e f

  -- g is what is answered where the checks pass
  module _ (g : Datatype → Datatype → Answer) where
    -- a check that is a test
    pub by_test : (b : Bool) (a : Answer) (c : Checked) → number_of a ≡ t.number row → t.Fields row (values_of a) → (b ≡ false → t.Given row)
        → (b ≡ true → ¬ (t.Given row)) → (b ≡ true → Right t later (on_checked g (λ refusal. refusal) c)) → Right t (row ∷ later) (on_checked g (λ refusal. refusal) (require b a c))
    by_test true a c e f given not-given next = passed_by (not-given refl) (next refl)
    by_test false a c e f given not-given next = first_given row (here (given refl)) e f

    -- a check of a sheet
    pub by_sheet : (x : Sheet) (a : ℕ → Answer) (c : Datatype → Checked) → ((k : ℕ) → number_of (a k) ≡ t.number row)
        → ((k : ℕ) → x ≡ faulty_at k → t.Given row × t.Fields row (values_of (a k))) → ((T : Datatype) → x ≡ of_type T → ¬ (t.Given row))
        → ((T : Datatype) → x ≡ of_type T → Right t later (on_checked g (λ refusal. refusal) (c T)))
        → Right t (row ∷ later) (on_checked g (λ refusal. refusal) (with_sheet x a c))
    by_sheet (of_type T) a c e given not-given next = passed_by (not-given T refl) (next T refl)
    by_sheet (faulty_at k) a c e given not-given next = first_given row (here (given k refl).0) (e k) (given k refl).1

-- ---- one row is the first

module _ {Row : Type 0} (Given : Row → Type 0) where
  pub one_row : {a : Row} {rows : List Row} {b : Row} → First Given a rows → First Given b rows → a ≡ b
  one_row (here g) (here h) = refl
  one_row (here g) (behind n q) = absurd (n g)
  one_row (behind n p) (here h) = absurd (n h)
  one_row (behind n p) (behind m q) = one_row p q

  first_is_given : {row : Row} {rows : List Row} → First Given row rows → Given row
  first_is_given (here g) = g
  first_is_given (behind n p) = first_is_given p

none_first : (t : RefusalTable) {row : t.Row} {rows : List t.Row} → First t.Given row rows → ¬ (None t rows)
none_first t (here g) n = n.0 g
none_first t (behind m p) n = none_first t p n.1

module _ (t : RefusalTable) {rows : List t.Row} {a : Answer} where
  -- an answer that is right, by its number
  pub right_row : 1 ≤ number_of a → Right t rows a → (row : t.Row) × (t.number row ≡ number_of a) × First t.Given row rows × t.Fields row (values_of a)
  right_row l (none_given n z f) = absurd (omega (arith, z))
  right_row l (first_given q first z f) = (q, sym z, first, f)

  pub right_first : (row : t.Row) → First t.Given row rows → Right t rows a → (number_of a ≡ t.number row) × t.Fields row (values_of a)
  right_first row p (none_given n z f) = absurd (none_first t p n)
  right_first row p (first_given q first z f) =
      let same : q ≡ row = one_row t.Given first p in
      (z ∙ ap t.number same, subst (λ (x : t.Row). t.Fields x (values_of a)) same f)

  pub right_done : ((row : t.Row) → 1 ≤ t.number row) → number_of a ≡ 0 → Right t rows a → None t rows × t.DoneFields (values_of a)
  right_done some e (none_given n z f) = (n, f)
  right_done some e (first_given q first z f) = absurd (omega (arith, some q, e, z))

  pub right_none : ((row : t.Row) → ¬ (t.Given row)) → Right t rows a → number_of a ≡ 0
  right_none n (none_given m z f) = z
  right_none n (first_given q first z f) = absurd (n q (first_is_given t.Given first))

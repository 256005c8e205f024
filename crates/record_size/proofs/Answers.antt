-- The answer and the table after a call. Assumes nothing.
use Rattle.std.specs.Prelude.{Result, Ok, Err}
use mathlib.Core.Path.{◌≡◌, refl, sym, ap, ◌∙◌}
use mathlib.Core.List.{List, ◌++◌}
use Prim.Native.Nat.{ℕ, ◌-◌, ◌≤◌, ◌<◌}
use native.Mathlib.Omega.{arith}
use borrow.Author.Rules.{rules}
use borrow.Author.Tests.{le-leb, lt-leb}
use lib.ListN.{length, drop, replicate}
use Rattle.answer.specs.declared.Answer.{Answer}
use Rattle.answer.specs.declared.Answer.TheVariants.{Done, Table, Source}
use Rattle.datatype.specs.Datatype.{size}
use Rattle.table.specs.Table.{size_word, type_at}
use Rattle.table.specs.Words.{Reads}
use Rattle.sheet_steps.specs.declared.Counts.{Counts}
use Rattle.sheet_steps.specs.declared.FaultyLine.{FaultyLine}
use Rattle.sheet.specs.Sheet.{Sheet, sheet_of}
use Rattle.sheet.specs.Sheet.Sheet.{of_type, faulty_at}
use Rattle.sheet_steps.specs.Read.{ReadsSheet}
use Rattle.sheet_steps.proofs.Numbered.{type_size}
use Rattle.sheet_steps.proofs.Types.{sheet_fault, sheet_type}
use Rattle.runs.specs.Run.{cleared, table_after}
use Rattle.runs.proofs.Table.{half_cleared}
use Rattle.record_size.specs.RecordSize.{size_answer, answer_of}

-- ---- a sheet

module _ (t w : List ℕ) {r : Result Counts FaultyLine} (read : ReadsSheet t w r) where
  module _ {c : Counts} (e : r ≡ Ok c) where
    types : ReadsSheet t w (Ok c)
    types = rw e at read

    pub type_some : 1 ≤ c.types
    type_some = types.stands.some

    pub size_done : {z : ℕ} → Reads (size_word w (c.types - 1)) z → Done z ≡ size_answer (sheet_of t)
    size_done {z} sized =
        let is : size (type_at w t (c.types - 1)) ≡ z = type_size t types.stands.holds (c.types - 1) (omega (arith, type_some)) ∙ sym sized.is in
        rw (sheet_type t w c types) (ap Done (sym is))

  pub size_fault : {f : FaultyLine} → r ≡ Err f → Source f.0 ≡ size_answer (sheet_of t)
  size_fault {f} e = rw (sheet_fault t w f (rw e at read)) refl

pub ruleset sheet_laws = (rules, type_some, size_done, size_fault)

-- ---- the call

module _ (s : List ℕ) (n : ℕ) where
  pub short_answer : n < 8192 → Table ≡ answer_of s n
  unfolding answer_of
  short_answer h = rw (lt-leb 8192 n h)

  pub long_answer : {r : Answer} → 8192 ≤ n → r ≡ size_answer (sheet_of s) → r ≡ answer_of s n
  unfolding answer_of
  long_answer h e = rw (le-leb 8192 n h) e

-- ---- the table

size_clears : (s : Sheet) (t : List ℕ) → table_after (size_answer s) t ≡ cleared t
size_clears (faulty_at k) t = refl
size_clears (of_type T) t = refl

-- the first half came back as e, and then all was cleared
pub table_done : (t e : List ℕ) (s : Sheet) {r : Answer} → r ≡ size_answer s → length e ≡ 4096 → replicate 8192 0 ++ drop 8192 (e ++ drop 4096 t) ≡ table_after r t
table_done t e s is h = half_cleared t e h ∙ sym (ap (λ (a : Answer). table_after a t) is ∙ size_clears s t)

-- Document 02, 2026-01: what the memory and the output say after a call that is done.
use Rattle.std.specs.Prelude.{◌≡◌, List, [], ◌∷◌, ◌++◌, ℕ, zero, suc, drop, ℤ, pos, ◌+ℤ◌}
use Rattle.answer.specs.declared.Answer.TheVariants.{Done}
use Rattle.answer.specs.Answer.{number_of}
use Rattle.layout.specs.declared.Layout.{Layout}
use Rattle.text.specs.Text.{bytes}
use Rattle.datatype.specs.Datatype.{Leaf, Datatype, size}
use Rattle.datatype.specs.Datatype.Leaf.{atomic}
use Rattle.datatype.specs.Matches.{match_at}
use Rattle.datatype.specs.Handling.{wordless}
use Rattle.datatype.specs.Matches.Match.{unmatched, matched}
use Rattle.records.specs.Leaf.{number_in}
use Rattle.records.specs.Records.{record_at}
use Rattle.runs.specs.Run as runs
use Rattle.runs.specs.Run.Form.{in_place}
use Rattle.channels.specs.Channels.{channels}
use Rattle.channels.specs.Report.{Report, words, held_in}
use Rattle.channels.specs.Says.{Adds}
use Rattle.channels.specs.EachLeaf.{IntLeaf, row_of, EachOnce, lines_of}
use Rattle.reports.specs.Call.{Call, width, held_before, log_after, memory_after}
use Rattle.reports.specs.Parts.{written, clamping_run}

-- the numbers that stand in the leaf y at byte b of n records of w bytes each
unfoldable pub numbers_in : Leaf → ℕ → ℕ → ℕ → List ℕ → List ℤ
numbers_in y b w zero buffer = []
numbers_in y b w (suc n) buffer = numbers_in y b w n buffer ++ (number_in y b (record_at w n buffer) ∷ [])

-- the report that the memory holds after the call
abbrev pub held_after : Call → Datatype → Report
held_after c D = held_in (width D) (memory_after c)

-- "Each log is converted by the .. in-place form and its exceptions are added up", with handling 0 (2026-10). It "still clamps everything" (2026-12): that form, on the
-- same log and background and to the reader's type without its words, is done and leaves the same log, and its exceptions are those that were added
pub record Converted (c : Call) (S D : Datatype) : Type 0 where
  pub exceptions : ℕ
  pub answer : runs.answer_for (clamping_run c) S (wordless D) ≡ Done exceptions
  pub log : runs.result in_place S (wordless D) c.count c.log c.background ≡ log_after c
  -- the call of that form itself is done and leaves the same too, unless a word of the reader's sheet stops it
  pub not_stopped : ¬ (number_of (runs.answer (clamping_run c)) ≡ 8) → (runs.answer (clamping_run c) ≡ Done exceptions) × (runs.after (clamping_run c) ≡ log_after c)
  pub added : (held_after c D).exceptions ≡ (held_before c D).exceptions +ℤ pos exceptions

-- of a call that is done, with a source sheet of type S and a reader's sheet of type D
pub record Says (c : Call) (S D : Datatype) : Type 0 where
  pub converted : Converted c S D
  pub records : (held_after c D).records ≡ (held_before c D).records +ℤ pos c.count
  -- "a log adds its converted numbers to a leaf only where that leaf is matched": to a matched leaf those that now stand in it, record by record
  pub adds : (b a : ℕ) (x : Leaf) (l : Layout) → IntLeaf D b l → match_at S D b ≡ matched a x (atomic l)
      → Adds (numbers_in (atomic l) b (size D) c.count (log_after c)) (row_of D b c.memory) (row_of D b (memory_after c))
  -- and to another nothing
  pub stays : (b : ℕ) (l : Layout) → IntLeaf D b l → match_at S D b ≡ unmatched → row_of D b (memory_after c) ≡ row_of D b c.memory
  -- words behind the report's are as they were
  pub behind : drop (words (width D)) (memory_after c) ≡ drop (words (width D)) c.memory
  -- "`at⇥lowest⇥highest⇥sum⇥samples`, then a line per leaf in byte order": each int leaf of the reader's type has one, by its words in the memory
  pub leaves : EachOnce D
  pub text : written c ≡ bytes "at\tlowest\thighest\tsum\tsamples\n" ++ lines_of D (memory_after c) (channels D)

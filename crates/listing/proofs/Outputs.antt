-- What is printed, by what the sheet says. Assumes nothing.
use mathlib.Core.Path.{◌≡◌, refl, sym, ap, ap₂, ◌∙◌}
use mathlib.Core.List.{List}
use Prim.Native.Nat.{ℕ, ◌≤◌}
use native.Mathlib.Omega.{arith}
use borrow.Author.Tests.{le-leb}
use lib.ListN.{length, drop, length-append, length-drop}
use Rattle.std.specs.Prelude.{Option, Some, None}
use Rattle.answer.specs.declared.Answer.{Answer}
use Rattle.answer.specs.declared.Answer.TheVariants.{Done, Source}
use Rattle.answer.specs.declared.Values.{Values}
use Rattle.answer.specs.Answer.{number_of, values_of}
use Rattle.datatype.specs.Datatype.{Datatype}
use Rattle.sheet.specs.Sheet.{Sheet, sheet_of}
use Rattle.sheet.specs.Sheet.Sheet.{of_type, faulty_at}
use Rattle.runs.specs.Run.{if_done}
use Rattle.text.specs.Written.{written, Wrote}
use Rattle.text.proofs.Written.{written_front}
use Rattle.leaf_lines.specs.LeafList.{leaf_list}
use Rattle.leaves.specs.Call.{listed, answer_of, list_after}
use Rattle.listing.specs.Output.{refused_line, refusal, printed, output_of, faulty_line}
use Rattle.listing.proofs.Lengths.{list_most}

-- ---- the front of a buffer

-- what was written into a buffer that kept its length lies in it
pub inside : (d r : List ℕ) → length (written d 0 r) ≡ length d → length r ≤ length d
inside d r h = omega (arith, ap length (written_front d r), length-append r (drop (length r) d), length-drop (length r) d)

pub wrote_inside : {d r e : List ℕ} {n : ℕ} → Wrote d 0 r e n → n ≤ length e
wrote_inside {d} {r} w = omega (arith, w.ends, w.same, inside d r (ap length (sym w.is) ∙ w.same))

-- ---- the call

module _ (s d : List ℕ) (room : 49166 ≤ length d) {a : Answer} {f : List ℕ} (answered : a ≡ answer_of s (length d) 8192) (lists : f ≡ list_after s d 8192) where
  type_answer : (T : Datatype) → sheet_of s ≡ of_type T → answer_of s (length d) 8192 ≡ Done (length (leaf_list T))
  unfolding answer_of
  type_answer T e = rw (e, le-leb (length (leaf_list T)) (length d) (omega (arith, list_most s T e))) refl

  fault_answer : (k : ℕ) → sheet_of s ≡ faulty_at k → answer_of s (length d) 8192 ≡ Source k
  unfolding answer_of
  fault_answer k e = rw e refl

  type_list : (T : Datatype) → sheet_of s ≡ of_type T → f ≡ written d 0 (leaf_list T)
  unfolding list_after
  type_list T e = lists ∙ ap₂ (λ (x : Answer) (y : Sheet). if_done x (listed y d) d) (type_answer T e) e ∙ sym (written_front d (leaf_list T))

  fault_list : (k : ℕ) → sheet_of s ≡ faulty_at k → f ≡ d
  unfolding list_after
  fault_list k e = lists ∙ ap (λ (x : Answer). if_done x (listed (sheet_of s) d) d) (fault_answer k e)

  module _ {number : ℕ} {v : Values} (is_number : number ≡ number_of a) (is-values : v ≡ values_of a) where
    -- what is put says how long it is, which line is faulty, and what stands in the buffer
    abbrev pub Prints : ℕ → Option ℕ → List ℕ → Type 0
    Prints n line g = (n ≡ length (output_of s)) × (line ≡ faulty_line (sheet_of s)) × (g ≡ written d 0 (output_of s))

    pub prints_list : number ≡ 0 → Prints v.count None f
    unfolding output_of
    prints_list z = go (sheet_of s) refl
      where
        go : (x : Sheet) → sheet_of s ≡ x → (v.count ≡ length (printed x)) × (None ≡ faulty_line x) × (f ≡ written d 0 (printed x))
        go (of_type T) e = (ap (λ (w : Values). w.count) (is-values ∙ ap values_of (answered ∙ type_answer T e)), refl, type_list T e)
        go (faulty_at k) e = let three : number ≡ 3 = is_number ∙ ap number_of (answered ∙ fault_answer k e) in absurd (omega arith)

    pub prints_refusal : {g : List ℕ} {n : ℕ} → (number ≡ 0 → ⊥) → Wrote f 0 (refused_line number v.line) g n → Prints n (Some v.line) g
    unfolding output_of
    prints_refusal {g} {n} z w = go (sheet_of s) refl
      where
        go : (x : Sheet) → sheet_of s ≡ x → (n ≡ length (printed x)) × (Some v.line ≡ faulty_line x) × (g ≡ written d 0 (printed x))
        go (of_type T) e = absurd (z (is_number ∙ ap number_of (answered ∙ type_answer T e)))
        go (faulty_at k) e =
            let source : a ≡ Source k = answered ∙ fault_answer k e in
            let line : refused_line number v.line ≡ refusal (Source k) =
            ap₂ refused_line (is_number ∙ ap number_of source) (ap (λ (u : Values). u.line) (is-values ∙ ap values_of source)) in
            let end : n ≡ length (refusal (Source k)) = w.ends ∙ omega (arith, ap length line) in
            (end, ap (λ (u : Values). Some u.line) (is-values ∙ ap values_of source), w.is ∙ ap₂ (λ (l r : List ℕ). written l 0 r) (fault_list k e) line)

-- ---- what is printed lies in the buffer

pub output_inside : (s d : List ℕ) {e : List ℕ} {n : ℕ} → length e ≡ length d → n ≡ length (output_of s) → e ≡ written d 0 (output_of s) → n ≤ length e
output_inside s d same long bytes = omega (arith, long, inside d (output_of s) (ap length (sym bytes) ∙ same))

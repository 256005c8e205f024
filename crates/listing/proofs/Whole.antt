-- The text that was read decides what is printed: a longer one than a sheet may be is refused whatever stands behind its first 16,385 bytes. Assumes nothing.
use Rattle.std.proofs.Common.{◌≡◌, refl, sym, ap, ◌∙◌, subst, Bool, true, false, List, [], ◌++◌, ℕ, ◌≤◌, ◌<◌, length, take, None, Some, Result, Ok, Err, OnOk, IfSome, arith}
use mathlib.Core.List.{append-nil}
use borrow.Author.Tests.{lt-leb, ltb-true, ltb-false}
use lib.Dec.{ltb}
use lib.ListN.{length-append, drop}
use lib.Seq.{take-append-le, take_all}
use Rattle.std.specs.declared.option.Option.{Option}
use Rattle.std.specs.Io.KnownBytes.{Appends, Consumes, IsAtEnd}
use Rattle.answer.specs.declared.Answer.TheVariants.{Source}
use Rattle.sheet.specs.Sheet.{Sheet, sheet_of, outcome_of}
use Rattle.sheet.specs.Sheet.Sheet.{of_type, faulty_at}
use Rattle.text.specs.Written.{written}
use Rattle.text.proofs.Written.{written_front}
use Rattle.listing.specs.Output.{refusal, printed, output_of, faulty_line}
use Rattle.listing.specs.Note.{note_of, note_beside, said_of}

-- ---- a text that is too long

long_sheet : (t : List ℕ) → 16384 < length t → sheet_of t ≡ faulty_at 0
unfolding sheet_of outcome_of
long_sheet t h = rw (lt-leb (length t) 16384 h) refl

pub long_output : (t : List ℕ) → 16384 < length t → output_of t ≡ refusal (Source 0)
unfolding output_of
long_output t h = ap printed (long_sheet t h)

pub long_said : (t : List ℕ) → 16384 < length t → said_of t ≡ note_of [] 0
unfolding said_of note_of
long_said t h = ap (note_beside t) (long_sheet t h)

-- ---- what is printed of the bytes that were read, of a whole text

module _ (f : List ℕ → List ℕ) (k : List ℕ) (long : (t : List ℕ) → 16384 < length t → f t ≡ k) where
  cut : (text sheet ys : List ℕ) → text ≡ sheet ++ ys → (length sheet < 16385 → ys ≡ []) → f text ≡ f sheet
  cut text sheet ys e end = go (ltb (length sheet) 16385) refl
    where
      go : (b : Bool) → ltb (length sheet) 16385 ≡ b → f text ≡ f sheet
      go true h = ap f (e ∙ ap (λ (l : List ℕ). sheet ++ l) (end (ltb-true (length sheet) 16385 h)) ∙ append-nil sheet)
      go false h =
          let most : 16385 ≤ length sheet = ltb-false (length sheet) 16385 h in
          long text (omega (arith, ap length e, length-append sheet ys, most)) ∙ sym (long sheet (omega (arith, most)))

  pub whole : {T E : Type 0} (r : Result T E) (known rest old new : Option (List ℕ)) (sheet : List ℕ) → Consumes known rest sheet
      → (length sheet < 16385 → IsAtEnd rest) → OnOk r (Appends old new (f sheet)) → OnOk r (IfSome known (λ text. Appends old new (f text)))
  whole (Err e) known rest old new sheet came end p = tt
  whole (Ok x) None rest old new sheet came end p = tt
  whole (Ok x) (Some text) None old new sheet came end p = absurd came
  whole (Ok x) (Some text) (Some ys) old new sheet came end p = subst (Appends old new) (sym (cut text sheet ys came end)) p

-- ---- what is printed stands at the front of the buffer

pub front : (d r : List ℕ) {buffer : List ℕ} {n : ℕ} → buffer ≡ written d 0 r → n ≡ length r → take n buffer ≡ r
front d r {buffer} e h =
    ap (λ (m : ℕ). take m buffer) h ∙ ap (take (length r)) (e ∙ written_front d r) ∙ take-append-le (length r) r (drop (length r) d) (omega arith) ∙ take_all (length r) r (omega arith)

pub output_printed : (s d : List ℕ) {e : List ℕ} {n : ℕ} → n ≡ length (output_of s) → e ≡ written d 0 (output_of s) → take n e ≡ output_of s
output_printed s d long bytes = front d (output_of s) bytes long

-- ---- what is said beside it

none_beside : (s : List ℕ) (x : Sheet) → None ≡ faulty_line x → note_beside s x ≡ []
none_beside s (of_type T) e = refl
none_beside s (faulty_at k) e = let z : ⊥ = cc in absurd z

fault_beside : (s : List ℕ) (x : Sheet) (k : ℕ) → Some k ≡ faulty_line x → note_beside s x ≡ note_of s k
fault_beside s (of_type T) k e = let z : ⊥ = cc in absurd z
fault_beside s (faulty_at j) k e = let same : j ≡ k = cc in ap (note_of s) same

module _ (s : List ℕ) {r : Option ℕ} (faulty : r ≡ faulty_line (sheet_of s)) where
  pub nothing_said : r ≡ None → said_of s ≡ []
  unfolding said_of
  nothing_said h = none_beside s (sheet_of s) (sym h ∙ faulty)

  pub fault_said : {k : ℕ} → r ≡ Some k → said_of s ≡ note_of s k
  unfolding said_of
  fault_said {k} h = fault_beside s (sheet_of s) k (sym h ∙ faulty)

-- ---- results

pub on_ok : {T E : Type 0} (r : Result T E) {P Q : Type 0} → (P → Q) → OnOk r P → OnOk r Q
on_ok (Ok x) f p = f p
on_ok (Err e) f p = tt

pub known_ok : {T E : Type 0} (r : Result T E) {P : Type 0} → P → OnOk r P
known_ok (Ok x) p = p
known_ok (Err e) p = tt

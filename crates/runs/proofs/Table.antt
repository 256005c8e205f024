-- The working table after a call. Assumes nothing.
use mathlib.Core.Path.{◌≡◌, refl, sym, ap, ◌∙◌}
use mathlib.Core.Logic.{◌⊎◌, inl, inr}
use mathlib.Core.List.{List, ◌++◌}
use Prim.Native.Nat.{ℕ, ◌+◌, ◌≤◌}
use native.Mathlib.Omega.{arith}
use lib.Dec.{leb}
use lib.ListN.{length, take, drop, replicate, length-append, length-drop, length-replicate}
use lib.Seq.{take_at, drop_at, drop-drop}
use Rattle.answer.specs.declared.Answer.{Answer}
use Rattle.answer.specs.declared.Answer.TheVariants.{Done, Handling, Table, Source, Destination, Path, Count, Room, Stop, Range, Channel, Full, Symbols}
use Rattle.answer.specs.Answer.{number_of}
use Rattle.datatype.specs.Datatype.{Datatype, size}
use Rattle.sheet.specs.Sheet.{Sheet}
use Rattle.runs.specs.Run.{Form, Checked, with_sheet, on_checked, has_room, record_checks, cleared, table_after}
use Rattle.runs.specs.Run.Checked.{refused, passed}
use Rattle.runs.proofs.Checks.{Refusals, require_refuses, sheet_refuses}

-- ---- n words cleared

module _ (n : ℕ) (t : List ℕ) where
  front_zero : take n (replicate n 0 ++ drop n t) ≡ replicate n 0
  front_zero = take_at (replicate n 0) (drop n t) n (length-replicate n 0)

  same_beyond : drop n (replicate n 0 ++ drop n t) ≡ drop n t
  same_beyond = drop_at (replicate n 0) (drop n t) n (length-replicate n 0)

  same_length : n ≤ length t → length (replicate n 0 ++ drop n t) ≡ length t
  same_length h = rw (length-append, length-replicate, length-drop) (omega arith)

module _ (t : List ℕ) where
  pub cleared_zero : take 8192 (cleared t) ≡ replicate 8192 0
  unfolding cleared
  cleared_zero = front_zero 8192 t

  pub cleared_beyond : drop 8192 (cleared t) ≡ drop 8192 t
  unfolding cleared
  cleared_beyond = same_beyond 8192 t

  pub cleared_length : 8192 ≤ length t → length (cleared t) ≡ length t
  unfolding cleared
  cleared_length h = same_length 8192 t h

  beyond : (n m : ℕ) (e : List ℕ) → length e ≡ n → drop (n + m) (e ++ drop n t) ≡ drop (n + m) t
  beyond n m e h = sym (drop-drop m n (e ++ drop n t)) ∙ ap (λ (l : List ℕ). drop m l) (drop_at e (drop n t) n h) ∙ drop-drop m n t

  -- the first half came back as e, and then all was cleared
  pub half_cleared : (e : List ℕ) → length e ≡ 4096 → replicate 8192 0 ++ drop 8192 (e ++ drop 4096 t) ≡ cleared t
  unfolding cleared
  half_cleared e h = ap (λ (l : List ℕ). replicate 8192 0 ++ l) (beyond 4096 4096 e h)

  -- all of it came back as e, and then was cleared
  pub whole_cleared : (e : List ℕ) → length e ≡ 8192 → replicate 8192 0 ++ drop 8192 (e ++ drop 8192 t) ≡ cleared t
  unfolding cleared
  whole_cleared e h = ap (λ (l : List ℕ). replicate 8192 0 ++ l) (drop_at e (drop 8192 t) 8192 h)

-- ---- after which answers

-- refused by check 1 or 2, or cleared
pub table_cases : (a : Answer) (t : List ℕ)
    → (((number_of a ≡ 1) ⊎ (number_of a ≡ 2)) × (table_after a t ≡ t)) ⊎ (((number_of a ≡ 0) ⊎ (3 ≤ number_of a)) × (table_after a t ≡ cleared t))
table_cases (Done count) t = inr (inl refl, refl)
table_cases Handling t = inl (inl refl, refl)
table_cases Table t = inl (inr refl, refl)
table_cases (Source line) t = inr (inr (omega arith), refl)
table_cases (Destination line) t = inr (inr (omega arith), refl)
table_cases Path t = inr (inr (omega arith), refl)
table_cases Count t = inr (inr (omega arith), refl)
table_cases Room t = inr (inr (omega arith), refl)
table_cases (Stop i at kind given) t = inr (inr (omega arith), refl)
table_cases Range t = inr (inr (omega arith), refl)
table_cases Channel t = inr (inr (omega arith), refl)
table_cases Full t = inr (inr (omega arith), refl)
table_cases Symbols t = inr (inr (omega arith), refl)

-- ---- every answer behind check 2 clears the table

abbrev pub Clears : List ℕ → Answer → Type 0
Clears t a = table_after a t ≡ cleared t

module _ (t : List ℕ) where
  -- a faulty sheet, or what the checks of the types refuse
  pub sheets_clear : (a b : Sheet) (next : Datatype → Datatype → Checked) → ((S D : Datatype) → Refusals (Clears t) (next S D))
      → Refusals (Clears t) (with_sheet a Source (λ S. with_sheet b Destination (next S)))
  sheets_clear a b next h =
      sheet_refuses (Clears t) a Source _ (λ k. refl) (λ S s. sheet_refuses (Clears t) b Destination (next S) (λ k. refl) (λ D d. h S D))

  pub records_clear : (form : Form) (n x y : ℕ) (S D : Datatype) → Refusals (Clears t) (record_checks form n x y S D)
  records_clear form n x y S D =
      require_refuses (Clears t) (leb n 65536) Count _ (λ e. refl)
      (require_refuses (Clears t) (has_room form n (size S) (size D) x y) Room (passed S D) (λ e. refl) tt)

  module _ (f : Datatype → Datatype → Answer) (done : (S D : Datatype) → Clears t (f S D)) where
    answer_clears : (c : Checked) → Refusals (Clears t) c → Clears t (on_checked f (λ refusal. refusal) c)
    answer_clears (refused a) g = g
    answer_clears (passed S D) g = done S D

    -- a call that lends the table whole, and clears it whatever the answer
    pub call_clears : (c : Checked) {r : Answer} (e : List ℕ) → Refusals (Clears t) c → r ≡ on_checked f (λ refusal. refusal) c → length e ≡ 8192
        → replicate 8192 0 ++ drop 8192 (e ++ drop 8192 t) ≡ table_after r t
    call_clears c e g is h = whole_cleared t e h ∙ sym (ap (λ (a : Answer). table_after a t) is ∙ answer_clears c g)

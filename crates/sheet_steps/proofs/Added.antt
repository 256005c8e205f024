-- A type or a row was added: the table stands for what the definition gives. Assumes nothing.
use Rattle.std.specs.Prelude as code
use Rattle.std.specs.Prelude.{Some, None}
use mathlib.Core.Path.{◌≡◌, refl, sym, ap, ◌∙◌}
use mathlib.Core.Bool.{Bool, true, false, cond}
use mathlib.Core.List.{List, ◌∷◌}
use mathlib.Core.Option.{Option, none, some}
use Prim.Native.Nat.{ℕ, suc, ◌+◌, ◌*◌, ◌<◌, ◌≤◌}
use native.Mathlib.Numerals.{add-one, sub-one}
use borrow.Author.Tests.{ltb-true}
use lib.Dec.{ltb}
use lib.ListN.{get_or, length}
use lib.Seq.{paste}
use Rattle.datatype.specs.Datatype.{Datatype}
use Rattle.table.specs.Table.{class_word, size_word, bytes_at, node, type_at, types_at, Holds}
use Rattle.table.specs.Records.{row_added}
use Rattle.table.proofs.Keeps.{add_type_lem, add_row_lem}
use Rattle.name_marks.specs.Marks.{mark_of, mark_put}
use Rattle.name_marks.proofs.Free.{free_holds, free_types}
use Rattle.sheet_steps.specs.declared.Counts.{Counts}
use Rattle.sheet.specs.Sheet.{SoFar, add_type, add_row}
use Rattle.sheet_steps.specs.Judged.{so_far_at, Judges}
use Rattle.sheet_steps.specs.Noted.{Noted}
use Rattle.sheet_steps.specs.Steps.{TypeAdded, RowAdded}
use Rattle.sheet_steps.proofs.Numbered.{types_length}
use Rattle.sheet_steps.proofs.Notes.{noted_type, RowNoted, mark_noted, EndNoted, row_ended, noted_row}

pub refused : {w : List ℕ} {n m : ℕ} {t : List ℕ} {after : Option SoFar} → Holds w n m → after ≡ none → Judges w t after None
refused h e = record { is = sym e; holds = tt; noted = tt; words = h.words }

pub typed : {w v r : List ℕ} {n m : ℕ} {j : code.Option Counts} (t : List ℕ) {T : Datatype} → Holds w n m → Noted w t n m → TypeAdded w v n m r j → length r ≡ 16
    → (get_or r 0 0 ≡ 4 → get_or r 8 0 < n) → get_or r 9 0 ≡ m → get_or r 10 0 ≡ 0 → (n < 64 → node (type_at w t) (paste w (16 * n) r 16) t n ≡ T)
    → Judges v t (add_type (so_far_at w t n m) T) j
typed {w} {r = r} {n = n} {m = m} t {T} h noted added whole base first rows is = rw (added.table, added.result) (go (ltb n 64) refl)
  where
    go : (b : Bool) → ltb n 64 ≡ b → Judges (cond b (paste w (16 * n) r 16) w) t (add_type (so_far_at w t n m) T) (cond b (Some (record { types = n + 1; rows = m })) None)
    go true e =
        let grown = add_type_lem (paste w (16 * n) r 16) t r h refl whole (ltb-true _ _ e) base first rows in
        record {
          is =
              rw (types_length w t n, e)
              (ap (λ (ts : List Datatype). some (record { types = ts; rows = m }))
              (grown.types ∙ ap (λ (N : Datatype). N ∷ types_at w t n) (is (ltb-true _ _ e))));
          holds = grown.holds;
          noted = noted_type t r h noted whole (ltb-true _ _ e) first;
          words = grown.holds.words;
        }
    go false e = refused h (rw (types_length w t n, e))

-- a row was added to w, and its end to that
pub rowed : {w v u x r : List ℕ} {i m k e : ℕ} {j : code.Option Counts} (t : List ℕ) {T : Datatype} → Holds w (suc i) m → Noted w t (suc i) m → k ≡ mark_of x → RowAdded w v k (suc i) m r j
    → (length v ≡ 4096 → EndNoted v u i e) → length r ≡ 8 → bytes_at t (get_or r 0 0) (get_or r 1 0) ≡ x
    → (class_word w i ≡ 3 → (get_or r 3 0 < i) × (get_or r 2 0 + size_word w (get_or r 3 0) ≤ e)) → (m < 256 → node (type_at w t) (row_added w i m r) t i ≡ T)
    → Judges u t (add_row (so_far_at w t (suc i) m) (types_at w t i) T) j
rowed {w} {v} {u} {x} {r} {i} {m} {k} {e} t {T} h noted mark added ending whole name inner is = rw added.result (go (ltb m 256) refl (rw (sub-one, mark) at added.table))
  where
    go : (b : Bool) → ltb m 256 ≡ b → v ≡ cond b (mark_put (row_added w i m r) (mark_of x) (m + 1)) w
        → Judges u t (add_row (so_far_at w t (suc i) m) (types_at w t i) T) (cond b (Some (record { types = suc i; rows = m + 1 })) None)
    go true b made =
        let grown = add_row_lem (row_added w i m r) t r h refl whole (ltb-true _ _ b) (λ c. (inner c).0) in
        let held : Holds (row_added w i m r) (suc i) (m + 1) = rw (add-one i) at grown.holds in
        let marked : RowNoted (row_added w i m r) v x m i 0 = rw made (mark_noted (row_added w i m r) x m i held.words) in
        let notes = row_ended marked (ending (sym marked.long ∙ held.words)) in
        record {
          is =
              rw b
              (ap (λ (ts : List Datatype). some (record { types = ts; rows = m + 1 }))
              (free_types (row_added w i m r) u notes.long notes.same (suc i) (m + 1) held t
              ∙ rw (add-one i) at grown.types ∙ ap (λ (N : Datatype). N ∷ types_at w t i) (is (ltb-true _ _ b))));
          holds = free_holds (row_added w i m r) u notes.long notes.same (suc i) (m + 1) held;
          noted = noted_row t r x h noted whole (ltb-true _ _ b) (λ c. (inner c).0) name (λ c. (inner c).1) notes;
          words = sym notes.long ∙ held.words;
        }
    go false b made =
        let long : length v ≡ 4096 = ap length made ∙ h.words in
        record { is = rw b; holds = tt; noted = tt; words = sym (ending long).long ∙ long }

-- What a run answers and leaves in the buffer that it writes, part by part. Assumes nothing.
use mathlib.Core.Path.{◌≡◌, refl, sym, ap, ◌∙◌}
use mathlib.Core.Logic.{◌⊎◌, inl, inr, ⊎_elim}
use mathlib.Core.Bool.{true}
use mathlib.Core.List.{List}
use Prim.Native.Nat.{ℕ, ◌*◌, ◌≤◌}
use lib.ListN.{length}
use Rattle.answer.specs.declared.Answer.{Answer}
use Rattle.answer.specs.declared.Answer.TheVariants.{Done, Handling, Table, Source, Destination, Path, Count, Room, Stop, Range, Channel, Full, Symbols}
use Rattle.datatype.specs.Datatype.{Datatype, size}
use Rattle.datatype.specs.WellFormed.{WellFormed}
use Rattle.records.specs.Records.{readings, converted_records}
use Rattle.records.proofs.Results.{copy_none, copy_converted, copy_later, copy_length, in_place_none, in_place_converted, in_place_cleared, in_place_later, in_place_length}
use Rattle.runs.specs.Run.{Form, Run, on_checked, has_room, target, result, if_done, checks, answer_for, answer, after}
use Rattle.runs.specs.Run.Form.{copying, in_place}
use Rattle.runs.specs.Run.Checked.{refused, passed}
use Rattle.runs.specs.Parts.{converted_bytes, cleared_tail, zeros, later_bytes}
use Rattle.runs.proofs.Checks.{room_behind, room_in_place}

-- ---- a run that is refused before STOP

module _ (r : Run) (a : Answer) (c : checks r ≡ refused a) where
  pub answer_refused : answer r ≡ a
  unfolding answer
  answer_refused = rw c

  pub after_refused : after r ≡ target r.form r.source r.background
  unfolding after
  after_refused = rw c

-- ---- a run that passes

-- an answer is done, or leaves the buffer unchanged
done_or_unchanged : (a : Answer) (new old : List ℕ) → ((k : ℕ) × (a ≡ Done k)) ⊎ (if_done a new old ≡ old)
done_or_unchanged (Done k) new old = inl (k, refl)
done_or_unchanged Handling new old = inr refl
done_or_unchanged Table new old = inr refl
done_or_unchanged (Source k) new old = inr refl
done_or_unchanged (Destination k) new old = inr refl
done_or_unchanged Path new old = inr refl
done_or_unchanged Count new old = inr refl
done_or_unchanged Room new old = inr refl
done_or_unchanged (Stop i b k g) new old = inr refl
done_or_unchanged Range new old = inr refl
done_or_unchanged Channel new old = inr refl
done_or_unchanged Full new old = inr refl
done_or_unchanged Symbols new old = inr refl

module _ (r : Run) (S D : Datatype) (c : checks r ≡ passed S D) where
  pub answer_is : answer r ≡ answer_for r S D
  unfolding answer
  answer_is = ap (on_checked (answer_for r) (λ a. a)) c

  pub after_is : (k : ℕ) → answer r ≡ Done k → after r ≡ result r.form S D r.count r.source r.background
  unfolding after
  after_is k e = rw (c, sym answer_is ∙ e)

  pub after_cases : ((k : ℕ) × (answer r ≡ Done k)) ⊎ (after r ≡ target r.form r.source r.background)
  unfolding after
  after_cases =
      ⊎_elim (λ (d : (k : ℕ) × (answer_for r S D ≡ Done k)). inl (d.0, answer_is ∙ d.1)) (λ d. inr (rw c d))
      (done_or_unchanged (answer_for r S D) (result r.form S D r.count r.source r.background) (target r.form r.source r.background))

-- ---- the parts of a result, in each form

pub result_none : (form : Form) (S D : Datatype) (x y : List ℕ) → result form S D 0 x y ≡ target form x y
result_none copying S D x y = copy_none S D x y
result_none in_place S D x y = in_place_none S D x y

module _ (S D : Datatype) (fs : WellFormed S) (fd : WellFormed D) (n : ℕ) (x y : List ℕ) where
  module _ (room : n * size D ≤ length y) where
    pub result_converted : (form : Form) → converted_bytes D n (result form S D n x y) ≡ converted_records S D n (readings S D x) y
    result_converted copying = copy_converted S D fs fd n x y room
    result_converted in_place = in_place_converted S D fs fd n x y room

    pub result_cleared : (form : Form) → cleared_tail form S D n (result form S D n x y) ≡ zeros form S D n
    result_cleared copying = refl
    result_cleared in_place = in_place_cleared S D fs fd n x y room

    pub result_later : (form : Form) → later_bytes form S D n (result form S D n x y) ≡ later_bytes form S D n (target form x y)
    result_later copying = copy_later S D fs fd n x y room
    result_later in_place = in_place_later S D fs fd n x y room

  pub result_length : (form : Form) → has_room form n (size S) (size D) (length x) (length y) ≡ true → length (result form S D n x y) ≡ length (target form x y)
  result_length copying e = copy_length S D fs fd n x y (room_behind copying n (size S) (size D) (length x) (length y) e)
  result_length in_place e =
      let both : (n * size S ≤ length x) × (n * size D ≤ length x) = room_in_place n (size S) (size D) (length x) (length y) e in
      in_place_length S D fs fd n x y (room_behind in_place n (size S) (size D) (length x) (length y) e) both.0 both.1

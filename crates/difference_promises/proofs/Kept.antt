-- What a call that compares two logs leaves as it was. Assumes nothing.
use mathlib.Core.Path.{◌≡◌, refl, ap, ◌∙◌, subst, subst₂}
use mathlib.Core.Logic.{◌⊎◌, inl, inr}
use mathlib.Core.Bool.{true}
use mathlib.Core.List.{◌++◌}
use Prim.Native.Nat.{◌≤◌, ◌<◌}
use native.Mathlib.Decide.{dec_lt}
use native.Mathlib.Omega.{arith}
use lib.Dec.{leb}
use lib.ListN.{length, take, drop, length-append, length-drop}
use lib.Seq.{take_at, drop_at}
use borrow.Author.Tests.{leb-true}
use Rattle.answer.specs.declared.Answer.{Answer}
use Rattle.answer.specs.declared.Answer.TheVariants.{Done, Table, Source, Destination, Path, Count, Room}
use Rattle.answer.specs.Answer.{number_of, values_of}
use Rattle.datatype.specs.Datatype.{Datatype, size}
use Rattle.datatype.specs.Paths.{has_path}
use Rattle.sheet.specs.Sheet.{sheet_of}
use Rattle.runs.specs.Run.{has_room, cleared}
use Rattle.runs.specs.Run.Form.{copying}
use Rattle.runs.specs.Run.Checked.{refused, passed}
use Rattle.runs.specs.Refusals.First.{here}
use Rattle.runs.proofs.Checks.{refused_or_passed, required, sheet_read, Refusals, require_refuses, sheet_refuses}
use Rattle.runs.proofs.Table.{table_cases, cleared_zero, cleared_beyond, cleared_length}
use Rattle.differences.specs.Call.{Call, text, checks, answer, list_after}
use Rattle.difference_promises.specs.Demand1.{Row, number, answer_number}
use Rattle.difference_promises.specs.Demand1.Row.{TABLE, SOURCE, DESTINATION, PATH, COUNT, ROOM, LIST}
use Rattle.difference_promises.specs.Kept.{IsDone, list_length, Types, table_of, TableKept, Kept}
use Rattle.difference_promises.proofs.Demand1.{demand_1}

-- ---- refused

-- a refusal is not done, and has no length
abbrev Bare : Answer → Type 0
Bare a = (1 ≤ number_of a) × ((values_of a).count ≡ 0)

checks_bare : (c : Call) → Refusals Bare (checks c)
unfolding checks
checks_bare c =
    require_refuses Bare (leb 8192 (length c.table)) Table _ (λ e. (omega arith, refl))
    (sheet_refuses Bare (sheet_of c.first_sheet) Source _ (λ k. (omega arith, refl))
    (λ S s. sheet_refuses Bare (sheet_of c.second_sheet) Destination _ (λ k. (omega arith, refl))
    (λ D d. require_refuses Bare (has_path S D) Path _ (λ e. (omega arith, refl))
    (require_refuses Bare (leb c.count 65536) Count _ (λ e. (omega arith, refl))
    (require_refuses Bare (has_room copying c.count (size S) (size D) (length c.first) (length c.second)) Room _ (λ e. (omega arith, refl))
    (require_refuses Bare (leb (length (text c S D)) (length c.list)) Room (passed S D) (λ e. (omega arith, refl)) tt))))))

module _ (c : Call) (a : Answer) (e : checks c ≡ refused a) where
  refused_bare : Bare a
  refused_bare = subst (Refusals Bare) e (checks_bare c)

  answer_refused : answer c ≡ a
  unfolding answer
  answer_refused = rw e

  list_refused : list_after c ≡ c.list
  unfolding list_after
  list_refused = rw e

  behind_refused : drop (list_length c) (list_after c) ≡ drop (list_length c) c.list
  behind_refused = ap (drop (list_length c)) list_refused

-- ---- passed

module _ (c : Call) (S D : Datatype) (e : checks c ≡ passed S D) where
  pub answer_passed : answer c ≡ Done (length (text c S D))
  unfolding answer
  answer_passed = rw e

  pub list_passed : list_after c ≡ text c S D ++ drop (length (text c S D)) c.list
  unfolding list_after
  list_passed = rw e

  length_passed : list_length c ≡ length (text c S D)
  length_passed = ap (λ (a : Answer). (values_of a).count) answer_passed

  take_passed : take (list_length c) (list_after c) ≡ text c S D
  take_passed = rw (length_passed, list_passed) (take_at (text c S D) (drop (length (text c S D)) c.list) (length (text c S D)) refl)

  behind_passed : drop (list_length c) (list_after c) ≡ drop (list_length c) c.list
  behind_passed = rw (length_passed, list_passed) (drop_at (text c S D) (drop (length (text c S D)) c.list) (length (text c S D)) refl)

  room_passed : (leb (length (text c S D)) (length c.list) ≡ true) × Types c S D
  unfolding checks
  room_passed =
      let c₁ = required (leb 8192 (length c.table)) Table _ e in
      let c₂ = sheet_read (sheet_of c.first_sheet) Source _ c₁.1 in
      let c₃ = sheet_read (sheet_of c.second_sheet) Destination _ c₂.2 in
      let c₄ = required (has_path c₂.0 c₃.0) Path _ c₃.2 in
      let c₅ = required (leb c.count 65536) Count _ c₄.1 in
      let c₆ = required (has_room copying c.count (size c₂.0) (size c₃.0) (length c.first) (length c.second)) Room _ c₅.1 in
      let c₇ = required (leb (length (text c c₂.0 c₃.0)) (length c.list)) Room _ c₆.1 in
      let p : passed c₂.0 c₃.0 ≡ passed S D = c₇.1 in
      let i : c₂.0 ≡ S = cc in
      let j : c₃.0 ≡ D = cc in
      subst₂ (λ (X Y : Datatype). (leb (length (text c X Y)) (length c.list) ≡ true) × Types c X Y) i j
      (c₇.0, record { first = c₂.1; second = c₃.1 })

  lengths_passed : length (list_after c) ≡ length c.list
  lengths_passed =
      ap length list_passed
      ∙ rw (length-append, length-drop) (let h = leb-true (length (text c S D)) (length c.list) room_passed.0 in omega arith)

-- ---- any call

module _ (c : Call) where
  abbrev Either : Type 0
  Either = ((a : Answer) × (checks c ≡ refused a)) ⊎ ((S : Datatype) × (D : Datatype) × (checks c ≡ passed S D))

  refusal_keeps : ¬ (IsDone c) → list_after c ≡ c.list
  refusal_keeps n = at (refused_or_passed (checks c))
    where
      at : Either → list_after c ≡ c.list
      at (inl (a, e)) = list_refused c a e
      at (inr (S, D, e)) = absurd (n (ap number_of (answer_passed c S D e)))

  list_done : (S D : Datatype) → Types c S D → IsDone c → take (list_length c) (list_after c) ≡ text c S D
  list_done S D t d = at (refused_or_passed (checks c))
    where
      at : Either → take (list_length c) (list_after c) ≡ text c S D
      at (inl (a, e)) = absurd (omega (arith, (refused_bare c a e).0, d, ap number_of (answer_refused c a e)))
      at (inr (U, W, e)) =
          let p = (room_passed c U W e).1 in
          let i : U ≡ S = cc (t.first, p.first) in
          let j : W ≡ D = cc (t.second, p.second) in
          subst₂ (λ (X Y : Datatype). take (list_length c) (list_after c) ≡ text c X Y) i j (take_passed c U W e)

  behind_kept : drop (list_length c) (list_after c) ≡ drop (list_length c) c.list
  behind_kept = at (refused_or_passed (checks c))
    where
      at : Either → drop (list_length c) (list_after c) ≡ drop (list_length c) c.list
      at (inl (a, e)) = behind_refused c a e
      at (inr (S, D, e)) = behind_passed c S D e

  length_kept : length (list_after c) ≡ length c.list
  length_kept = at (refused_or_passed (checks c))
    where
      at : Either → length (list_after c) ≡ length c.list
      at (inl (a, e)) = ap length (list_refused c a e)
      at (inr (S, D, e)) = lengths_passed c S D e

  -- ---- the table

  no_row : (row : Row) → ¬ (number row ≡ 1)
  no_row TABLE e = omega (arith, e)
  no_row SOURCE e = omega (arith, e)
  no_row DESTINATION e = omega (arith, e)
  no_row PATH e = omega (arith, e)
  no_row COUNT e = omega (arith, e)
  no_row ROOM e = omega (arith, e)
  no_row LIST e = omega (arith, e)

  -- there is no check 1
  not_one : ¬ (answer_number c ≡ 1)
  not_one e = let x = ((demand_1 c).refused 1 (omega arith)).0 e in no_row x.0 x.1

  long_table : ¬ (answer_number c ≡ 2) → 8192 ≤ length c.table
  long_table n = at (dec_lt (length c.table) 8192)
    where
      at : Dec (length c.table < 8192) → 8192 ≤ length c.table
      at (yes l) = absurd (n (((demand_1 c).refused 2 (omega arith)).1 (TABLE, refl, here l)))
      at (no g) = omega arith

  table_kept : TableKept c
  table_kept = at (table_cases (answer c) c.table)
    where
      as_it_was : answer_number c ≡ 2 → table_of c ≡ c.table → TableKept c
      as_it_was e t = record { unchanged = λ x. t; zero = λ n. absurd (n e); beyond = ap (drop 8192) t; lengths = ap length t }

      is_cleared : ¬ (answer_number c ≡ 2) → table_of c ≡ cleared c.table → TableKept c
      is_cleared n t =
          record {
            unchanged = λ e. absurd (n e);
            zero = λ x. ap (take 8192) t ∙ cleared_zero c.table;
            beyond = ap (drop 8192) t ∙ cleared_beyond c.table;
            lengths = ap length t ∙ cleared_length c.table (long_table n);
          }

      at : (((answer_number c ≡ 1) ⊎ (answer_number c ≡ 2)) × (table_of c ≡ c.table)) ⊎ (((answer_number c ≡ 0) ⊎ (3 ≤ answer_number c)) × (table_of c ≡ cleared c.table))
          → TableKept c
      at (inl (inl e, t)) = absurd (not_one e)
      at (inl (inr e, t)) = as_it_was e t
      at (inr (inl z, t)) = is_cleared (λ e. omega (arith, z, e)) t
      at (inr (inr l, t)) = is_cleared (λ e. omega (arith, l, e)) t

-- ---- the promise

-- A refusal leaves the list buffer as it was, no length changes, nothing behind the list does, and the table is left as by every call.
pub kept : (c : Call) → Kept c
kept c =
    record {
      refusals = refusal_keeps c;
      list = list_done c;
      behind = behind_kept c;
      lengths = length_kept c;
      table = table_kept c;
    }

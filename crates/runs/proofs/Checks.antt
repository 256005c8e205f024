-- What the checks before STOP tell of a run, and what their refusals' numbers are. Assumes nothing.
use mathlib.Core.Path.{◌≡◌, refl, subst, subst₂}
use mathlib.Core.Logic.{◌⊎◌, inl, inr}
use mathlib.Core.Bool.{Bool, true, false}
use mathlib.Core.List.{List}
use Prim.Native.Nat.{ℕ, suc, ◌*◌, ◌≤◌, max}
use native.Mathlib.Nat.{le_trans, le-max_left, le-max_right, mul-le-mul_left}
use native.Mathlib.Omega.{arith}
use lib.Dec.{leb}
use lib.ListN.{length}
use borrow.Author.Tests.{leb-true, le-leb}
use Rattle.answer.specs.declared.Answer.{Answer}
use Rattle.answer.specs.declared.Given.{Given}
use Rattle.answer.specs.declared.Answer.TheVariants.{Done, Handling, Table, Source, Destination, Path, Count, Room, Stop, Range, Channel, Full, Symbols}
use Rattle.answer.specs.Answer.{number_of, values_of}
use Rattle.datatype.specs.Datatype.{Datatype, size}
use Rattle.datatype.specs.Paths.{has_path}
use Rattle.datatype.specs.SymbolSets.{keeps_symbols}
use Rattle.datatype.proofs.Tests.{and_true, both}
use Rattle.sheet.specs.Sheet.{Sheet, sheet_of}
use Rattle.sheet.specs.Sheet.Sheet.{of_type, faulty_at}
use Rattle.runs.specs.Run.{Form, Run, Checked, require, with_sheet, on_checked, has_room, checks_of, checks}
use Rattle.runs.specs.Run.Form.{copying, in_place}
use Rattle.runs.specs.Run.Checked.{refused, passed}

-- ---- the numbers of answers

no_number : {A : Type 0} {m : ℕ} → suc m ≡ 0 → A
no_number e = absurd (omega arith)

-- number 0 is done, with its count
pub done_is : (a : Answer) → number_of a ≡ 0 → a ≡ Done (values_of a).count
done_is (Done count) e = refl
done_is Handling e = no_number e
done_is Table e = no_number e
done_is (Source line) e = no_number e
done_is (Destination line) e = no_number e
done_is Path e = no_number e
done_is Count e = no_number e
done_is Room e = no_number e
done_is (Stop i at kind given) e = no_number e
done_is Range e = no_number e
done_is Channel e = no_number e
done_is Full e = no_number e
done_is Symbols e = no_number e

-- number 8 is STOP, with its fields
pub stop_is : (a : Answer) → number_of a ≡ 8 → (g : Given) × (a ≡ Stop (values_of a).«record» (values_of a).at (values_of a).kind g)
stop_is (Done count) e = absurd (omega (arith, e))
stop_is Handling e = absurd (omega (arith, e))
stop_is Table e = absurd (omega (arith, e))
stop_is (Source line) e = absurd (omega (arith, e))
stop_is (Destination line) e = absurd (omega (arith, e))
stop_is Path e = absurd (omega (arith, e))
stop_is Count e = absurd (omega (arith, e))
stop_is Room e = absurd (omega (arith, e))
stop_is (Stop i at kind given) e = (given, refl)
stop_is Range e = absurd (omega (arith, e))
stop_is Channel e = absurd (omega (arith, e))
stop_is Full e = absurd (omega (arith, e))
stop_is Symbols e = absurd (omega (arith, e))

-- ---- refused, or passed

pub refused_or_passed : (c : Checked) → ((a : Answer) × (c ≡ refused a)) ⊎ ((S : Datatype) × (D : Datatype) × (c ≡ passed S D))
refused_or_passed (refused a) = inl (a, refl)
refused_or_passed (passed S D) = inr (S, D, refl)

no_pass : {A : Type 0} {a : Answer} {S D : Datatype} → refused a ≡ passed S D → A
no_pass e = let z : ◌≡◌ {A = ℕ} 0 1 = cc in absurd (omega arith)

pub required : (t : Bool) (a : Answer) (c : Checked) {S D : Datatype} → require t a c ≡ passed S D → (t ≡ true) × (c ≡ passed S D)
required true a c e = (refl, e)
required false a c e = no_pass e

pub sheet_read : (x : Sheet) (a : ℕ → Answer) (f : Datatype → Checked) {S D : Datatype} → with_sheet x a f ≡ passed S D
    → (T : Datatype) × (x ≡ of_type T) × (f T ≡ passed S D)
sheet_read (of_type T) a f e = (T, refl, e)
sheet_read (faulty_at k) a f e = no_pass e

-- ---- a run that passes

-- what is known of a run that no check before STOP refuses
pub record Passed (r : Run) (S D : Datatype) : Type 0 where
  pub handling : leb r.handling 1 ≡ true
  pub table : leb 8192 (length r.table) ≡ true
  pub source : sheet_of r.source_sheet ≡ of_type S
  pub destination : sheet_of r.destination_sheet ≡ of_type D
  pub path : has_path S D ≡ true
  pub symbols : keeps_symbols S D ≡ true
  pub count : leb r.count 65536 ≡ true
  pub room : has_room r.form r.count (size S) (size D) (length r.source) (length r.background) ≡ true

module _ (r : Run) (S D : Datatype) where
  pub passed_tells : checks r ≡ passed S D → Passed r S D
  unfolding checks_of
  passed_tells e =
      let c₁ = required (leb r.handling 1) Handling _ e in
      let c₂ = required (leb 8192 (length r.table)) Table _ c₁.1 in
      let c₃ = sheet_read (sheet_of r.source_sheet) Source _ c₂.1 in
      let c₄ = sheet_read (sheet_of r.destination_sheet) Destination _ c₃.2 in
      let c₅ = required (has_path c₃.0 c₄.0) Path _ c₄.2 in
      let c₆ = required (keeps_symbols c₃.0 c₄.0) Symbols _ c₅.1 in
      let c₇ = required (leb r.count 65536) Count _ c₆.1 in
      let c₈ = required (has_room r.form r.count (size c₃.0) (size c₄.0) (length r.source) (length r.background)) Room _ c₇.1 in
      let p : passed c₃.0 c₄.0 ≡ passed S D = c₈.1 in
      let i : c₃.0 ≡ S = cc in
      let j : c₄.0 ≡ D = cc in
      subst₂ (Passed r) i j
      (record { handling = c₁.0; table = c₂.0; source = c₃.1; destination = c₄.1; path = c₅.0; symbols = c₆.0; count = c₇.0; room = c₈.0 })

  pub tells_passed : Passed r S D → checks r ≡ passed S D
  unfolding checks_of
  tells_passed w = rw (w.handling, w.table, w.source, w.destination, w.path, w.symbols, w.count, w.room)

  -- document 02, 2026-07: "Refuse it before any record", whatever the count and the buffers
  pub symbols_refused : leb r.handling 1 ≡ true → leb 8192 (length r.table) ≡ true → sheet_of r.source_sheet ≡ of_type S
      → sheet_of r.destination_sheet ≡ of_type D → has_path S D ≡ true → keeps_symbols S D ≡ false → checks r ≡ refused Symbols
  unfolding checks_of
  symbols_refused h t s d p k = rw (h, t, s, d, p, k)

-- ---- room

-- the background has room for the converted records
pub room_behind : (form : Form) (n s d x y : ℕ) → has_room form n s d x y ≡ true → n * d ≤ y
room_behind copying n s d x y e = leb-true (n * d) y (and_true (leb (n * s) x) (leb (n * d) y) e).1
room_behind in_place n s d x y e = leb-true (n * d) y (and_true (leb (n * max s d) x) (leb (n * d) y) e).1

-- and the one buffer has it for both
pub room_in_place : (n s d x y : ℕ) → has_room in_place n s d x y ≡ true → (n * s ≤ x) × (n * d ≤ x)
room_in_place n s d x y e =
    let l : n * max s d ≤ x = leb-true (n * max s d) x (and_true (leb (n * max s d) x) (leb (n * d) y) e).0 in
    (le_trans (mul-le-mul_left n (le-max_left s d)) l, le_trans (mul-le-mul_left n (le-max_right s d)) l)

-- ---- a run that is refused

-- P holds of every refusal
abbrev pub Refusals : (Answer → Type 0) → Checked → Type 0
Refusals P (refused a) = P a
Refusals P (passed S D) = Unit {0}

module _ (P : Answer → Type 0) where
  pub require_refuses : (t : Bool) (a : Answer) (c : Checked) → (t ≡ false → P a) → Refusals P c → Refusals P (require t a c)
  require_refuses true a c h g = g
  require_refuses false a c h g = h refl

  pub sheet_refuses : (x : Sheet) (a : ℕ → Answer) (f : Datatype → Checked) → ((k : ℕ) → P (a k)) → ((T : Datatype) → x ≡ of_type T → Refusals P (f T))
      → Refusals P (with_sheet x a f)
  sheet_refuses (of_type T) a f h g = g T refl
  sheet_refuses (faulty_at k) a f h g = h k

  -- what passes some checks goes to the next
  pub next_refuses : (next : Datatype → Datatype → Checked) (c : Checked) → Refusals P c → ((S D : Datatype) → Refusals P (next S D)) → Refusals P (on_checked next refused c)
  next_refuses next (refused a) h g = h
  next_refuses next (passed S D) h g = g S D

-- "Numbers of refusal, in the order of checks": those before STOP are 1 to 7; document 02, 2026-07: "12 SYMBOLS, between PATH and COUNT"
abbrev pub Early : ℕ → Type 0
Early k = ((1 ≤ k) × (k ≤ 7)) ⊎ (k ≡ 12)

abbrev RefusedEarly : Answer → Type 0
RefusedEarly a = Early (number_of a)

checks_early : (r : Run) → Refusals RefusedEarly (checks r)
unfolding checks_of
checks_early r =
    require_refuses RefusedEarly (leb r.handling 1) Handling _ (λ e. inl (omega arith))
    (require_refuses RefusedEarly (leb 8192 (length r.table)) Table _ (λ e. inl (omega arith))
    (sheet_refuses RefusedEarly (sheet_of r.source_sheet) Source _ (λ k. inl (omega arith))
    (λ S s. sheet_refuses RefusedEarly (sheet_of r.destination_sheet) Destination _ (λ k. inl (omega arith))
    (λ D d. require_refuses RefusedEarly (has_path S D) Path _ (λ e. inl (omega arith))
    (require_refuses RefusedEarly (keeps_symbols S D) Symbols _ (λ e. inr refl)
    (require_refuses RefusedEarly (leb r.count 65536) Count _ (λ e. inl (omega arith))
    (require_refuses RefusedEarly (has_room r.form r.count (size S) (size D) (length r.source) (length r.background)) Room (passed S D)
    (λ e. inl (omega arith)) tt)))))))

pub refused_early : (r : Run) (a : Answer) → checks r ≡ refused a → Early (number_of a)
refused_early r a e = subst (Refusals RefusedEarly) e (checks_early r)

-- ---- in place, and copying from a copy with the same background: only the room that is asked for differs

copy_room : (n s d x y : ℕ) → has_room in_place n s d x y ≡ true → has_room copying n s d x y ≡ true
copy_room n s d x y e =
    both (leb (n * s) x) (leb (n * d) y) (le-leb (n * s) x (room_in_place n s d x y e).0) (le-leb (n * d) y (room_behind in_place n s d x y e))

-- refused for room, or judged alike
abbrev RoomOr : Checked → Checked → Type 0
RoomOr c d = (c ≡ refused Room) ⊎ (c ≡ d)

require_alike : (t : Bool) (a : Answer) {c d : Checked} → RoomOr c d → RoomOr (require t a c) (require t a d)
require_alike true a h = h
require_alike false a h = inr refl

sheet_alike : (x : Sheet) (a : ℕ → Answer) {f g : Datatype → Checked} → ((T : Datatype) → RoomOr (f T) (g T)) → RoomOr (with_sheet x a f) (with_sheet x a g)
sheet_alike (of_type T) a h = h T
sheet_alike (faulty_at k) a h = inr refl

pub in_place_checks : (h : ℕ) (ss ds : List ℕ) (n x y t : ℕ) → RoomOr (checks_of in_place h ss ds n x y t) (checks_of copying h ss ds n x y t)
unfolding checks_of
in_place_checks h ss ds n x y t =
    require_alike (leb h 1) Handling
    (require_alike (leb 8192 t) Table
    (sheet_alike (sheet_of ss) Source
    (λ S. sheet_alike (sheet_of ds) Destination
    (λ D. require_alike (has_path S D) Path
    (require_alike (keeps_symbols S D) Symbols
    (require_alike (leb n 65536) Count (at (size S) (size D) (passed S D))))))))
  where
    at : (s d : ℕ) (c : Checked) → RoomOr (require (has_room in_place n s d x y) Room c) (require (has_room copying n s d x y) Room c)
    at s d c = go (has_room in_place n s d x y) refl
      where
        go : (b : Bool) → has_room in_place n s d x y ≡ b → RoomOr (require b Room c) (require (has_room copying n s d x y) Room c)
        go true e = inr (rw (copy_room n s d x y e))
        go false e = inl refl

-- ---- the two checks that come before the table is used

pub table_long : (r : Run) → ((checks r ≡ refused Handling) ⊎ (checks r ≡ refused Table)) ⊎ (8192 ≤ length r.table)
unfolding checks_of
table_long r = first (leb r.handling 1) refl (leb 8192 (length r.table)) refl
  where
    first : (s : Bool) → leb r.handling 1 ≡ s → (t : Bool) → leb 8192 (length r.table) ≡ t
        → ((checks r ≡ refused Handling) ⊎ (checks r ≡ refused Table)) ⊎ (8192 ≤ length r.table)
    first false p t q = inl (inl (rw p))
    first true p false q = inl (inr (rw (p, q)))
    first true p true q = inr (leb-true 8192 (length r.table) q)

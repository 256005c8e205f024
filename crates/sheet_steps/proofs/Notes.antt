-- The notes of a sheet's rows: kept by each type and each row more, and what they say of a new name and a new offset. Assumes nothing.
use mathlib.Core.Path.{◌≡◌, refl, sym, ap, ◌∙◌, subst}
use mathlib.Core.Logic.{⊎_elim}
use mathlib.Core.Bool.{Bool, true, false, cond, ◌&&◌, ◌||◌, false≢true}
use mathlib.Core.List.{List}
use Prim.Native.Nat.{ℕ, zero, suc, ◌+◌, ◌-◌, ◌*◌, ◌<◌, ◌≤◌}
use native.Mathlib.Nat.{not-suc-le-zero, eq-or-lt_of_le, le_of_suc-le-suc, suc_inj, suc-ne-zero}
use native.Mathlib.Numerals.{add-one}
use native.Mathlib.Omega.{arith}
use borrow.Author.Tests.{eqb-true, eqb-false, leb-true, leb-false, le-leb}
use lib.Dec.{eqb, leb, lit<}
use lib.ListN.{get_or, length, set, length-set}
use lib.Seq.{paste, length-paste, get_or-set_same, get_or-set_other}
use Rattle.datatype.specs.Datatype.{same}
use Rattle.datatype.proofs.Tests.{same→eq}
use Rattle.std.specs.Prelude.{None}
use Rattle.table.specs.Table.{type_word, row_word, class_word, size_word, first_word, rows_word, offset_word, member_type_word, bytes_at, name_at, Holds}
use Rattle.table.specs.Records.{row_added}
use Rattle.table.specs.Rows.{row_named}
use Rattle.table.proofs.Stores.{paste_behind, type_made, type_rows, row_length, row_made, row_before, row_types}
use Rattle.name_marks.specs.Marks.{mark_from, mark_of, mark_word, end_word, mark_put, end_raised}
use Rattle.name_marks.proofs.Marks.{mark_small}
use Rattle.name_marks.proofs.Free.{free_type, free_row}
use Rattle.sheet_steps.specs.Noted.{Marked, Ended, Noted}
use Rattle.sheet_steps.specs.Steps.{is_beside, apart_at}

pub noted_none : (w t : List ℕ) → Noted w t 0 0
noted_none w t = record { names = λ j x. absurd (not-suc-le-zero x); ends = λ i e. absurd (suc-ne-zero i (sym e)) }

-- ---- a type more

pub noted_type : {w : List ℕ} {n m : ℕ} (t r : List ℕ) → Holds w n m → Noted w t n m → length r ≡ 16 → n < 64 → get_or r 9 0 ≡ m → Noted (paste w (16 * n) r 16) t (n + 1) m
noted_type {w} {n} {m} t r h noted whole room first = record { names = names; ends = ends }
  where
    u : List ℕ
    u = paste w (16 * n) r 16

    row : (j q : ℕ) → row_word w j q ≡ row_word u j q
    row = type_rows w r n room h.words whole

    names : Marked u t m
    names j x =
        rw (← (row j 0), ← (row j 1), paste_behind w (16 * n) r 16 (omega (arith, h.words)) (omega arith) (3072 + mark_of (name_at w t j)) (omega arith))
        (noted.names j x)

    ends : (i : ℕ) → n + 1 ≡ suc i → class_word u i ≡ 3 → Ended u (first_word u i) m (end_word u i)
    ends i e c j a b =
        let new : i ≡ n = omega arith in
        let none : first_word u n ≤ j = subst (λ (k : ℕ). first_word u k ≤ j) new a in
        absurd (omega (arith, type_made w r n room h.words whole 9 (lit< tt)))

-- ---- a row more

-- v is w but for the notes of row m, whose name is x, of type i, where it ends at e
pub record RowNoted (w v x : List ℕ) (m i e : ℕ) : Type 0 where
  pub long : length w ≡ length v
  pub same : (k : ℕ) → k < 3072 → get_or w k 0 ≡ get_or v k 0
  pub mark : m < mark_word v x
  pub marks : (j : ℕ) (y : List ℕ) → j < m → j < mark_word w y → j < mark_word v y
  pub ends : end_word w i ≤ end_word v i
  pub end : e ≤ end_word v i

module _ (w x : List ℕ) (m i : ℕ) (words : length w ≡ 4096) where
  small : (y : List ℕ) → mark_of y < 512
  small y = mark_small 0 y (omega arith)

  put : mark_word (mark_put w (mark_of x) (m + 1)) x ≡ m + 1
  unfolding mark_put
  put = get_or-set_same w (3072 + mark_of x) (m + 1) 0 (omega (arith, small x))

  other : (k : ℕ) → (k ≡ 3072 + mark_of x → ⊥) → get_or (mark_put w (mark_of x) (m + 1)) k 0 ≡ get_or w k 0
  unfolding mark_put
  other k ne = get_or-set_other w (3072 + mark_of x) k (m + 1) 0 ne

  more : (j : ℕ) (y : List ℕ) → j < m → j < mark_word w y → j < mark_word (mark_put w (mark_of x) (m + 1)) y
  more j y a b = go (eqb (mark_of y) (mark_of x)) refl
    where
      go : (t : Bool) → eqb (mark_of y) (mark_of x) ≡ t → j < mark_word (mark_put w (mark_of x) (m + 1)) y
      go true e =
          let at : mark_word (mark_put w (mark_of x) (m + 1)) y ≡ m + 1 = ap (λ (k : ℕ). get_or (mark_put w (mark_of x) (m + 1)) (3072 + k) 0) (eqb-true (mark_of y) (mark_of x) e) ∙ put in
          omega arith
      go false e = rw (other (3072 + mark_of y) (λ z. eqb-false (mark_of y) (mark_of x) e (omega arith))) b

  pub mark_noted : RowNoted w (mark_put w (mark_of x) (m + 1)) x m i 0
  unfolding mark_put
  mark_noted =
      record {
        long = sym (length-set w (3072 + mark_of x) (m + 1));
        same = λ k h. sym (other k (λ z. omega arith));
        mark = rw put (omega arith);
        marks = more;
        ends = rw (other (3584 + i) (λ z. omega (arith, small x))) (omega arith);
        end = omega arith;
      }

-- u is v but for the end of type i, which is not before e
pub record EndNoted (v u : List ℕ) (i e : ℕ) : Type 0 where
  pub long : length v ≡ length u
  pub same : (k : ℕ) → (k ≡ 3584 + i → ⊥) → get_or u k 0 ≡ get_or v k 0
  pub ends : end_word v i ≤ end_word u i
  pub end : e ≤ end_word u i

pub end_kept : (v : List ℕ) (i : ℕ) → EndNoted v v i 0
end_kept v i = record { long = refl; same = λ k ne. refl; ends = omega arith; end = omega arith }

pub end_raised_lem : (v : List ℕ) (i e : ℕ) → i < 64 → length v ≡ 4096 → EndNoted v (end_raised v i e) i e
unfolding end_raised
end_raised_lem v i e few words = go (leb e (end_word v i)) refl
  where
    last : end_word (set v (3584 + i) e) i ≡ e
    last = get_or-set_same v (3584 + i) e 0 (omega arith)

    go : (b : Bool) → leb e (end_word v i) ≡ b → EndNoted v (cond b v (set v (3584 + i) e)) i e
    go true t = record { long = refl; same = λ k ne. refl; ends = omega arith; end = leb-true e (end_word v i) t }
    go false t =
        record {
          long = sym (length-set v (3584 + i) e);
          same = λ k ne. get_or-set_other v (3584 + i) k e 0 ne;
          ends = rw last (omega (arith, leb-false e (end_word v i) t));
          end = rw last (omega arith);
        }

pub row_ended : {w v u x : List ℕ} {m i e : ℕ} → RowNoted w v x m i 0 → EndNoted v u i e → RowNoted w u x m i e
row_ended {v = v} {u = u} {x = x} {i = i} row ending =
    record {
      long = row.long ∙ ending.long;
      same = λ k h. row.same k h ∙ sym (ending.same k (λ z. omega arith));
      mark = rw (mark x) row.mark;
      marks = λ j y a b. rw (mark y) (row.marks j y a b);
      ends = omega (arith, row.ends, ending.ends);
      end = ending.end;
    }
  where
    mark : (y : List ℕ) → mark_word u y ≡ mark_word v y
    mark y = ending.same (3072 + mark_of y) (λ z. omega (arith, mark_small 0 y (omega arith)))

module _ {w v : List ℕ} {i m e : ℕ} (t r x : List ℕ) (h : Holds w (suc i) m) (noted : Noted w t (suc i) m) (whole : length r ≡ 8) (room : m < 256)
    (inner : class_word w i ≡ 3 → get_or r 3 0 < i) (name : bytes_at t (get_or r 0 0) (get_or r 1 0) ≡ x) (end : class_word w i ≡ 3 → get_or r 2 0 + size_word w (get_or r 3 0) ≤ e)
    (row : RowNoted (row_added w i m r) v x m i e) where
  abbrev u : List ℕ
  u = row_added w i m r

  n64 : i < 64
  n64 = h.types

  behind : (k : ℕ) → 3072 ≤ k → get_or u k 0 ≡ get_or w k 0
  unfolding row_added
  behind k g =
      get_or-set_other (paste w (1024 + 8 * m) r 8) (16 * i + 10) k (rows_word w i + 1) 0 (λ z. omega arith)
      ∙ paste_behind w (1024 + 8 * m) r 8 (omega (arith, h.words)) (omega arith) k (omega arith)

  old : (j q : ℕ) → j < m → q < 8 → row_word v j q ≡ row_word w j q
  old j q a b = sym (row_before w r i m n64 room h.words whole j q a b ∙ free_row u v row.long row.same j q b)

  new : (q : ℕ) → q < 8 → row_word v m q ≡ get_or r q 0
  new q b = sym (free_row u v row.long row.same m q b) ∙ row_made w r i m n64 room h.words whole q b

  type : (k q : ℕ) → k < 64 → q < 10 → type_word v k q ≡ type_word w k q
  type k q a b =
      sym (row_types w r i m n64 room h.words whole k q a (omega arith) (λ z. omega arith) ∙ free_type u v row.long row.same k q (omega arith))

  newest_name : m < mark_word v (name_at v t m)
  newest_name = rw (new 0 (lit< tt), new 1 (lit< tt), name) row.mark

  names : Marked v t (m + 1)
  names j g =
      let last : j ≤ m = omega arith in
      ⊎_elim
      (λ y. subst (λ (k : ℕ). k < mark_word v (name_at v t k)) (sym y) newest_name)
      (λ y. rw (old j 0 y (lit< tt), old j 1 y (lit< tt))
      (row.marks j (name_at w t j) y (rw (behind (3072 + mark_of (name_at w t j)) (omega arith)) (noted.names j y))))
      (eq-or-lt_of_le last)

  ended : class_word v i ≡ 3 → Ended v (first_word v i) (m + 1) (end_word v i)
  ended c j a b =
      let class : class_word w i ≡ 3 = sym (type i 0 n64 (lit< tt)) ∙ c in
      let low : first_word w i ≤ j = rw (type i 9 n64 (lit< tt)) at a in
      let last : j ≤ m = omega arith in
      ⊎_elim
      (λ y. subst (λ (k : ℕ). offset_word v k + size_word v (member_type_word v k) ≤ end_word v i) (sym y) (newest_end class))
      (λ y. earlier class j low y)
      (eq-or-lt_of_le last)
    where
      newest_end : class_word w i ≡ 3 → offset_word v m + size_word v (member_type_word v m) ≤ end_word v i
      newest_end c =
          rw (new 2 (lit< tt), new 3 (lit< tt), type (get_or r 3 0) 1 (omega (arith, inner c, n64)) (lit< tt)) (omega (arith, end c, row.end))

      earlier : class_word w i ≡ 3 → (j : ℕ) → first_word w i ≤ j → j < m → offset_word v j + size_word v (member_type_word v j) ≤ end_word v i
      earlier c j low y =
          let inside : member_type_word w j < i = (h.low i (omega arith)).inner c j low (omega (arith, h.newest i refl)) in
          rw (old j 2 y (lit< tt), old j 3 y (lit< tt), type (member_type_word w j) 1 (omega (arith, n64)) (lit< tt))
          (omega (arith, noted.ends i refl c j low y, behind (3584 + i) (omega arith), row.ends))

  pub noted_row : Noted v t (suc i) (m + 1)
  noted_row = record { names = names; ends = λ k e c. subst (λ (k : ℕ). class_word v k ≡ 3 → Ended v (first_word v k) (m + 1) (end_word v k)) (suc_inj e) ended c }

-- ---- what the notes say

-- of the newest type
module _ {w : List ℕ} {n m : ℕ} (t : List ℕ) (h : Holds w n m) (noted : Noted w t n m) (ne : n ≡ 0 → ⊥) where
  pub newest_marked : Marked w t (first_word w (n - 1) + rows_word w (n - 1))
  newest_marked j x = noted.names j (omega (arith, x, h.newest (n - 1) (omega (arith, ne))))

  pub newest_ended : class_word w (n - 1) ≡ 3 → Ended w (first_word w (n - 1)) (first_word w (n - 1) + rows_word w (n - 1)) (end_word w (n - 1))
  newest_ended c j a b = noted.ends (n - 1) (omega (arith, ne)) c j a (omega (arith, b, h.newest (n - 1) (omega (arith, ne))))

-- a name whose mark is not above the first row is in no row from there on
module _ (w t x : List ℕ) (first : ℕ) where
  pub name_new : (n : ℕ) → Marked w t (first + n) → mark_word w x ≤ first → row_named w t x first n ≡ None
  unfolding row_named
  name_new zero marks h = refl
  name_new (suc n) marks h = rw (differs (same x (name_at w t (first + n))) refl, name_new n (λ j a. marks j (omega arith)) h) refl
    where
      differs : (b : Bool) → same x (name_at w t (first + n)) ≡ b → same x (name_at w t (first + n)) ≡ false
      differs true e =
          let above : first + n < mark_word w x = subst (λ (y : List ℕ). first + n < mark_word w y) (sym (same→eq x (name_at w t (first + n)) e)) (marks (first + n) (omega arith)) in
          absurd (omega arith)
      differs false e = e

or_true : (b : Bool) → b || true ≡ true
or_true true = refl
or_true false = refl

-- what starts at the end of the members or behind it lies apart from them
module _ (w : List ℕ) (first offset width : ℕ) where
  pub apart_behind : (n e : ℕ) → Ended w first (first + n) e → e ≤ offset → apart_at w first n offset width ≡ true
  unfolding apart_at is_beside
  apart_behind zero e ends h = refl
  apart_behind (suc n) e ends h =
      let last = ends (first + n) (omega arith) (omega arith) in
      rw (
        le-leb (offset_word w (first + n) + size_word w (member_type_word w (first + n))) offset (omega arith),
        or_true (leb (offset + width) (offset_word w (first + n))),
        apart_behind n e (λ j a b. ends j a (omega arith)) h,
      ) refl

-- What the parts of a call hand on to each other: the halves of the table, the form, and what the checks say. Assumes nothing.
use Rattle.std.specs.Prelude.{Result, Ok, Err}
use mathlib.Core.Path.{◌≡◌, sym, subst}
use mathlib.Core.Bool.{Bool}
use mathlib.Core.List.{List}
use Prim.Native.Nat.{ℕ, ◌-◌}
use lib.ListN.{length, take, drop}
use Rattle.answer.specs.declared.Answer.{Answer}
use Rattle.table.specs.Table.{type_at}
use Rattle.runs.specs.Run.{Checked}
use Rattle.runs.specs.Run.Checked.{passed}
use Rattle.two_sheets.specs.declared.TypeNumbers.{TypeNumbers}
use Rattle.two_sheets.specs.TwoSheets.{first, second}
use Rattle.two_sheets.proofs.Halves.{rest_is}
use Rattle.conversion.specs.Call.{form_of, source_of, background_of, LeavesIn, Passes, SheetsSay, sheets_checked}
use Rattle.conversion.proofs.Parts.{refuses}
use Rattle.conversion.proofs.Checking.{target_is}

-- ---- the halves and the form

module _ {b t : Bool} (ss ds : List ℕ) (n : ℕ) (w : List ℕ) (i k : ℕ) (form : b ≡ t) where
  -- the second half as a part of the table
  abbrev rest : List ℕ
  rest = take (length w - 4096) (drop 4096 w)

  pub framed_asked : (out other : ℕ) → Passes b ss ds n out other (first w) i (second w) k → Passes t ss ds n out other (first w) i rest k
  framed_asked out other h = subst (λ (x : Bool). Passes x ss ds n out other (first w) i rest k) form (rw (rest_is w) h)

  pub framed_left : (h : ℕ) (out other : List ℕ) (r : Answer) (after : List ℕ) → LeavesIn t h n out other (passed (type_at (first w) ss i) (type_at rest ds k)) r after
      → LeavesIn b h n out other (passed (type_at (first w) ss i) (type_at (second w) ds k)) r after
  framed_left h out other r after g =
      subst (λ (x : Bool). LeavesIn x h n out other (passed (type_at (first w) ss i) (type_at (second w) ds k)) r after) (sym form) (rw (rest_is w) at g)

-- ---- behind the checks

module _ (b : Bool) (ss ds : List ℕ) (h n : ℕ) (out other w : List ℕ) (r : Result TypeNumbers Answer) (says : SheetsSay b ss ds n (length out) (length other) w r) where
  pub refuse_left : (a : Answer) → r ≡ Err a → LeavesIn b h n out other (sheets_checked b ss ds n (length out) (length other)) a out
  refuse_left a e =
      rw (target_is b out other) at
      (refuses (form_of b) h n (source_of b out other) (background_of b out other) (subst (SheetsSay b ss ds n (length out) (length other) w) e says))

  pub passes_are : {t : TypeNumbers} → r ≡ Ok t → Passes b ss ds n (length out) (length other) (first w) t.source (second w) t.destination
  passes_are e = (subst (SheetsSay b ss ds n (length out) (length other) w) e says).1

  pub pass_left : {t : TypeNumbers} → r ≡ Ok t → (a : Answer) (after : List ℕ) → LeavesIn b h n out other (passed (type_at (first w) ss t.source) (type_at (second w) ds t.destination)) a after
      → LeavesIn b h n out other (sheets_checked b ss ds n (length out) (length other)) a after
  pass_left e a after g =
      subst (λ (c : Checked). LeavesIn b h n out other c a after) (sym (subst (SheetsSay b ss ds n (length out) (length other) w) e says).0) g

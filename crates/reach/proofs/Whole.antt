-- What follows where a call for the mask answers: its checks, the halves of the table, and the table afterwards. Assumes nothing.
use Rattle.std.specs.Prelude.{Result, Ok, Err}
use mathlib.Core.Path.{◌≡◌, refl, sym, ap, subst, ◌∙◌}
use mathlib.Core.Bool.{Bool, true, false}
use mathlib.Core.List.{List, ◌++◌}
use Prim.Native.Nat.{ℕ, ◌-◌, ◌≤◌, ◌<◌}
use borrow.Author.Tests.{le-leb, lt-leb}
use lib.Dec.{leb}
use lib.ListN.{length, take, drop, replicate}
use Rattle.answer.specs.declared.Answer.{Answer}
use Rattle.answer.specs.declared.Answer.TheVariants as answer
use Rattle.datatype.specs.Datatype.{Datatype, size}
use Rattle.datatype.specs.Paths.{has_path}
use Rattle.datatype.specs.SymbolSets.{keeps_symbols}
use Rattle.table.specs.Table.{type_at}
use Rattle.sheet.specs.Sheet.{sheet_of}
use Rattle.runs.specs.Run.Checked.{passed}
use Rattle.runs.proofs.Checks.{Refusals, require_refuses}
use Rattle.runs.proofs.Table.{Clears, sheets_clear, call_clears}
use Rattle.two_sheets.specs.declared.TypeNumbers.{TypeNumbers}
use Rattle.two_sheets.specs.declared.SheetFault.{SheetFault}
use Rattle.two_sheets.specs.declared.SheetFault.TheVariants.{Source, Destination}
use Rattle.two_sheets.specs.TwoSheets.{first, second, IsSheet, refusal, ReadAs, SheetsRead, Both}
use Rattle.two_sheets.proofs.Halves.{rest_is, types_both}
use Rattle.masks.specs.Mask.{mask}
use Rattle.reaches.specs.Call as meant
use Rattle.reaches.specs.Call.{Call, Reaches}
use Rattle.reach.specs.Reaching.{types_checked, sheets_checked, Leaves}

-- ---- checks 5, 12 and 7

module _ (S D : Datatype) (m : List ℕ) where
  pub no_path : has_path S D ≡ false → Leaves m (types_checked (length m) S D) answer.Path m
  no_path e = rw e (record { answers = refl; marks = refl })

  pub lost_symbols : has_path S D ≡ true → keeps_symbols S D ≡ false → Leaves m (types_checked (length m) S D) answer.Symbols m
  lost_symbols e h = rw (e, h) (record { answers = refl; marks = refl })

  module _ (e : has_path S D ≡ true) (h : keeps_symbols S D ≡ true) (bytes : ℕ) (q : bytes ≡ size S) where
    pub no_room : length m < bytes → Leaves m (types_checked (length m) S D) answer.Room m
    no_room l = rw (e, h, lt-leb (size S) (length m) (rw q at l)) (record { answers = refl; marks = refl })

    -- the mask stands in the first bytes
    pub marked : (front : List ℕ) → bytes ≤ length m → front ≡ mask S D → Leaves m (types_checked (length m) S D) (answer.Done bytes) (front ++ drop bytes m)
    marked front l is =
        rw (e, h, le-leb (size S) (length m) (rw q at l)) (record { answers = ap answer.Done q; marks = rw (is, q) refl })

-- ---- sheets

module _ (ss ds : List ℕ) (w : List ℕ) (i k : ℕ) (read : IsSheet ss (first w) i × IsSheet ds (second w) k) where
  -- the second half as a part of the table
  abbrev rest : List ℕ
  rest = take (length w - 4096) (drop 4096 w)

  pub halves_both : Both ss (first w) i ds rest k
  halves_both = rw (rest_is w) (types_both ss ds w i k read)

  pub halves_leave : (m : List ℕ) (r : Answer) (out : List ℕ) → Leaves m (types_checked (length m) (type_at (first w) ss i) (type_at rest ds k)) r out
      → Leaves m (sheets_checked ss ds (length m)) r out
  halves_leave m r out h = rw (read.0.type, read.1.type) (rw (rest_is w) at h)

-- a faulty sheet
fault_refuses : (ss ds w m : List ℕ) (f : SheetFault) → ReadAs ss ds w (Err f) → Leaves m (sheets_checked ss ds (length m)) (refusal f) m
fault_refuses ss ds w m (Source k) is = rw is (record { answers = refl; marks = refl })
fault_refuses ss ds w m (Destination k) is = rw (is.0.1.type, is.1) (record { answers = refl; marks = refl })

pub fault_leaves : (ss ds w m : List ℕ) {r : Result TypeNumbers SheetFault} {f : SheetFault} → SheetsRead ss ds w r → r ≡ Err f → Leaves m (sheets_checked ss ds (length m)) (refusal f) m
fault_leaves ss ds w m {f = f} reads e = fault_refuses ss ds w m f (subst (ReadAs ss ds w) e reads.is)

pub types_of : (ss ds w : List ℕ) {r : Result TypeNumbers SheetFault} {t : TypeNumbers} → SheetsRead ss ds w r → r ≡ Ok t → ReadAs ss ds w (Ok t) × (length w ≡ 8192)
types_of ss ds w reads e = (subst (ReadAs ss ds w) e reads.is, reads.words)

-- ---- the whole call

pub short_table : (c : Call) → length c.table < 8192 → Reaches c answer.Table c.mask c.table
unfolding meant.checks meant.answer meant.mask_after
short_table c h =
    record {
      answers = rw (lt-leb 8192 (length c.table) h) refl;
      marks = rw (lt-leb 8192 (length c.table) h) refl;
      clears = refl;
    }

-- behind check 2 the checks are those that were made
checks_are : (c : Call) → 8192 ≤ length c.table → meant.checks c ≡ sheets_checked c.source_sheet c.destination_sheet (length c.mask)
unfolding meant.checks
checks_are c h = rw (le-leb 8192 (length c.table) h) refl

refusals_clear : (ss ds : List ℕ) (n : ℕ) (t : List ℕ) → Refusals (Clears t) (sheets_checked ss ds n)
refusals_clear ss ds n t =
    sheets_clear t (sheet_of ss) (sheet_of ds) (types_checked n)
    (λ S D. require_refuses (Clears t) (has_path S D) answer.Path _ (λ e. refl)
    (require_refuses (Clears t) (keeps_symbols S D) answer.Symbols _ (λ e. refl)
    (require_refuses (Clears t) (leb (size S) n) answer.Room (passed S D) (λ e. refl) tt)))

pub reaches_all : (c : Call) (r : Answer) (out lent : List ℕ) → 8192 ≤ length c.table → length lent ≡ 8192
    → Leaves c.mask (sheets_checked c.source_sheet c.destination_sheet (length c.mask)) r out
    → Reaches c r out (replicate 8192 0 ++ drop 8192 (lent ++ drop 8192 c.table))
unfolding meant.answer meant.mask_after
reaches_all c r out lent h l leaves =
    record {
      answers = leaves.answers ∙ sym (rw (checks_are c h) refl);
      marks = leaves.marks ∙ sym (rw (checks_are c h) refl);
      clears =
          call_clears c.table (λ S D. answer.Done (size S)) (λ S D. refl) (sheets_checked c.source_sheet c.destination_sheet (length c.mask)) lent
          (refusals_clear c.source_sheet c.destination_sheet (length c.mask) c.table) leaves.answers l;
    }

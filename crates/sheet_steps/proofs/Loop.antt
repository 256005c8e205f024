-- The loop that reads a sheet's lines: what it keeps true, and what follows at its ends. Assumes nothing.
use Rattle.std.specs.Prelude as code
use Rattle.std.specs.Prelude.{Result, Some, None, Ok, Err}
use mathlib.Core.Path.{◌≡◌, refl, sym, ap, subst, ◌∙◌}
use mathlib.Core.Bool.{cond, not}
use mathlib.Core.List.{List}
use mathlib.Core.Option.{some}
use Prim.Native.Nat.{ℕ, ◌+◌, ◌≤◌, ◌<◌}
use native.Mathlib.Numerals.{add-one}
use native.Mathlib.Omega.{arith}
use borrow.Author.Tests.{eq-eqb, ne_eqb, le-leb, lt-leb}
use lib.Dec.{eqb}
use lib.ListN.{length, drop, drop_of_length-le}
use Rattle.datatype.specs.Datatype.{Datatype}
use Rattle.text.specs.Text.{newline, split}
use Rattle.line.specs.declared.ReadLine.{ReadLine}
use Rattle.line.specs.Read.{says, next_of, Reads, line_reading}
use Rattle.table.specs.Table.{Holds, types_at}
use Rattle.table.specs.Records.{types_cleared}
use Rattle.table.proofs.Keeps.{holds_none}
use Rattle.table.proofs.Cleared.{cleared_length, cleared_holds, cleared_types, rows_inside}
use Rattle.sheet_steps.specs.declared.Counts.{Counts}
use Rattle.sheet_steps.specs.declared.FaultyLine.{FaultyLine}
use Rattle.sheet.specs.Sheet.{judged_after, lines_from, outcome_of}
use Rattle.sheet.specs.Sheet.Outcome.{accepted, faulty}
use Rattle.sheet.specs.FirstFault.{no_lines}
use Rattle.sheet_steps.specs.Judged.{so_far_at, judged_as, HoldsAfter, NotedAfter, Judges}
use Rattle.sheet_steps.specs.Noted.{Noted}
use Rattle.sheet_steps.specs.Read.{read_judged, read_as, Stands, StandsAfter, ReadsLines, ReadsSheet}
use Rattle.sheet.proofs.ReadWellFormed.{EachWellFormed, then_gave, line_keeps}
use Rattle.sheet_steps.proofs.Numbered.{no_types}
use Rattle.sheet_steps.proofs.Notes.{noted_none}
use Rattle.sheet_steps.proofs.Turns.{Turn, turn}

-- the lines before place at gave c's types and rows, and line k is next
pub record Before (t w : List ℕ) (at : ℕ) (c : Counts) (k : ℕ) : Type 0 where
  pub inside : at ≤ length t
  pub counted : k ≤ at + 1
  pub holds : Holds w c.types c.rows
  pub noted : Noted w t c.types c.rows
  pub formed : EachWellFormed (types_at w t c.types)
  pub rest : lines_from k (so_far_at w t c.types c.rows) (split newline (drop at t)) ≡ lines_from 1 no_lines (split newline t)

pub first : (t w : List ℕ) → length w ≡ 4096 → Before t w 0 (record { types = 0; rows = 0 }) 1
unfolding types_at
first t w h = record { inside = omega arith; counted = omega arith; holds = holds_none w h; noted = noted_none w t; formed = tt; rest = refl }

-- where the line at a place was not read
pub unread : (t w : List ℕ) (at : ℕ) (c : Counts) (k : ℕ) → Before t w at c k → at < length t → Reads t None (line_reading t at) → ReadsLines t w (Err (record { 0 = k }))
unread t w at c k before below reads =
    record {
      is = sym ((turn t at k (so_far_at w t c.types c.rows) before.formed below None reads.tells).refused refl) ∙ before.rest;
      stands = tt;
      words = before.holds.words;
    }

module _ (t w v : List ℕ) (at : ℕ) (c : Counts) (k : ℕ) (before : Before t w at c k) (below : at < length t) (r : code.Option ReadLine) (reads : Reads t r (line_reading t at))
    (j : code.Option Counts) (judged : Judges v t (read_judged t r (so_far_at w t c.types c.rows)) j) where
  here : Turn t at k (so_far_at w t c.types c.rows) r
  here = turn t at k (so_far_at w t c.types c.rows) before.formed below r reads.tells

  pub faulty_here : j ≡ None → ReadsLines t v (Err (record { 0 = k }))
  faulty_here e =
      record {
        is = sym (here.refused (sym judged.is ∙ ap (λ (x : code.Option Counts). judged_as x v t) e)) ∙ before.rest;
        stands = tt;
        words = judged.words;
      }

  module _ (d : Counts) (e : j ≡ Some d) where
    some_now : read_judged t r (so_far_at w t c.types c.rows) ≡ some (so_far_at v t d.types d.rows)
    some_now = sym judged.is ∙ ap (λ (x : code.Option Counts). judged_as x v t) e

    pub further : at < next_of r
    further = here.further (so_far_at v t d.types d.rows) some_now

    pub next_line : (next : ℕ) → next ≡ next_of r → Before t v next d (k + 1)
    next_line next q =
        record {
          inside = rw q (here.inside (so_far_at v t d.types d.rows) some_now);
          counted = let f = further in let b = before.counted in omega arith;
          holds = subst (λ (x : code.Option Counts). HoldsAfter x v) e judged.holds;
          noted = subst (λ (x : code.Option Counts). NotedAfter x v t) e judged.noted;
          formed =
              let g = then_gave (says t r) (judged_after (so_far_at w t c.types c.rows)) some_now in
              line_keeps (so_far_at w t c.types c.rows) g.0 before.formed g.2;
          rest = rw (q, add-one) (sym (here.goes_on (so_far_at v t d.types d.rows) some_now) ∙ before.rest);
        }

-- behind the last line
module _ (t w : List ℕ) (at : ℕ) (c : Counts) (k : ℕ) (before : Before t w at c k) (past : length t ≤ at) where
  last : lines_from k (so_far_at w t c.types c.rows) (split newline (drop at t)) ≡ cond (not (eqb c.types 0)) (accepted (so_far_at w t c.types c.rows)) (faulty k)
  unfolding lines_from split
  last = rw (drop_of_length-le t past, no_types w t c.types) refl

  pub no_line : c.types ≡ 0 → ReadsLines t w (Err (record { 0 = k }))
  no_line e = record { is = sym (rw (eq-eqb c.types 0 e) at last) ∙ before.rest; stands = tt; words = before.holds.words }

  pub all_lines : (c.types ≡ 0 → ⊥) → ReadsLines t w (Ok c)
  all_lines f =
      record {
        is = sym (rw (ne_eqb c.types 0 f) at last) ∙ before.rest;
        stands = record { some = omega (arith, f); holds = before.holds };
        words = before.holds.words;
      }

-- ---- the whole sheet

pub too_long : (t w : List ℕ) → length w ≡ 4096 → 16384 < length t → ReadsSheet t w (Err (record { 0 = 0 }))
unfolding outcome_of
too_long t w h g = record { is = rw (lt-leb (length t) 16384 g) refl; stands = tt; inside = tt; words = h }

module _ (t w : List ℕ) (r : Result Counts FaultyLine) (fits : length t ≤ 16384) (reads : ReadsLines t w r) where
  as_lines : outcome_of t ≡ lines_from 1 no_lines (split newline t)
  unfolding outcome_of
  as_lines = rw (le-leb (length t) 16384 fits) refl

  pub faulty_line : (f : FaultyLine) → r ≡ Err f → ReadsSheet t w (Err f)
  faulty_line f e =
      record { is = sym (ap (λ (x : Result Counts FaultyLine). read_as x w t) e) ∙ reads.is ∙ sym as_lines; stands = tt; inside = tt; words = reads.words }

  module _ (c : Counts) (e : r ≡ Ok c) where
    pub stood : Stands w c.types c.rows
    stood = subst (λ (x : Result Counts FaultyLine). StandsAfter x w) e reads.stands

    pub read_types : ReadsSheet t (types_cleared w c.types) (Ok c)
    read_types =
        let h = stood.holds in
        record {
          is = ap (λ (ts : List Datatype). accepted (record { types = ts; rows = c.rows })) (cleared_types w c.types h.types h.words c.rows h t)
              ∙ sym (ap (λ (x : Result Counts FaultyLine). read_as x w t) e) ∙ reads.is ∙ sym as_lines;
          stands = record { some = stood.some; holds = cleared_holds w c.types h.types h.words c.rows h };
          inside = rows_inside w c.types h.types h.words c.rows h;
          words = cleared_length w c.types h.types h.words;
        }

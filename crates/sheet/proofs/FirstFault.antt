-- A sheet is faulty at line k exactly where line k is its first faulty one, and has a type exactly where no line is faulty. Assumes nothing.
use mathlib.Core.Path.{◌≡◌, refl, sym, ap, ◌∙◌, subst}
use mathlib.Core.Logic.{◌↔◌}
use mathlib.Core.Bool.{Bool, true, false, cond, not, ◌&&◌}
use mathlib.Core.List.{List, [], ◌∷◌, ◌++◌}
use mathlib.Core.Option.{Option, none, some}
use Prim.Native.Nat.{ℕ, suc, ◌+◌, ◌≤◌}
use native.Mathlib.Omega.{arith}
use lib.ListN.{length}
use lib.Dec.{leb, ltb, eqb}
use borrow.Author.Tests.{leb-true, leb-false, le-leb, lt-leb, eqb-true, eqb-false, ne_eqb}
use Rattle.layout.specs.Layout.{valid}
use Rattle.datatype.specs.Datatype.{Datatype, binary64}
use Rattle.datatype.specs.Datatype.Leaf.{atomic, real}
use Rattle.datatype.specs.Datatype.Datatype.{leaf, compound}
use Rattle.datatype.specs.Datatype.Members.{empty}
use Rattle.datatype.specs.Symbols.{on_some}
use Rattle.datatype.proofs.Tests.{nothing}
use Rattle.text.specs.Text.{newline, before, split}
use Rattle.text.specs.Field.{when, ◌>>=◌}
use Rattle.line.specs.Line.{Line, line_of}
use Rattle.line.specs.Line.Line.{atomic_line, enum_line, value_line, compound_line, member_line, array_line, real_line}
use Rattle.sheet.specs.Sheet.{SoFar, type_numbered, add_type, add_row, enum_of, with_value, with_member, array_of, on_newest, older, judged_after, judge, is_nil, ended, lines_from, outcome_of, Sheet, newest, typed, sheet_of}
use Rattle.sheet.specs.Sheet.Outcome.{accepted, faulty}
use Rattle.sheet.specs.Sheet.Sheet.{of_type, faulty_at}
use Rattle.sheet.specs.FirstFault.{Unbroken, no_lines, Accepted, FirstFault, Whole}
use Rattle.sheet.specs.FirstFault.Accepted.{start, next}
use Rattle.sheet.proofs.ReadWellFormed.{then_gave, when_gave}

-- ---- an accepted line leaves a type

-- some type there is
abbrev SomeType : SoFar → Type 0
SomeType s = (T : Datatype) × (ts : List Datatype) × (s.types ≡ T ∷ ts)

added : (s : SoFar) (o : Option Datatype) {t : SoFar} → (o >>= add_type s) ≡ some t → SomeType t
added s o e =
    let c = then_gave o (add_type s) e in
    let g = when_gave (ltb (length s.types) 64) (record { types = c.0 ∷ s.types; rows = s.rows }) c.2 in
    (c.0, s.types, ap (λ (t : SoFar). t.types) (sym g.1))

changed : (s : SoFar) (change : Datatype → Option Datatype) (ts : List Datatype) {t : SoFar} → on_newest change s ts ≡ some t → SomeType t
changed s change [] e = nothing e
changed s change (T ∷ ts) e =
    let c = then_gave (change T) (add_row s ts) e in
    let g = when_gave (ltb s.rows 256) (record { types = c.0 ∷ ts; rows = s.rows + 1 }) c.2 in
    (c.0, ts, ap (λ (t : SoFar). t.types) (sym g.1))

line_some : (s : SoFar) (line : Line) {t : SoFar} → judged_after s line ≡ some t → SomeType t
line_some s (atomic_line l) e = added s (when (valid l) (leaf (atomic l))) e
line_some s (enum_line k) e = added s (type_numbered k s.types >>= enum_of) e
line_some s (value_line x z) e = changed s (with_value x z) s.types e
line_some s (compound_line z) e = added s (when (leb 1 z && leb z 4096) (compound z empty)) e
line_some s (member_line x offset k word) e =
    let c = then_gave (type_numbered k (older s.types)) (λ T. on_newest (with_member x offset T word) s s.types) e in
    changed s (with_member x offset c.0 word) s.types c.2
line_some s (array_line k ds) e = added s (type_numbered k s.types >>= array_of ds) e
line_some s (real_line z o) e = added s (when (eqb z 8) (leaf (real (binary64 o)))) e

judge_some : (s : SoFar) (line : List ℕ) {t : SoFar} → judge s line ≡ some t → SomeType t
unfolding judge
judge_some s line e =
    let c = then_gave (line_of line) (judged_after s) e in
    line_some s c.0 c.2

-- ---- a text and its pieces

data Parted : List ℕ → List (List ℕ) → Type 0 where
  last : (piece : List ℕ) → Unbroken piece → Parted piece (piece ∷ [])
  more : {rest : List ℕ} {pieces : List (List ℕ)} (piece : List ℕ) → Unbroken piece → Parted rest pieces → Parted (piece ++ newline ∷ rest) (piece ∷ pieces)

longer : (b : ℕ) {bs : List ℕ} {pieces : List (List ℕ)} → ¬ (b ≡ newline) → Parted bs pieces → Parted (b ∷ bs) (before b pieces)
longer b n (last piece u) = last (b ∷ piece) (n, u)
longer b n (more piece u p) = more (b ∷ piece) (n, u) p

parted : (text : List ℕ) → Parted text (split newline text)
unfolding split
parted [] = last [] tt
parted (b ∷ bs) = go (eqb b newline) refl (split newline bs) (parted bs)
  where
    go : (t : Bool) → eqb b newline ≡ t → (pieces : List (List ℕ)) → Parted bs pieces → Parted (b ∷ bs) (cond t ([] ∷ pieces) (before b pieces))
    go true e pieces p = subst (λ (c : ℕ). Parted (c ∷ bs) ([] ∷ pieces)) (sym (eqb-true b newline e)) (more [] tt p)
    go false e pieces p = longer b (eqb-false b newline e) p

split_line : (line rest : List ℕ) → Unbroken line → split newline (line ++ newline ∷ rest) ≡ line ∷ split newline rest
unfolding split
split_line [] rest u = refl
split_line (b ∷ bs) rest u = rw (ne_eqb b newline u.0, split_line bs rest u.1)

split_last : (line : List ℕ) → Unbroken line → split newline line ≡ line ∷ []
unfolding split
split_last [] u = refl
split_last (b ∷ bs) u = rw (ne_eqb b newline u.0, split_last bs u.1)

some_piece : {text : List ℕ} {pieces : List (List ℕ)} → Parted text pieces → is_nil pieces ≡ false
some_piece (last piece u) = refl
some_piece (more piece u p) = refl

-- ---- a sheet is what its lines say

-- what stands behind a sheet's type or its faulty line
abbrev Says : List ℕ → Sheet → Type 0
Says text (of_type T) = Whole text T
Says text (faulty_at k) = FirstFault text k

no_line : {text rest : List ℕ} {n : ℕ} {s : SoFar} → Accepted text n s rest → s.types ≡ [] → rest ≡ [] → FirstFault text (suc n)
no_line start q e = FirstFault.empty e
no_line (next {s = s} line a u j) q e =
    let left = judge_some s line j in
    let z : ◌≡◌ {A = ℕ} 0 1 = cc (q, left.2) in
    absurd (omega arith)

last_says : (text piece : List ℕ) (n : ℕ) (s : SoFar) → length text ≤ 16384 → Accepted text n s piece → Unbroken piece
    → Says text (typed (ended (suc n) s piece))
last_says text (b ∷ bs) n s short a u = FirstFault.unended short a u (λ e. let z : ◌≡◌ {A = ℕ} 0 1 = cc in absurd (omega arith))
last_says text [] n s short a u = go s.types refl
  where
    go : (ts : List Datatype) → s.types ≡ ts → Says text (typed (cond (not (is_nil ts)) (accepted s) (faulty (suc n))))
    go [] q = no_line a q refl
    go (T ∷ ts) q =
        let t : SoFar = record { types = T ∷ ts; rows = s.rows } in
        let same : s ≡ t = ap (λ (l : List Datatype). record { types = l; rows = s.rows }) q in
        subst (λ (l : List Datatype). Says text (newest l)) (sym q)
        (record { short = short; lines = n; types = ts; rows = s.rows; each = subst (λ (r : SoFar). Accepted text n r []) same a })

lines_say : {text rest : List ℕ} {pieces : List (List ℕ)} {n : ℕ} {s : SoFar} → length text ≤ 16384 → Accepted text n s rest → Parted rest pieces
    → Says text (typed (lines_from (suc n) s pieces))
unfolding lines_from
lines_say {text} {n = n} {s = s} short a (last piece u) = last_says text piece n s short a u
lines_say {text} {n = n} {s = s} short a (more {rest = rest} {pieces = pieces} piece u p) =
    rw (some_piece p) (go (judge s piece) refl (λ t j. lines_say short (next piece a u j) p))
  where
    go : (o : Option SoFar) → judge s piece ≡ o → ((t : SoFar) → judge s piece ≡ some t → Says text (typed (lines_from (suc (suc n)) t pieces)))
        → Says text (typed (on_some (λ t. lines_from (suc (suc n)) t pieces) (faulty (suc n)) o))
    go none j later = FirstFault.refused piece rest short a u j
    go (some t) j later = later t j

sheet_says : (text : List ℕ) → Says text (sheet_of text)
unfolding sheet_of outcome_of
sheet_says text = go (leb (length text) 16384) refl
  where
    go : (t : Bool) → leb (length text) 16384 ≡ t → Says text (typed (cond t (lines_from 1 no_lines (split newline text)) (faulty 0)))
    go true e = lines_say (leb-true (length text) 16384 e) start (parted text)
    go false e = FirstFault.too_long (leb-false (length text) 16384 e)

-- ---- and what its lines say, it is

line_read : (n : ℕ) (s t : SoFar) (line rest : List ℕ) → Unbroken line → judge s line ≡ some t
    → lines_from n s (split newline (line ++ newline ∷ rest)) ≡ lines_from (suc n) t (split newline rest)
unfolding lines_from
line_read n s t line rest u j = rw (split_line line rest u, some_piece (parted rest), j)

line_refused : (n : ℕ) (s : SoFar) (line rest : List ℕ) → Unbroken line → judge s line ≡ none
    → lines_from n s (split newline (line ++ newline ∷ rest)) ≡ faulty n
unfolding lines_from
line_refused n s line rest u j = rw (split_line line rest u, some_piece (parted rest), j)

line_unended : (n : ℕ) (s : SoFar) (line : List ℕ) → Unbroken line → ¬ (line ≡ []) → lines_from n s (split newline line) ≡ faulty n
unfolding lines_from
line_unended n s [] u filled = absurd (filled refl)
line_unended n s (b ∷ bs) u filled = rw (split_last (b ∷ bs) u)

-- the reading goes on behind the accepted lines
read_on : {text rest : List ℕ} {n : ℕ} {s : SoFar} → Accepted text n s rest
    → lines_from 1 no_lines (split newline text) ≡ lines_from (suc n) s (split newline rest)
read_on start = refl
read_on (next {n = n} {s = s} {t = t} {rest = rest} line a u j) = read_on a ∙ line_read (suc n) s t line rest u j

module _ (text : List ℕ) where
  sheet_is : length text ≤ 16384 → sheet_of text ≡ typed (lines_from 1 no_lines (split newline text))
  unfolding sheet_of outcome_of
  sheet_is short = rw (le-leb (length text) 16384 short)

  fault_shows : {k : ℕ} → FirstFault text k → sheet_of text ≡ faulty_at k
  unfolding sheet_of outcome_of lines_from split
  fault_shows (FirstFault.too_long long) = rw (lt-leb (length text) 16384 long)
  fault_shows (FirstFault.empty e) = ap sheet_of e
  fault_shows (FirstFault.refused {n = n} {s = s} line rest short a u j) = sheet_is short ∙ ap typed (read_on a ∙ line_refused (suc n) s line rest u j)
  fault_shows (FirstFault.unended {n = n} {s = s} {line = line} short a u filled) = sheet_is short ∙ ap typed (read_on a ∙ line_unended (suc n) s line u filled)

  whole_shows : {T : Datatype} → Whole text T → sheet_of text ≡ of_type T
  unfolding lines_from split
  whole_shows w = sheet_is w.short ∙ ap typed (read_on w.each)

-- ---- the laws

-- "the first faulty line is reported, from 1"
pub first_fault : (text : List ℕ) (k : ℕ) → sheet_of text ≡ faulty_at k ↔ FirstFault text k
first_fault text k = (λ e. subst (Says text) e (sheet_says text), fault_shows text)

-- and a sheet without a faulty line is of the type of its last type line
pub whole : (text : List ℕ) (T : Datatype) → sheet_of text ≡ of_type T ↔ Whole text T
whole text T = (λ e. subst (Says text) e (sheet_says text), whole_shows text)

-- The line that is shown of a refused sheet is the faulty one: the lines before it are accepted, and it stands behind them. Assumes nothing.
use mathlib.Core.Path.{◌≡◌, refl, sym, ap, ◌∙◌, subst}
use mathlib.Core.List.{List, [], ◌∷◌, ◌++◌, append-nil, append_assoc}
use Prim.Native.Nat.{ℕ, suc, ◌+◌}
use native.Mathlib.Omega.{arith}
use borrow.Author.Tests.{ne_eqb}
use lib.ListN.{get_or}
use Rattle.text.specs.Text.{newline, before}
use Rattle.sheet.specs.Sheet.{SoFar, sheet_of}
use Rattle.sheet.specs.Sheet.Sheet.{faulty_at}
use Rattle.sheet.specs.FirstFault.{Unbroken, Accepted, FirstFault}
use Rattle.sheet.specs.FirstFault.Accepted.{start, next}
use Rattle.sheet.specs.FirstFault.FirstFault.{too_long, empty, refused, unended}
use Rattle.sheet.proofs.FirstFault.{first_fault}
use Rattle.reader.specs.Lines.{lines, line_numbered}
use Rattle.reader.proofs.Lines.{lines_none, lines_byte}

-- the first n lines of the text are accepted, and line n, counted from 0, stands behind them
pub record Follows (text : List ℕ) (n : ℕ) : Type 0 where
  pub so_far : SoFar
  pub rest : List ℕ
  pub accepted : Accepted text n so_far (line_numbered text n ++ rest)

-- ---- the lines of a text whose first line is known

lines_line : (line rest : List ℕ) → Unbroken line → lines (line ++ newline ∷ rest) ≡ (line ++ newline ∷ []) ∷ lines rest
lines_line [] rest u = lines_byte newline rest
lines_line (b ∷ bs) rest u =
    lines_byte b (bs ++ newline ∷ rest) ∙ simp (ne_eqb b newline u.0) (ap (before b) (lines_line bs rest u.1))

lines_last : (line : List ℕ) → Unbroken line → lines line ≡ line ∷ []
lines_last [] u = lines_none
lines_last (b ∷ bs) u = lines_byte b bs ∙ simp (ne_eqb b newline u.0) (ap (before b) (lines_last bs u.1))

-- ---- behind the accepted lines

behind : {text rest : List ℕ} {n : ℕ} {s : SoFar} → Accepted text n s rest → (k : ℕ) → line_numbered text (n + k) ≡ line_numbered rest k
unfolding line_numbered
behind start k = let e : 0 + k ≡ k = omega arith in rw e refl
behind (next {n} {rest = rest} line a u j) k =
    let e : suc n + k ≡ n + suc k = omega arith in
    rw e (behind a (suc k) ∙ ap (λ (l : List (List ℕ)). get_or l (suc k) []) (lines_line line rest u))

here : {text rest : List ℕ} {n : ℕ} {s : SoFar} → Accepted text n s rest → line_numbered text n ≡ line_numbered rest 0
here {n = n} a = let e : n + 0 ≡ n = omega arith in rw e at (behind a 0)

follows : {text rest : List ℕ} {n : ℕ} {s : SoFar} (more : List ℕ) → Accepted text n s rest → line_numbered rest 0 ++ more ≡ rest → Follows text n
follows {text} {rest} {n} {s} more a e =
    record { so_far = s; rest = more; accepted = subst (Accepted text n s) (sym (ap (λ (l : List ℕ). l ++ more) (here a) ∙ e)) a }

located : (text : List ℕ) (n m : ℕ) → m ≡ suc n → FirstFault text m → Follows text n
unfolding line_numbered
located text n m e (too_long h) = absurd (omega arith)
located text n m e (empty h) =
    let zero-lines : 0 ≡ n = omega arith in
    let nothing : line_numbered text 0 ≡ text = ap (λ (t : List ℕ). line_numbered t 0) h ∙ ap (λ (l : List (List ℕ)). get_or l 0 []) lines_none ∙ sym h in
    subst (Follows text) zero-lines (follows [] start (append-nil (line_numbered text 0) ∙ nothing))
located text n m e (refused {n = k} line rest h a u j) =
    let lines-before : k ≡ n = omega arith in
    let first : line_numbered (line ++ newline ∷ rest) 0 ≡ line ++ newline ∷ [] = ap (λ (l : List (List ℕ)). get_or l 0 []) (lines_line line rest u) in
    subst (Follows text) lines-before (follows rest a (ap (λ (l : List ℕ). l ++ rest) first ∙ append_assoc line (newline ∷ []) rest))
located text n m e (unended {n = k} {line = line} h a u j) =
    let lines-before : k ≡ n = omega arith in
    let first : line_numbered line 0 ≡ line = ap (λ (l : List (List ℕ)). get_or l 0 []) (lines_last line u) in
    subst (Follows text) lines-before (follows [] a (append-nil (line_numbered line 0) ∙ first))

-- a sheet that is refused at line n + 1
pub faulty_line : (text : List ℕ) (n : ℕ) → sheet_of text ≡ faulty_at (suc n) → Follows text n
faulty_line text n e = located text n (suc n) refl ((first_fault text (suc n)).0 e)

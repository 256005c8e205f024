-- Document 01, "Layout sheets", in its own words: "A line is judged by itself and the lines before it; the first faulty line is reported, from 1."
-- What makes a line the first faulty one, and what makes a sheet a whole one, line by line and with no order of reading in it.
use Rattle.std.specs.Prelude.{◌≡◌, List, [], ◌∷◌, ◌++◌, ℕ, suc, ◌≤◌, ◌<◌, length}
use Rattle.std.proofs.Math.Option.{none, some}
use Rattle.datatype.specs.Datatype.{Datatype}
use Rattle.text.specs.Text.{newline}
use Rattle.sheet.specs.Sheet.{SoFar, judge}

-- byte 10 does not stand in it
abbrev pub Unbroken : List ℕ → Type 0
Unbroken [] = Unit {0}
Unbroken (b ∷ bs) = ¬ (b ≡ newline) × Unbroken bs

-- no type yet, and no value or member line
abbrev pub no_lines : SoFar
no_lines = record { types = []; rows = 0 }

-- The first n lines of the text, each ended by byte 10, are accepted, each after those before it, and give s. Behind them stands `rest`.
pub data Accepted (text : List ℕ) : ℕ → SoFar → List ℕ → Type 0 where
  start : Accepted text 0 no_lines text
  next : {n : ℕ} {s t : SoFar} {rest : List ℕ} (line : List ℕ) → Accepted text n s (line ++ newline ∷ rest) → Unbroken line → judge s line ≡ some t
      → Accepted text (suc n) t rest

-- the number of the text's first faulty line
pub data FirstFault (text : List ℕ) : ℕ → Type 0 where
  -- "a sheet over 16,384 bytes at line 0"
  too_long : 16384 < length text → FirstFault text 0
  -- "An empty sheet is faulty at line 1"
  empty : text ≡ [] → FirstFault text 1
  -- the n lines before it are accepted, and the next one is not
  refused : {n : ℕ} {s : SoFar} (line rest : List ℕ) → length text ≤ 16384 → Accepted text n s (line ++ newline ∷ rest) → Unbroken line → judge s line ≡ none
      → FirstFault text (suc n)
  -- "a last line without byte 10 at its own number": the n lines before it are accepted, and no byte 10 stands behind it
  unended : {n : ℕ} {s : SoFar} {line : List ℕ} → length text ≤ 16384 → Accepted text n s line → Unbroken line → ¬ (line ≡ []) → FirstFault text (suc n)

-- no line is faulty. "The last type is the sheet's type."
pub record Whole (text : List ℕ) (T : Datatype) : Type 0 where
  pub short : length text ≤ 16384
  pub lines : ℕ
  pub types : List Datatype
  pub rows : ℕ
  pub each : Accepted text lines (record { types = T ∷ types; rows = rows }) []

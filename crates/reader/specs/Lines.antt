-- Document 01, "Lines of text, each ended by byte 10": the lines of a text with their ends, and the places where they start.
use Rattle.std.specs.Prelude.{List, [], ◌∷◌, ◌++◌, ℕ, zero, suc, ◌+◌, length, get_or, drop}
use Rattle.text.specs.Text.{newline, split}

-- the byte 10 that parts a piece of a text from the pieces behind it
abbrev pub end : List (List ℕ) → List ℕ
end [] = []
end (p ∷ ps) = newline ∷ []

-- the pieces of a text, each with the byte 10 behind it; behind the last one stands none
unfoldable pub ended : List (List ℕ) → List (List ℕ)
ended [] = []
ended (p ∷ ps) = (p ++ end ps) ∷ ended ps

-- the lines of a text; a last line without byte 10, perhaps an empty one, is one of them
unfoldable pub lines : List ℕ → List (List ℕ)
lines s = ended (split newline s)

-- line k of a text, counted from 0, and nothing behind the last one
unfoldable pub line_numbered : List ℕ → ℕ → List ℕ
line_numbered s k = get_or (lines s) k []

-- the bytes of the first n lines
unfoldable pub bytes_of : ℕ → List (List ℕ) → ℕ
bytes_of zero ls = 0
bytes_of (suc n) [] = 0
bytes_of (suc n) (l ∷ ls) = length l + bytes_of n ls

-- the place behind the next n lines from a place: where the line after them starts
unfoldable pub place_after : List ℕ → ℕ → ℕ → ℕ
place_after s at n = at + bytes_of n (lines (drop at s))

-- the line at a place
unfoldable pub line_from : List ℕ → ℕ → List ℕ
line_from s at = line_numbered (drop at s) 0

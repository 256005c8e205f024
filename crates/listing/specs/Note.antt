-- What the list program says of a refused sheet on standard error: the faulty line itself.
use Rattle.std.specs.Prelude.{Bool, cond, ◌&&◌, ◌||◌, List, [], ◌++◌, map, ℕ, ◌-◌, length, get_or, leb, eqb}
use Rattle.text.specs.Text.{bytes, tab, newline}
use Rattle.text.specs.Field.{decimal_of}
use Rattle.reader.specs.Lines.{line_numbered}
use Rattle.sheet.specs.Sheet.{Sheet, sheet_of}
use Rattle.sheet.specs.Sheet.Sheet.{of_type, faulty_at}

-- a byte as it is shown: a printing one, a tab and a newline as they are, any other, which a terminal might obey, as `?`
abbrev pub shown : ℕ → ℕ
shown b = cond (eqb b tab || eqb b newline || (leb 32 b && leb b 126)) b 63

-- byte 10 ends the line
abbrev pub is_ended : List ℕ → Bool
is_ended line = eqb (get_or line (length line - 1) 0) newline

abbrev pub ending : Bool → List ℕ
ending e = cond e [] (bytes "\nthe sheet ends there, without byte 10\n")

-- line k, counted from 1, with its text
unfoldable pub line_note : ℕ → List ℕ → List ℕ
line_note k line = bytes "line " ++ decimal_of k ++ bytes ": " ++ map shown line ++ ending (is_ended line)

-- what is said of a sheet whose first faulty line is line k: "a sheet over 16,384 bytes at line 0"
unfoldable pub note_of : List ℕ → ℕ → List ℕ
note_of text k = cond (eqb k 0) (bytes "the sheet is longer than 16,384 bytes\n") (line_note k (line_numbered text (k - 1)))

-- what is said beside the output for what the sheet says: nothing of one that reads
abbrev pub note_beside : List ℕ → Sheet → List ℕ
note_beside text (of_type T) = []
note_beside text (faulty_at k) = note_of text k

-- what the program says of a text on standard error
unfoldable pub said_of : List ℕ → List ℕ
said_of text = note_beside text (sheet_of text)

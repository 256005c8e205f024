-- Document 01, "The leaf list": "The program reads a sheet on standard input and prints the list, or one line `refused⇥number⇥line`."
use Rattle.std.specs.Prelude.{Option, Some, None, List, ◌++◌, ℕ}
use Rattle.answer.specs.declared.Answer.{Answer}
use Rattle.answer.specs.declared.Answer.TheVariants.{Source}
use Rattle.answer.specs.Answer.{number_of, values_of}
use Rattle.text.specs.Text.{bytes}
use Rattle.text.specs.Field.{decimal_of}
use Rattle.sheet.specs.Sheet.{Sheet, sheet_of}
use Rattle.sheet.specs.Sheet.Sheet.{of_type, faulty_at}
use Rattle.leaf_lines.specs.LeafList.{leaf_list}

unfoldable pub refused_line : ℕ → ℕ → List ℕ
refused_line number line = bytes "refused\t" ++ decimal_of number ++ bytes "\t" ++ decimal_of line ++ bytes "\n"

-- the line of a refusal: document 01's number of the answer, and the line that stands beside it
abbrev pub refusal : Answer → List ℕ
refusal a = refused_line (number_of a) (values_of a).line

-- what is printed, by what the sheet says: with room for every list and a whole table, only SOURCE refuses
abbrev pub printed : Sheet → List ℕ
printed (of_type T) = leaf_list T
printed (faulty_at k) = refusal (Source k)

-- what the program prints for a text
unfoldable pub output_of : List ℕ → List ℕ
output_of text = printed (sheet_of text)

-- the faulty line of a refused sheet
abbrev pub faulty_line : Sheet → Option ℕ
faulty_line (of_type T) = None
faulty_line (faulty_at k) = Some k

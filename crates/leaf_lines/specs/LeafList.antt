-- Document 01, "The leaf list": the list as bytes.
use Rattle.std.specs.Prelude.{List, [], ◌∷◌, ◌++◌, ℕ, zero, suc}
use Rattle.layout.specs.declared.Class.{Class}
use Rattle.layout.specs.declared.Class.TheVariants.{Int, Bits}
use Rattle.datatype.specs.Datatype.{Leaf, leaf_size, Datatype, size}
use Rattle.datatype.specs.Datatype.Leaf.{atomic, enumeration, real}
use Rattle.datatype.specs.Symbols.{on_some}
use Rattle.datatype.specs.Leaves.{leaf_at}
use Rattle.text.specs.Text.{bytes, tab, newline}
use Rattle.text.specs.Field.{decimal_of}

abbrev pub atomic_name : Class → List ℕ
atomic_name Int = bytes "int"
atomic_name Bits = bytes "bits"

abbrev pub class_name : Leaf → List ℕ
class_name (atomic l) = atomic_name l.class
class_name (enumeration l ss) = bytes "enum"
class_name (real l) = bytes "real"

-- a leaf's line: `at⇥size⇥class`
abbrev pub leaf_line : ℕ → Leaf → List ℕ
leaf_line b x = decimal_of b ++ (tab ∷ decimal_of (leaf_size x)) ++ (tab ∷ class_name x) ++ (newline ∷ [])

-- "In byte order": the lines of the leaves that start at the k bytes from b on
unfoldable pub leaf_lines : Datatype → ℕ → ℕ → List ℕ
leaf_lines T b zero = []
leaf_lines T b (suc k) = on_some (leaf_line b) [] (leaf_at T b) ++ leaf_lines T (suc b) k

abbrev pub header : List ℕ
header = bytes "at\tsize\tclass\n"

-- "a header of column names, then tabbed lines, numbers in decimal"
unfoldable pub leaf_list : Datatype → List ℕ
leaf_list T = header ++ leaf_lines T 0 (size T)

-- the line of the leaf that starts at byte b, and nothing where none does
unfoldable pub line_at : Datatype → ℕ → List ℕ
line_at T b = on_some (leaf_line b) [] (leaf_at T b)

-- Document 02, 2026-06: "list each matched leaf where they differ: `record⇥at⇥first⇥second`, at in the second layout, then both numbers, a real's as its 64
-- bits".
use Rattle.std.specs.Prelude.{cond, List, [], ◌∷◌, ◌++◌, ℕ, zero, suc, ℤ}
use Rattle.datatype.specs.Datatype.{Leaf, Datatype, size}
use Rattle.datatype.specs.Matches.{on_match, match_at}
use Rattle.text.specs.Text.{bytes, tab, newline}
use Rattle.text.specs.Field.{decimal_of, signed_of}
use Rattle.records.specs.Leaf.{number_in}
use Rattle.records.specs.Records.{record_at}
use Rattle.differences.specs.Same.{same_in}

-- a leaf whose numbers differ: its record, the byte of the second log's record at which it starts, and both numbers
pub record Difference : Type 0 where
  pub index : ℕ
  pub at : ℕ
  pub first : ℤ
  pub second : ℤ

-- of the source leaf x at byte a of the record r, and the leaf y at byte b of the record q
abbrev pub of_leaf : ℕ → ℕ → List ℕ → List ℕ → ℕ → Leaf → Leaf → List Difference
of_leaf i b r q a x y =
    cond (same_in x y (number_in x a r) (number_in y b q)) [] (record { index = i; at = b; first = number_in x a r; second = number_in y b q } ∷ [])

-- of the leaf that starts at byte b, where it is matched; r and q are record i of the two logs
unfoldable pub at_byte : Datatype → Datatype → ℕ → List ℕ → List ℕ → ℕ → List Difference
at_byte S D i r q b = on_match (of_leaf i b r q) [] (match_at S D b)

-- of the leaves that start at the k bytes from b on
unfoldable pub in_record : Datatype → Datatype → ℕ → List ℕ → List ℕ → ℕ → ℕ → List Difference
in_record S D i r q b zero = []
in_record S D i r q b (suc k) = at_byte S D i r q b ++ in_record S D i r q (suc b) k

-- "Order: record, then byte": of the k records from i on
unfoldable pub in_records : Datatype → Datatype → List ℕ → List ℕ → ℕ → ℕ → List Difference
in_records S D first second i zero = []
in_records S D first second i (suc k) =
    in_record S D i (record_at (size S) i first) (record_at (size D) i second) 0 (size D) ++ in_records S D first second (suc i) k

abbrev pub differences : Datatype → Datatype → ℕ → List ℕ → List ℕ → List Difference
differences S D n first second = in_records S D first second 0 n

-- ---- the list as bytes

abbrev pub line : Difference → List ℕ
line d = decimal_of d.index ++ (tab ∷ decimal_of d.at) ++ (tab ∷ signed_of d.first) ++ (tab ∷ signed_of d.second) ++ (newline ∷ [])

unfoldable pub lines : List Difference → List ℕ
lines [] = []
lines (d ∷ ds) = line d ++ lines ds

abbrev pub header : List ℕ
header = bytes "record\tat\tfirst\tsecond\n"

unfoldable pub shown : List Difference → List ℕ
shown ds = header ++ lines ds

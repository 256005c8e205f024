-- Document 02, 2026-06: when the matched number of a leaf of the first log is the same as the number in the second log's leaf.
-- IsSame.antt says the same without a test.
use Rattle.std.specs.Prelude.{Bool, false, List, ℕ, ℤ}
use Rattle.std.proofs.Math.Option.{Option, none, some}
use Rattle.reals.specs.Compare.{equals}
use Rattle.datatype.specs.Datatype.{Symbol, Leaf, same}
use Rattle.datatype.specs.Datatype.Leaf.{atomic, enumeration, real}
use Rattle.datatype.specs.Symbols.{same_number, symbol_of}
use Rattle.records.specs.Leaf.{symbols, real_bits}

-- "enums compare by symbol, and a number without a symbol equals only the same number without one"
abbrev pub same_named : Option (List ℕ) → Option (List ℕ) → Bool → Bool
same_named (some x) (some y) numbers = same x y
same_named (some x) none numbers = false
same_named none (some y) numbers = false
same_named none none numbers = numbers

abbrev pub same_symbol : List Symbol → List Symbol → ℤ → ℤ → Bool
same_symbol ss ts z w = same_named (symbol_of z ss) (symbol_of w ts) (same_number z w)

-- "Numbers compare exactly, whatever the widths"; "a real against an int by exact worth, where not-a-number always differs": the number z of leaf x against
-- the number w of an int or bits
abbrev pub same_as_whole : Leaf → ℤ → ℤ → Bool
same_as_whole (atomic k) z w = same_number z w
same_as_whole (enumeration k ss) z w = same_number z w
same_as_whole (real k) z w = equals (real_bits z) w

-- "a real against a real compares its 64 bits": against the number w of a real
abbrev pub same_as_real : Leaf → ℤ → ℤ → Bool
same_as_real (atomic k) z w = equals (real_bits w) z
same_as_real (enumeration k ss) z w = equals (real_bits w) z
same_as_real (real k) z w = same_number z w

-- the number z of leaf x, in the first log, against the number w of leaf y, in the second
abbrev pub same_in : Leaf → Leaf → ℤ → ℤ → Bool
same_in x (atomic l) z w = same_as_whole x z w
same_in x (enumeration l ts) z w = same_symbol (symbols x) ts z w
same_in x (real l) z w = same_as_real x z w

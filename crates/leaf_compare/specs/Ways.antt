-- The ways in which the numbers of two leaves are compared, by what was looked up of them. No meaning of document 02 stands here: that is in crate differences.
use Rattle.std.specs.Prelude.{Option, Some, None, Bool, true, false, ℕ, ℤ}
use Rattle.reals.specs.Compare.{equals}
use Rattle.datatype.specs.Symbols.{same_number}
use Rattle.records.specs.Leaf.{real_bits}

-- against a number without a symbol
abbrev pub unless_found : Option ℕ → Bool → Bool
unless_found (Some j) numbers = false
unless_found None numbers = numbers

-- by whether the first and the second leaf are reals
abbrev pub same_worth : Bool → Bool → ℤ → ℤ → Bool
same_worth true true z w = same_number z w
same_worth true false z w = equals (real_bits z) w
same_worth false true z w = equals (real_bits w) z
same_worth false false z w = same_number z w

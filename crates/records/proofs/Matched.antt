-- Which bits of n source records the matched numbers turn on: the significant bits of the matched source leaves, each of them and no other. Assumes nothing.
use mathlib.Core.List.{List}
use Prim.Native.Nat.{ℕ}
use Rattle.number.proofs.Bits.{same_bits, same_number}
use Rattle.datatype.specs.Datatype.{layout_of, Datatype, size}
use Rattle.datatype.specs.WellFormed.{WellFormed}
use Rattle.datatype.proofs.Ways.{valid}
use Rattle.datatype.proofs.Matches.{match_formed}
use Rattle.records.specs.Records.{record_at}
use Rattle.records.specs.Matched.{Agree, SameSignificantBits}

module _ (S D : Datatype) (n : ℕ) (p q : List ℕ) where
  -- the same significant bits: the same matched numbers
  pub bits_agree : SameSignificantBits S D n p q → Agree S D n p q
  bits_agree same m =
      same_bits (layout_of m.source) m.from (record_at (size S) m.index p) (record_at (size S) m.index q)
      (λ k h l. same (record { leaf = m; at = k; from_offset = h; within_precision = l }))

  -- the same matched numbers: the same significant bits
  pub agree_bits : WellFormed S → WellFormed D → Agree S D n p q → SameSignificantBits S D n p q
  agree_bits f g same s =
      let m = s.leaf in
      same_number (layout_of m.source) m.from (record_at (size S) m.index p) (record_at (size S) m.index q)
      (valid m.source (match_formed S D f g m.to m.from m.source m.destination m.match).0) (same m) s.at s.from_offset s.within_precision

-- Document 01, "Layout sheets": the layouts of int and bits types, and which of them are valid.
use Rattle.std.specs.Prelude.{◌≡◌, Bool, true, not, ◌&&◌, ◌+◌, ◌*◌, ◌≤◌, leb}
use Rattle.layout.specs.declared.Class.{Class}
use Rattle.layout.specs.declared.Class.TheVariants.{Int, Bits}
use Rattle.layout.specs.declared.Layout.{Layout}

-- "a bits number is unsigned"
abbrev pub may_sign : Class → Bool → Bool
may_sign Int signed = true
may_sign Bits signed = not signed

-- "Rules: atomic size 1..8 bytes, precision 1..64, offset + precision at most 8 × size."
abbrev pub valid : Layout → Bool
valid l =
    leb 1 l.size.0 && leb l.size.0 8
    && leb 1 l.precision && leb l.precision 64
    && leb (l.offset.0 + l.precision) (8 * l.size.0)
    && may_sign l.class l.signed

-- the same rules as facts, for contracts and proofs
pub record Valid (l : Layout) : Type 0 where
  pub some_bytes : 1 ≤ l.size.0
  pub sized : l.size.0 ≤ 8
  pub some : 1 ≤ l.precision
  pub most : l.precision ≤ 64
  pub inside : l.offset.0 + l.precision ≤ 8 * l.size.0
  pub sign : may_sign l.class l.signed ≡ true

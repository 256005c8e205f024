-- Document 01, "Paths and conversion": what a number that was read stands for in its destination leaf.
use Rattle.std.specs.Prelude.{◌≡◌, true, ℕ, ℤ}
use Rattle.std.proofs.Math.Option.{some}
use Rattle.number.specs.Number.{valued}
use Rattle.reals.specs.Compare.{equals}
use Rattle.datatype.specs.Datatype.{Leaf, layout_of}
use Rattle.datatype.specs.Datatype.Leaf.{atomic, enumeration, real}
use Rattle.records.specs.Leaf.{symbols, translated, real_bits}

-- the number that significant bits stand for in leaf x
abbrev pub stands_for : Leaf → ℕ → ℤ
stands_for x bits = valued (layout_of x).signed (layout_of x).precision bits

-- Where the number z of the source leaf x raised no exception, the number w in the destination leaf y: "the number itself", for an enum the number of z's
-- symbol, and between an int and a real what is worth the same.
abbrev pub InAtomic : Leaf → ℤ → ℤ → Type 0
InAtomic (atomic k) z w = w ≡ z
InAtomic (enumeration k ss) z w = w ≡ z
InAtomic (real k) z w = equals (real_bits z) w ≡ true

abbrev pub InReal : Leaf → ℤ → ℤ → Type 0
InReal (atomic k) z w = equals (real_bits w) z ≡ true
InReal (enumeration k ss) z w = equals (real_bits w) z ≡ true
InReal (real k) z w = w ≡ z

abbrev pub Arrives : Leaf → Leaf → ℤ → ℤ → Type 0
Arrives x (atomic l) z w = InAtomic x z w
Arrives x (enumeration l ts) z w = translated (symbols x) ts z ≡ some w
Arrives x (real l) z w = InReal x z w

-- Document 01, "Rules": what holds of every datatype that a sheet gives.
use Rattle.std.specs.Prelude.{◌≡◌, ◌⊎◌, List, [], ◌∷◌, ℕ, ◌+◌, ◌*◌, ◌≤◌, length}
use Rattle.std.proofs.Math.Option.{none}
use Rattle.layout.specs.declared.Class.TheVariants.{Int}
use Rattle.layout.specs.declared.Layout.{Layout}
use Rattle.layout.specs.Layout.{Valid}
use Rattle.number.specs.Number.{fitted}
use Rattle.datatype.specs.Datatype.{Symbol, Leaf, binary64, Datatype, Members, size, elements}
use Rattle.datatype.specs.Datatype.Leaf.{atomic, enumeration, real}
use Rattle.datatype.specs.Datatype.Datatype.{leaf, compound, array}
use Rattle.datatype.specs.Datatype.Members.{empty, member}
use Rattle.datatype.specs.Symbols.{symbol_of, number_of}
use Rattle.datatype.specs.Paths.{member_named}
use Rattle.datatype.specs.Paths.Lookup.{missing}

-- "names and numbers in one enum are unique; each number lies in the base's range": the symbol s after the symbols ss, in the base's layout l
pub record Listed (l : Layout) (s : Symbol) (ss : List Symbol) : Type 0 where
  pub name_once : number_of s.name ss ≡ none
  pub number_once : symbol_of s.number ss ≡ none
  pub in_range : (fitted l s.number).kind ≡ 0

abbrev pub Symbols : Layout → List Symbol → Type 0
Symbols l [] = Unit {0}
Symbols l (s ∷ ss) = Listed l s ss × Symbols l ss

-- "An enum's base is an int"
pub record Enumeration (l : Layout) (ss : List Symbol) : Type 0 where
  pub base : Valid l
  pub int : l.class ≡ Int
  pub symbols : Symbols l ss

abbrev pub WellFormedLeaf : Leaf → Type 0
WellFormedLeaf (atomic l) = Valid l
WellFormedLeaf (enumeration l ss) = Enumeration l ss
WellFormedLeaf (real l) = l ≡ binary64 l.order

-- the w bytes from offset on overlap no member
abbrev pub Apart : ℕ → ℕ → Members → Type 0
Apart offset w empty = Unit {0}
Apart offset w (member y p U word ms) = ((offset + w ≤ p) ⊎ (p + size U ≤ offset)) × Apart offset w ms

-- "with unique names, inside the size, not overlapping": a member of w bytes, after the members ms, in a compound of z bytes
pub record Placed (z : ℕ) (x : List ℕ) (offset w : ℕ) (ms : Members) : Type 0 where
  pub inside : offset + w ≤ z
  pub apart : Apart offset w ms
  pub name_once : member_named x ms ≡ missing

-- "A compound has size 1..4,096"
pub record CompoundSize (z : ℕ) : Type 0 where
  pub some : 1 ≤ z
  pub most : z ≤ 4096

abbrev pub EachSome : List ℕ → Type 0
EachSome [] = Unit {0}
EachSome (d ∷ ds) = (1 ≤ d) × EachSome ds

-- "An array has up to four dimensions, each at least 1; its size is their product times the base's size, at most 4,096."
pub record ArraySize (z : ℕ) (ds : List ℕ) (w : ℕ) : Type 0 where
  pub some : 1 ≤ length ds
  pub rank : length ds ≤ 4
  pub each : EachSome ds
  pub product : z ≡ elements ds * w
  pub most : z ≤ 4096

abbrev mutual
  pub WellFormed : Datatype → Type 0
  WellFormed (leaf x) = WellFormedLeaf x
  WellFormed (compound z ms) = CompoundSize z × WellFormedIn z ms
  WellFormed (array z ds T) = ArraySize z ds (size T) × WellFormed T

  pub WellFormedIn : ℕ → Members → Type 0
  WellFormedIn z empty = Unit {0}
  WellFormedIn z (member x offset T word ms) = Placed z x offset (size T) ms × WellFormed T × WellFormedIn z ms

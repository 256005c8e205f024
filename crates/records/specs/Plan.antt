-- What a call works out once, before its records: the matched leaves in byte order, and one record by them.
use Rattle.std.specs.Prelude.{List, [], ◌∷◌, ℕ, zero, suc, ◌+◌, ◌≤◌}
use Rattle.answer.specs.declared.Given.{Given}
use Rattle.number.specs.declared.Fitted.{Fitted}
use Rattle.number.specs.Place.{stored}
use Rattle.datatype.specs.Datatype.{Leaf, layout_of, leaf_size, Datatype, size}
use Rattle.datatype.specs.Matches.{on_match, match_at}
use Rattle.datatype.specs.WellFormed.{WellFormedLeaf}
use Rattle.records.specs.Leaf.{number_in, converted}
use Rattle.records.specs.Record.{raises}

-- a matched leaf: the byte of the destination record at which it starts, that of its source leaf in the source record, and the two leaves
pub record Entry : Type 0 where
  pub to : ℕ
  pub from : ℕ
  pub source : Leaf
  pub destination : Leaf

-- the matched leaves that start at the k bytes from b on
unfoldable pub plan_from : Datatype → Datatype → ℕ → ℕ → List Entry
plan_from S D b zero = []
plan_from S D b (suc k) =
    let later = plan_from S D (suc b) k in
    on_match (λ a x y. record { to = b; from = a; source = x; destination = y } ∷ later) later (match_at S D b)

abbrev pub plan_of : Datatype → Datatype → List Entry
plan_of S D = plan_from S D 0 (size D)

-- what the entry's number in the source record r becomes
abbrev pub becomes : Entry → List ℕ → Fitted
becomes e r = converted e.source e.destination (number_in e.source e.from r)

-- the destination record d with the entries' leaves written, one after the other
unfoldable pub written : List Entry → List ℕ → List ℕ → List ℕ
written [] r d = d
written (e ∷ es) r d = written es r (stored (layout_of e.destination) e.to (becomes e r).raw d)

-- how many of them raise an exception
unfoldable pub raised_by : List Entry → List ℕ → ℕ
raised_by [] r = 0
raised_by (e ∷ es) r = raises (becomes e r).kind + raised_by es r

-- the first that raises one: its byte of the destination record, the kind, and what was given
pub data Raised : Type 0 where
  nowhere : Raised
  at : ℕ → ℕ → Given → Raised

abbrev pub or_else : ℕ → ℕ → Given → Raised → Raised
or_else b zero given later = later
or_else b (suc kind) given later = at b (suc kind) given

unfoldable pub first_by : List Entry → List ℕ → Raised
first_by [] r = nowhere
first_by (e ∷ es) r = or_else e.to (becomes e r).kind (becomes e r).given (first_by es r)

-- an entry that lies inside source records of s bytes and destination records of d bytes, between well-formed leaves
pub record Sound (s d : ℕ) (e : Entry) : Type 0 where
  pub source : WellFormedLeaf e.source
  pub destination : WellFormedLeaf e.destination
  pub read : e.from + leaf_size e.source ≤ s
  pub write : e.to + leaf_size e.destination ≤ d

abbrev pub AllSound : ℕ → ℕ → List Entry → Type 0
AllSound s d [] = Unit {0}
AllSound s d (e ∷ es) = Sound s d e × AllSound s d es

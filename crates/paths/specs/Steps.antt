-- What the functions inside the crate promise, a step of a walk each. No public contract cites this file.
use Rattle.std.specs.Prelude.{Option, Some, None, ℕ, zero, suc, ◌+◌, ◌-◌, ◌≤◌, ◌<◌, ◌≡◌, List, Bool, true, false, cond, ◌⊎◌, eqb}
use Rattle.std.proofs.Math.Option.{Option as MathOption, none, some}
use Rattle.datatype.specs.Datatype.{Leaf, Datatype, Members, size}
use Rattle.datatype.specs.Leaves.{within, leaf_at}
use Rattle.datatype.specs.Paths.{on_found, member_named}
use Rattle.datatype.specs.Matches.{Match, further, match_at}
use Rattle.datatype.specs.Matches.Match.{unmatched, matched}
use Rattle.datatype.specs.WellFormed.{WellFormed, WellFormedIn}
use Rattle.table.specs.Table.{class_word, size_word, first_word, rows_word, offset_word, member_type_word, name_at, members_at, node, decode}
use Rattle.paths.specs.declared.Step.{Step}
use Rattle.paths.specs.declared.Step.TheVariants.{Go, Here, Gone}
use Rattle.paths.specs.declared.Walk.{Walk}
use Rattle.paths.specs.declared.Walk.TheVariants.{On, Same, Off}
use Rattle.paths.specs.declared.Turn.{Turn}
use Rattle.paths.specs.declared.Turn.TheVariants.{Answer, Bases, Lists}
use Rattle.paths.specs.declared.Inner.{Inner}
use Rattle.paths.specs.Leaf.{leaf_of_type}

-- ---- types

-- D's types have the sizes that the table says
abbrev pub Sized : (ℕ → Datatype) → List ℕ → Type 0
Sized D w = (k : ℕ) → size (D k) ≡ size_word w k

-- and type i, made of them, is well formed
pub record Whole (D : ℕ → Datatype) (w t : List ℕ) (i : ℕ) : Type 0 where
  pub sized : Sized D w
  pub formed : WellFormed (node D w t i)

-- 0 int, 1 bits, 2 enum, 3 compound, 4 array, 5 real, by a class word
unfoldable pub kind_of : ℕ → ℕ
kind_of c = cond (eqb c 4) 4 (cond (eqb c 3) 3 (cond (eqb c 2) 2 (cond (eqb c 5) 5 (cond (eqb c 1) 1 0))))

abbrev pub kind_at : List ℕ → ℕ → ℕ
kind_at w i = kind_of (class_word w i)

-- ---- rows

-- byte b lies in the member in row j
abbrev pub covers : List ℕ → ℕ → ℕ → Bool
covers w j b = within (offset_word w j) (size_word w (member_type_word w j)) b

-- of the n rows from first on, the newest whose member has byte b
unfoldable pub row_over : List ℕ → ℕ → ℕ → ℕ → Option ℕ
row_over w first zero b = None
row_over w first (suc n) b = cond (covers w (first + n) b) (Some (first + n)) (row_over w first n b)

-- r is one of the n rows from first on, and its member has byte b; or no member has it. Where members do not overlap, that is the row that row_over finds
pub record OverIn (w : List ℕ) (first n b : ℕ) (r : Option ℕ) : Type 0 where
  pub has : (j : ℕ) → r ≡ Some j → (first ≤ j) × (j < first + n) × (covers w j b ≡ true)
  pub none : r ≡ None → row_over w first n b ≡ None

-- where the member in row j ends
abbrev pub row_end : List ℕ → ℕ → ℕ
row_end w j = offset_word w j + size_word w (member_type_word w j)

-- r is the lower one of o and end, if o lies behind byte b
pub record Nearer (b o end r : ℕ) : Type 0 where
  pub behind : b < r
  pub inside : r ≤ end
  pub clear : (o ≤ b) ⊎ (r ≤ o)

-- from behind byte b up to byte r, which is not past `end`, no member starts of rows `from` up to n, counted from first on
pub record GapEnd (w : List ℕ) (first from n b end r : ℕ) : Type 0 where
  pub behind : b < r
  pub inside : r ≤ end
  pub clear : (i : ℕ) → from ≤ i → i < n → (offset_word w (first + i) ≤ b) ⊎ (r ≤ offset_word w (first + i))

-- the members of type i, if that is a compound
abbrev pub members_of_type : (ℕ → Datatype) → List ℕ → List ℕ → ℕ → Members
members_of_type D w t i = members_at D w t (first_word w i) (rows_word w i)

-- ---- leaves

-- the leaf that a step leads to; x is the leaf here
abbrev pub leaf_after : (ℕ → Datatype) → Leaf → Step → MathOption Leaf
leaf_after D x (Go k b) = leaf_at (D k) b
leaf_after D x Here = some x
leaf_after D x Gone = none

abbrev pub LeafStep : List ℕ → ℕ → ℕ → Step → Type 0
LeafStep w i b r = (D : ℕ → Datatype) (t : List ℕ) → Sized D w → leaf_at (node D w t i) b ≡ leaf_after D (leaf_of_type w t i) r

-- ---- matches

-- how far a walk from byte b says what is matched: j bytes behind it
abbrev pub Reaches : List ℕ → ℕ → Walk → ℕ → Type 0
Reaches wd b (On from k l a) j = a + j < size_word wd l
Reaches wd b Same j = j ≡ 0
Reaches wd b (Off e) j = b + j < e

-- the match there that it leads to; x and y are the leaves here
abbrev pub match_after : (ℕ → Datatype) → (ℕ → Datatype) → Leaf → Leaf → Walk → ℕ → Match
match_after S D x y (On from k l a) j = further from (match_at (S k) (D l) (a + j))
match_after S D x y Same j = matched 0 x y
match_after S D x y (Off e) j = unmatched

-- it leads on by few bytes, to a byte of well-formed types, or past byte b
abbrev pub Onward : (ℕ → Datatype) → (ℕ → Datatype) → List ℕ → ℕ → Walk → Type 0
Onward S D wd b (On from k l a) = (from ≤ 4096) × (a < size_word wd l) × WellFormed (S k) × WellFormed (D l)
Onward S D wd b Same = Unit {0}
Onward S D wd b (Off e) = b < e

-- the walk r from byte b leads to the matches m, inside z bytes
pub record Led (S D : ℕ → Datatype) (x y : Leaf) (m : ℕ → Match) (wd : List ℕ) (z b : ℕ) (r : Walk) : Type 0 where
  pub is : (j : ℕ) → Reaches wd b r j → (b + j < z) × (m (b + j) ≡ match_after S D x y r j)
  pub onward : Onward S D wd b r

abbrev pub Leads : List ℕ → List ℕ → ℕ → List ℕ → List ℕ → ℕ → ℕ → Walk → Type 0
Leads ws ts s wd td d b r =
    (S D : ℕ → Datatype) → Whole S ws ts s → Whole D wd td d
    → Led S D (leaf_of_type ws ts s) (leaf_of_type wd td d) (match_at (node S ws ts s) (node D wd td d)) wd (size_word wd d) b r

-- the match, in the members ss, of the leaf at byte b that lies in the destination's row j
abbrev pub match_named : (ℕ → Datatype) → Members → List ℕ → List ℕ → ℕ → ℕ → Match
match_named D ss wd td j b =
    on_found (λ o T. further o (match_at T (D (member_type_word wd j)) (b - offset_word wd j))) unmatched (member_named (name_at wd td j) ss)

abbrev pub LeadsIn : List ℕ → List ℕ → ℕ → List ℕ → List ℕ → ℕ → ℕ → Walk → Type 0
LeadsIn ws ts s wd td j b r =
    (S D : ℕ → Datatype) (x y : Leaf) → Whole S ws ts s → WellFormed (D (member_type_word wd j))
    → Led S D x y (match_named D (members_of_type S ws ts s) wd td j) wd (row_end wd j) b r

-- ---- questions of two types

-- of two kinds, one is int and the other real
unfoldable pub int_and_real : ℕ → ℕ → Bool
int_and_real from to = cond (eqb from 0) (eqb to 5) (cond (eqb from 5) (eqb to 0) false)

-- what a turn leads to, where `ask` is the question of two types and `asks` that of two lists of members; ss and ds are the members here
abbrev pub turn_after : (Datatype → Datatype → Bool) → (Members → Members → Bool) → (ℕ → Datatype) → (ℕ → Datatype) → Members → Members → Turn → Bool
turn_after ask asks S D ss ds (Answer a) = a
turn_after ask asks S D ss ds (Bases k l) = ask (S k) (D l)
turn_after ask asks S D ss ds Lists = asks ss ds

abbrev pub Turnward : (ℕ → Datatype) → (ℕ → Datatype) → Type 0 → Turn → Type 0
Turnward S D Formed (Answer a) = Unit {0}
Turnward S D Formed (Bases k l) = WellFormed (S k) × WellFormed (D l)
Turnward S D Formed Lists = Formed

-- the turn r leads to the answer a
pub record Turned (ask : Datatype → Datatype → Bool) (asks : Members → Members → Bool) (S D : ℕ → Datatype) (z : ℕ) (ss : Members) (y : ℕ) (ds : Members) (a : Bool)
    (r : Turn) : Type 0 where
  pub is : a ≡ turn_after ask asks S D ss ds r
  pub onward : Turnward S D (WellFormedIn z ss × WellFormedIn y ds) r

abbrev pub Turns : (Datatype → Datatype → Bool) → (Members → Members → Bool) → List ℕ → List ℕ → ℕ → List ℕ → List ℕ → ℕ → Turn → Type 0
Turns ask asks ws ts s wd td d r =
    (S D : ℕ → Datatype) → Whole S ws ts s → Whole D wd td d
    → Turned ask asks S D (size_word ws s) (members_of_type S ws ts s) (size_word wd d) (members_of_type D wd td d) (ask (node S ws ts s) (node D wd td d)) r

-- the question of the destination's row j and of the member of its name among ss; without one the answer is yes
abbrev pub ask_named : (Datatype → Datatype → Bool) → (ℕ → Datatype) → Members → List ℕ → List ℕ → ℕ → Bool
ask_named ask D ss wd td j = on_found (λ o T. ask T (D (member_type_word wd j))) true (member_named (name_at wd td j) ss)

abbrev pub inner_after : (Datatype → Datatype → Bool) → (ℕ → Datatype) → (ℕ → Datatype) → Option Inner → Bool
inner_after ask S D (Some r) = ask (S r.source) (D r.destination)
inner_after ask S D None = true

abbrev pub Inward : (ℕ → Datatype) → (ℕ → Datatype) → Option Inner → Type 0
Inward S D (Some r) = WellFormed (S r.source) × WellFormed (D r.destination)
Inward S D None = Unit {0}

pub record Entered (ask : Datatype → Datatype → Bool) (S D : ℕ → Datatype) (a : Bool) (r : Option Inner) : Type 0 where
  pub is : a ≡ inner_after ask S D r
  pub onward : Inward S D r

-- the types that r says, to any depth f
abbrev pub Inside : (Datatype → Datatype → Bool) → List ℕ → List ℕ → ℕ → List ℕ → List ℕ → ℕ → Option Inner → Type 0
Inside ask ws ts s wd td j r =
    (f z : ℕ) → WellFormedIn z (members_of_type (decode f ws ts) ws ts s) → WellFormed (decode f wd td (member_type_word wd j))
    → Entered ask (decode f ws ts) (decode f wd td) (ask_named ask (decode f wd td) (members_of_type (decode f ws ts) ws ts s) wd td j) r

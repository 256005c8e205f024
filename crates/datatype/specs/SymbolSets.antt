-- Document 02, 2026-07: "on a matched pair of enums, every source symbol must stand in the destination".
use Rattle.std.specs.Prelude.{◌≡◌, ◌↔◌, Bool, true, false, cond, ◌&&◌, ◌||◌, ℕ}
use mathlib.Core.List.{List, [], ◌∷◌, Memᴰ}
use Rattle.layout.specs.declared.Layout.{Layout}
use Rattle.datatype.specs.Datatype.{Symbol, Leaf, Datatype, Members, same}
use Rattle.datatype.specs.Datatype.Leaf.{atomic, enumeration, real}
use Rattle.datatype.specs.Datatype.Datatype.{leaf, compound, array}
use Rattle.datatype.specs.Datatype.Members.{empty, member}
use Rattle.datatype.specs.Paths.{on_found, member_named, members_of, is_array_like, base_of}
use Rattle.datatype.specs.Matches.{match_at}
use Rattle.datatype.specs.Matches.Match.{matched}

-- ---- symbols, by their names alone

unfoldable pub has_symbol : List ℕ → List Symbol → Bool
has_symbol x [] = false
has_symbol x (t ∷ ts) = same x t.name || has_symbol x ts

-- every symbol of ss stands in ts
unfoldable pub all_stand_in : List Symbol → List Symbol → Bool
all_stand_in [] ts = true
all_stand_in (s ∷ ss) ts = has_symbol s.name ts && all_stand_in ss ts

-- of two leaves: only enums have symbols
abbrev pub leaf_keeps : Leaf → Leaf → Bool
leaf_keeps (atomic l) y = true
leaf_keeps (enumeration l ss) (atomic k) = true
leaf_keeps (enumeration l ss) (enumeration k ts) = all_stand_in ss ts
leaf_keeps (enumeration l ss) (real k) = true
leaf_keeps (real l) y = true

abbrev pub keeps_leaf : Datatype → Leaf → Bool
keeps_leaf (leaf x) y = leaf_keeps x y
keeps_leaf (compound z ms) y = true
keeps_leaf (array z ds T) y = true

-- ---- every matched pair of the source S and a destination: it goes by the types, whatever the count of records

unfoldable mutual
  pub keeps_symbols : Datatype → Datatype → Bool
  keeps_symbols S (leaf y) = keeps_leaf S y
  keeps_symbols S (compound z ms) = keeps_in (members_of S) ms
  keeps_symbols S (array z ds T) = cond (is_array_like S ds) (keeps_symbols (base_of S) T) true

  -- a member whose name the source lacks is not matched, so its symbols don't count
  pub keeps_in : Members → Members → Bool
  keeps_in ss empty = true
  keeps_in ss (member x offset T word ms) = on_found (λ o S. keeps_symbols S T) true (member_named x ss) && keeps_in ss ms

-- ---- the same in the paper's words: `keepsSymbols` computes that there is none of these

-- a symbol of this name stands in ss
abbrev pub Named : List ℕ → List Symbol → Type 0
Named x ss = (s : Symbol) × Memᴰ s ss × (s.name ≡ x)

-- a matched pair of enums, and a source symbol that does not stand in the destination
pub record LostSymbol (S D : Datatype) : Type 0 where
  pub to : ℕ
  pub from : ℕ
  pub source_layout : Layout
  pub source_symbols : List Symbol
  pub destination_layout : Layout
  pub destination_symbols : List Symbol
  pub match : match_at S D to ≡ matched from (enumeration source_layout source_symbols) (enumeration destination_layout destination_symbols)
  pub name : List ℕ
  pub in_source : Named name source_symbols
  pub not_in_destination : ¬ (Named name destination_symbols)

-- "matched enums have equal symbol sets": names alone, whatever their numbers and order
abbrev pub EqualSymbols : Datatype → Datatype → Type 0
EqualSymbols S D =
    (b a : ℕ) (l k : Layout) (ss ts : List Symbol) → match_at S D b ≡ matched a (enumeration l ss) (enumeration k ts) → (x : List ℕ) → Named x ss ↔ Named x ts

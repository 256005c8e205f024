-- The tables of a plan's enums, side by side, and which entries of the plan have a column. No meaning of document 01 stands here.
use Rattle.std.specs.Prelude.{◌≡◌, ◌⊎◌, List, ℕ, ◌+◌, ◌*◌, ◌<◌, get_or, take, drop}
use Rattle.entry_code.specs.Code.{route_in}
use Rattle.plans.specs.PlanWords.{source_type_of, destination_type_of, words_place, Ready}
use Rattle.symbol_tables.specs.Symbols.{SymbolsKept}

-- table j
abbrev pub table_in : List ℕ → ℕ → List ℕ
table_in tables j = take 544 (drop (544 * j) tables)

-- each of the four is that of the pair of which its word 0 tells
abbrev pub TablesKept : List ℕ → List ℕ → List ℕ → List ℕ → List ℕ → Type 0
TablesKept tables ws ts wd td = (j : ℕ) → j < 4 → SymbolsKept (table_in tables j) ws ts wd td

-- the source type s and the destination type d have a table
abbrev pub HasTable : List ℕ → ℕ → ℕ → Type 0
HasTable tables s d = (j : ℕ) × (j < 4) × (get_or (table_in tables j) 0 0 ≡ 64 * s + d + 1)

-- an entry between these types, whose words stand from word k on, has a column: it leads into no enum, or has a table
abbrev pub HasColumn : List ℕ → List ℕ → ℕ → ℕ → ℕ → Type 0
HasColumn tables words k s d = (route_in (get_or words k 0) < 4) ⊎ HasTable tables s d

-- each of n entries has one
abbrev pub Columned : List ℕ → List ℕ → ℕ → List ℕ → Type 0
Columned tables plan n words = (i : ℕ) → i < n → HasColumn tables words (words_place i) (source_type_of plan i) (destination_type_of plan i)

-- each of n entries has one by whatever texts its plan is ready
abbrev pub Tabled : List ℕ → List ℕ → ℕ → List ℕ → List ℕ → List ℕ → Type 0
Tabled tables plan n ws wd words = (s d : ℕ) (p : Ready s d plan n ws wd words) → TablesKept tables ws p.source_text wd p.destination_text × Columned tables plan n words

-- What is left of a match where only the leaves that obey stop are planned.
use Rattle.std.specs.Prelude.{List, ℕ}
use Rattle.datatype.specs.Datatype.{Datatype}
use Rattle.datatype.specs.WellFormed.{WellFormed}
use Rattle.table.specs.Table.{type_at}
use Rattle.paths.specs.declared.Pair.{Pair}
use Rattle.paths.specs.Leaf.{MatchIn, MatchFound}
use Rattle.obeying.specs.Obeying.{StopsOf}

-- m is the match at byte b of type k, and r that of the same byte of a type where the leaves that obey stop are left
abbrev pub StopMatch : List ℕ → ℕ → ℕ → ℕ → Pair → Pair → Type 0
StopMatch wd k b h m r =
    (ws ts : List ℕ) (i : ℕ) (td : List ℕ) (E : Datatype) → WellFormed (type_at ws ts i) → WellFormed (type_at wd td k) → StopsOf h (type_at wd td k) E
    → MatchFound ws ts i wd td k b m → MatchIn ws ts wd td (type_at ws ts i) E b r
